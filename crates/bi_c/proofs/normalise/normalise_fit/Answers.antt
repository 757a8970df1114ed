use Rattle.std.proofs.Common.{◌≤◌, length, refl, subst, sym, ap, ◌∙◌, ℕ, arith}
use Rattle.bi_blob.specs.Layout.{longest_text}
use Rattle.bi_fit.specs.Content.{tree_of}
use Rattle.bi_fit.specs.Text.{fit_text}
use Rattle.bi_norm.specs.NormalForm.{IsNormaliseOutput}
use Rattle.bi_norm.specs.Meaning.{OfFit, meaning_signature_count}
use Rattle.bi_norm.proofs.NormalForms.{text_error, tree_normal_form}
use Rattle.bi_c.specs.Answers.{FilledNothing}
use Rattle.bi_c.proofs.CallAnswers.{fills_as}
use Rattle.bi_c.proofs.normalise.normalise_fit.Goals as goal

pub returns-in-Ok : goal.returns-in-Ok
returns-in-Ok c file read =
    let limits = c.args.limits in
    let form = c.args.form in
    let made = c.in-Ok.ensures.text in
    let most : limits.file ≤ longest_text = omega arith in
    let fits = subst (λ text. length text ≤ limits.file) made.is_text made.short in
    let normal = tree_normal_form limits form file c.args.fit.now read fits most in
    let normalised : IsNormaliseOutput limits form c.signature_count.result file (fit_text form (tree_of c.args.fit.now)) = record {
      normal = normal;
      signatures = c.signature_count.ensures ∙ ap meaning_signature_count (normal.only (OfFit (tree_of c.args.fit.now)) read.means);
    } in
    fills_as _ _ _ _ _ _ _ _
    (λ text value just. subst (λ (n : ℕ). IsNormaliseOutput limits form n file text) (sym just.is_number)
    (subst (IsNormaliseOutput limits form c.signature_count.result file) (sym (just.is_text ∙ made.is_text)) normalised))
    (λ failure none. absurd none) c.write_tree.ensures

pub returns-in-Err : goal.returns-in-Err
returns-in-Err c file read =
    FilledNothing c.failure_of.result (record {
      cause = c.in-Err.error;
      is_failure = c.failure_of.ensures;
      is_error = text_error c.args.limits c.args.form file c.args.fit.now c.in-Err.error read c.in-Err.ensures.failed;
    }) refl c.fail.ensures.answer c.fail.ensures.status
