use Rattle.std.proofs.Common.{subst, sym, ap, ℕ}
use Rattle.bi_base.specs.declared.fault.Error.TheVariants as error
use Rattle.bi_norm.specs.Meaning.{OfLegacy, meaning_signature_count}
use Rattle.bi_norm.specs.NormalForm.{IsNormaliseOutput}
use Rattle.bi_norm.proofs.NormalForms.{legacy_normal_form, normal_form_needs_memory}
use Rattle.bi_legacy.specs.Text.{legacy_text}
use Rattle.bi_c.proofs.CallAnswers.{fills_as}
use Rattle.bi_c.proofs.normalise.normalise_legacy.Goals as goal

pub returns : goal.returns
returns c form =
    let limits = c.args.limits in
    let file = c.args.file.now in
    let parsed = c.args.image.now in
    let normal = legacy_normal_form limits form file parsed c.requires in
    let is : IsNormaliseOutput limits form 0 file (legacy_text parsed.image) = record {
      normal = normal;
      signatures = ap meaning_signature_count (normal.only (OfLegacy parsed.image) c.requires.means);
    } in
    fills_as _ _ _ _ _ _ _ _
    (λ text value just. subst (λ (n : ℕ). IsNormaliseOutput limits form n file text) (sym just.is_number)
    (subst (IsNormaliseOutput limits form 0 file) (sym just.is_text) is))
    (λ failure same. record {
      cause = error.OutOfMemory;
      is_failure = same;
      is_error = normal_form_needs_memory limits form file (legacy_text parsed.image) normal;
    }) c.write_legacy.ensures
