use Rattle.std.proofs.Common.{◌≤◌, length, refl, sym, ap, subst, ◌∙◌, arith}
use Rattle.std.proofs.lemmas.Result.{err_from_is_err_and}
use Rattle.bi_base.specs.Commands.{WasRefused, SinkFailed}
use Rattle.bi_blob.specs.Layout.{longest_text}
use Rattle.bi_fit.specs.Content.{tree_of}
use Rattle.bi_fit.specs.Updating.{with_changes}
use Rattle.bi_fit.proofs.KeptPayloads.{after_within}
use Rattle.bi_commands.specs.UpdatedFiles.{IsUpdated, IsUpdateKept}
use Rattle.bi_commands.proofs.UpdatedFiles.{tree_is_updated, tree_updated, text_not_made, digests_not_made}
use Rattle.bi_commands.proofs.update.update_fit.Goals as goal

pub returns-in_err-digests-clause-failed : goal.returns-in_err-digests-clause-failed
returns-in_err-digests-clause-failed g c file opened =
    let p = err_from_is_err_and c.from_residual.result c.from_residual.ensures.1 in
    let most : c.args.limits.file ≤ longest_text = omega arith in
    rw (p.1, p.2) (WasRefused (digests_not_made c.args.changes c.args.limits c.args.form file c.args.fit.now opened most _
    c.in_err-digests.ensures.failed) refl)

pub returns-in_err-text-clause-failed : goal.returns-in_err-text-clause-failed
returns-in_err-text-clause-failed g c file opened =
    let p = err_from_is_err_and c.from_residual-in_err-text.result c.from_residual-in_err-text.ensures.1 in
    let most : c.args.limits.file ≤ longest_text = omega arith in
    rw (p.1, p.2) (WasRefused (text_not_made c.args.changes c.args.limits c.args.form file c.args.fit.now opened most _
    c.in_err-text.ensures.failed) refl)

pub returns-in_err-emit-clause-failed : goal.returns-in_err-emit-clause-failed
returns-in_err-emit-clause-failed g c file opened =
    let p = err_from_is_err_and c.from_residual-in_err-emit.result c.from_residual-in_err-emit.ensures.1 in
    let most : c.args.limits.file ≤ longest_text = omega arith in
    let made = c.in_ok-text.ensures.text in
    let fits = subst (λ text. length text ≤ c.args.limits.file) made.is_text made.short in
    let updated = subst (IsUpdated c.args.changes c.args.limits c.args.form file) (sym made.is_text)
    (tree_is_updated c.args.changes c.args.limits c.args.form file c.args.fit.now opened most
    c.in_ok-digests.ensures.digests.within fits) in
    rw (p.1, p.2) (SinkFailed c.in_ok-text.text c.in_err-emit.field-0.0 updated c.in_err-emit.ensures refl)

pub kept-requires-clause-after : goal.kept-requires-clause-after
kept-requires-clause-after g c =
    let tree = with_changes c.args.changes (tree_of c.args.fit.now) in
    let same = ap length c.in_ok-text.ensures.text.is_text in
    omega (arith, after_within c.args.form tree, same, c.size.ensures.size)

pub returns-clause-appended : goal.returns-clause-appended
returns-clause-appended g c file opened =
    let most : c.args.limits.file ≤ longest_text = omega arith in
    let made = c.in_ok-text.ensures.text in
    let fits = subst (λ text. length text ≤ c.args.limits.file) made.is_text made.short in
    record {
      text = c.in_ok-text.text;
      is_text = subst (IsUpdateKept c.args.changes c.args.limits c.args.form c.kept.result file) (sym made.is_text)
          (tree_updated c.args.changes c.args.limits c.args.form file c.args.fit.now opened most c.kept.result
          c.in_ok-digests.ensures.digests.within fits c.kept.ensures.signatures
          (c.kept.ensures.kept (with_changes c.args.changes (tree_of c.args.fit.now)) refl
          (ap length (sym made.is_text) ∙ sym c.size.ensures.size)));
      appended = c.in_ok-emit.ensures;
    }
