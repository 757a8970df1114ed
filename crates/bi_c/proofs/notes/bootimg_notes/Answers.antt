use Rattle.std.proofs.Common.{refl, subst}
use Rattle.bi_base.specs.Limits.{Limits}
use Rattle.bi_fit.specs.declared.changes.Changes.{Changes}
use Rattle.bi_fit.proofs.AppendedTexts.{error_in_memory}
use Rattle.bi_commands.specs.UpdatedFiles.{IsUpdated, IsUpdateError, IsUpdateKept}
use Rattle.bi_commands.proofs.UpdatedFiles.{updated_needs_memory}
use Rattle.bi_c.specs.declared.failure.Failure.TheVariants.{WrongArgument}
use Rattle.bi_c.specs.Answers.{WasNotSet, WasSet}
use Rattle.bi_c.specs.Arguments.{bounds, HasChanges}
use Rattle.bi_c.proofs.CallAnswers.{not_so, is_so}
use Rattle.bi_c.proofs.UpdatedCalls.{not_updated}
use Rattle.bi_c.specs.declared.argument.Argument.TheVariants as argument
use Rattle.bi_c.specs.Checks.{LimitsCheck}
use Rattle.bi_c.proofs.CheckFacts.{first_is_wrong, limits_are_wrong, next_is_wrong}
use Rattle.bi_c.specs.Arguments.{FormCheck, HasForm}
use Rattle.bi_c.proofs.notes.bootimg_notes.Goals as goal

pub returns-in_default : goal.returns-in_default
returns-in_default c =
    WasNotSet (WrongArgument c.wrong_limit.result 0)
    (first_is_wrong (FormCheck c.args.limit c.args.depth c.args.form) argument.Changes
    (HasChanges c.args.limit c.args.depth c.args.form c.args.changes) _ 0 (λ valid. valid.has_form)
    (first_is_wrong (LimitsCheck c.args.limit c.args.depth) argument.Form (HasForm c.args.limit c.args.depth c.args.form) _ 0
    (λ valid. valid.limits)
    (limits_are_wrong c.args.limit c.args.depth _ c.wrong_limit.ensures (not_so _ c.in_default.ensures.in_range))))
    refl c.fail.ensures.answer c.fail.ensures.status

pub returns-in_default-form_of : goal.returns-in_default-form_of
returns-in_default-form_of c =
    WasNotSet (WrongArgument argument.Form 0)
    (first_is_wrong (FormCheck c.args.limit c.args.depth c.args.form) argument.Changes
    (HasChanges c.args.limit c.args.depth c.args.form c.args.changes) argument.Form 0 (λ valid. valid.has_form)
    (next_is_wrong (LimitsCheck c.args.limit c.args.depth) argument.Form (HasForm c.args.limit c.args.depth c.args.form)
    (is_so _ c.in-Some.ensures.in_range)
    (λ valid. c.in_default-form_of.ensures.none valid.form valid.is_form)))
    refl c.fail-in_default-form_of.ensures.answer c.fail-in_default-form_of.ensures.status

pub returns-in_default-changes_of : goal.returns-in_default-changes_of
returns-in_default-changes_of c =
    WasNotSet (WrongArgument argument.Changes 0)
    (next_is_wrong (FormCheck c.args.limit c.args.depth c.args.form) argument.Changes
    (HasChanges c.args.limit c.args.depth c.args.form c.args.changes) (record {
      limits = is_so _ c.in-Some.ensures.in_range;
      form = c.in-Some-form_of.kind;
      is_form = c.in-Some-form_of.ensures.some;
    })
    (λ valid. not_so _ c.in_default-changes_of.ensures.in_range valid.are_changes))
    refl c.fail-in_default-changes_of.ensures.answer c.fail-in_default-changes_of.ensures.status

pub returns-in-Ok : goal.returns-in-Ok
returns-in-Ok c =
    let form = c.in-Some-form_of.kind in
    let file = c.args.file.now in
    let kept = c.in-Ok.kept in
    let appended = c.in-Ok.ensures.appended in
    WasSet (record {
      arguments = record {
        has_form = record {
          limits = is_so _ c.in-Some.ensures.in_range;
          form = form;
          is_form = c.in-Some-form_of.ensures.some;
        };
        are_changes = is_so _ c.in-Some-changes_of.ensures.in_range;
      };
      text = appended.text;
      kept = kept;
      is_kept = subst (λ (changes : Changes). IsUpdateKept changes (bounds c.args.limit c.args.depth) form kept file appended.text)
          c.in-Some-changes_of.ensures.value
          (subst (λ (l : Limits). IsUpdateKept c.in-Some-changes_of.wanted l form kept file appended.text) c.in-Some.ensures.value
          appended.is_text);
      are_numbers = c.numbers_of.ensures;
    }) c.succeed.ensures.answer c.succeed.ensures.status

pub returns : goal.returns
returns c =
    let limits = c.in-Some.limits in
    let form = c.in-Some-form_of.kind in
    let changes = c.in-Some-changes_of.wanted in
    let file = c.args.file.now in
    let error = c.in-Err.error in
    let valid : HasChanges c.args.limit c.args.depth c.args.form c.args.changes = record {
      has_form = record {
        limits = is_so _ c.in-Some.ensures.in_range;
        form = form;
        is_form = c.in-Some-form_of.ensures.some;
      };
      are_changes = is_so _ c.in-Some-changes_of.ensures.in_range;
    } in
    let is_error : IsUpdateError changes limits form file error =
    error_in_memory _ (IsUpdated changes limits form file) (IsUpdateError changes limits form file) _ _ error (λ text failed. failed.1)
    (updated_needs_memory changes limits form file) c.in-Err.ensures.failed in
    WasNotSet c.failure_of.result
    (not_updated c.args.limit c.args.depth c.args.form c.args.changes c.args.time limits changes file valid c.in-Some.ensures.value
    c.in-Some-changes_of.ensures.value error c.failure_of.result c.failure_of.ensures is_error)
    refl c.fail-in-Err.ensures.answer c.fail-in-Err.ensures.status
