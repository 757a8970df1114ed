use Rattle.std.proofs.Common.{◌≡◌, List, ℕ, subst}
use Rattle.bi_base.specs.declared.fault.Error.{Error}
use Rattle.bi_base.specs.Limits.{Limits}
use Rattle.bi_fit.specs.declared.changes.Changes.{Changes}
use Rattle.bi_commands.specs.UpdatedFiles.{IsUpdateError}
use Rattle.bi_c.specs.declared.failure.Failure.{Failure}
use Rattle.bi_c.specs.Answers.{failure_of_error}
use Rattle.bi_c.specs.Arguments.{ChangesCheck, bounds, changes_of, HasChanges, IsErrorInForm}
use Rattle.bi_c.specs.Calls.{IsUpdateFailure}
use Rattle.bi_c.proofs.CallAnswers.{failed_by}

-- A call from C that updates a file fails as updating it does, under the limits, the form and the changes of its numbers.
pub not_updated : (limit depth number bits time : ℕ) (limits : Limits) (changes : Changes) (file : List ℕ)
    (valid : HasChanges limit depth number bits) → limits ≡ bounds limit depth → changes ≡ changes_of bits time → (cause : Error)
    (failure : Failure) → failure ≡ failure_of_error cause → IsUpdateError changes limits valid.has_form.form file cause →
    IsUpdateFailure limit depth number bits time file failure
not_updated limit depth number bits time limits changes file valid same same_changes cause failure is_failure is =
    failed_by (ChangesCheck limit depth number bits)
    (IsErrorInForm number (λ form. IsUpdateError (changes_of bits time) (bounds limit depth) form file)) cause failure valid is_failure
    (λ no. no.is_error) (λ no. no.is_error) (record {
      form = valid.has_form.form;
      is_form = valid.has_form.is_form;
      is_error = subst (λ (other : Changes). IsUpdateError other (bounds limit depth) valid.has_form.form file cause) same_changes
          (subst (λ (l : Limits). IsUpdateError changes l valid.has_form.form file cause) same is);
    })
