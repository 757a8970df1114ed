use Rattle.std.proofs.Common.{◌≡◌, List, ℕ, subst}
use Rattle.bi_base.specs.Limits.{Limits}
use Rattle.bi_norm.specs.NormalForm.{IsNormaliseOutput, IsNormaliseError}
use Rattle.bi_c.specs.declared.failure.Failure.{Failure}
use Rattle.bi_c.specs.Answers.{IsFailureBy}
use Rattle.bi_c.specs.Arguments.{FormCheck, bounds, HasForm, IsErrorInForm}
use Rattle.bi_c.specs.Calls.{IsNormalised, IsNormaliseFailure}
use Rattle.bi_c.proofs.CallAnswers.{failed_by}

-- A call from C with valid numbers returns the normal form of a file under the limits and the form of these numbers, or fails as
-- normalising it does.

module _ (limit depth number : ℕ) (limits : Limits) (file : List ℕ) (valid : HasForm limit depth number)
    (same : limits ≡ bounds limit depth) where
  pub normalised_as : (text : List ℕ) (value : ℕ) → IsNormaliseOutput limits valid.form value file text →
      IsNormalised limit depth number file text value
  normalised_as text value is = record {
    arguments = valid;
    is = subst (λ (l : Limits). IsNormaliseOutput l valid.form value file text) same is;
  }

  pub not_normalised : (failure : Failure) → IsFailureBy (IsNormaliseError limits valid.form file) failure →
      IsNormaliseFailure limit depth number file failure
  not_normalised failure is =
      failed_by (FormCheck limit depth number) (IsErrorInForm number (λ form. IsNormaliseError (bounds limit depth) form file)) is.cause
      failure valid is.is_failure (λ no. no.is_error) (λ no. no.is_error) (record {
        form = valid.form;
        is_form = valid.is_form;
        is_error = subst (λ (l : Limits). IsNormaliseError l valid.form file is.cause) same is.is_error;
      })
