use Rattle.std.proofs.Common.{◌≡◌, ℕ, Bool, List, Result, IfOk, IfErr, inl, inr, refl, subst, sym}
use Rattle.bi_base.specs.Limits.{Limits, IsInRange}
use Rattle.bi_describe.specs.declared.compare.CompareError.{CompareError}
use Rattle.bi_describe.specs.declared.compare.CompareError.TheVariants as compare
use Rattle.bi_c.specs.declared.answer.Answer.{Answer}
use Rattle.bi_c.specs.declared.failure.Failure.{Failure}
use Rattle.bi_c.specs.Answers.{FillsBuffer, IsTextOf, IsFailureOf}
use Rattle.bi_c.specs.Arguments.{bounds}
use Rattle.bi_c.specs.Calls.{flag, IsTextWithFlag, IsFailureOfTwo, failure_of_compare_error}
use Rattle.bi_c.proofs.CallAnswers.{made_fills, text_with_flag_of_call}

-- A call from C on two files that fails returns the failure of its error, and one that succeeds returns its text and its yes or no.

-- The failure of a call on two files, by its error.
pub failed_of_two : (limit depth : ℕ) (HasError : Limits → CompareError → Type 0) (limits : Limits) (cause : CompareError)
    (failure : Failure) → IsInRange limit depth → limits ≡ bounds limit depth → failure ≡ failure_of_compare_error cause
    → HasError limits cause → IsFailureOfTwo limit depth (HasError (bounds limit depth)) failure
failed_of_two limit depth HasError limits cause failure in_range same is_failure is =
    subst (IsFailureOfTwo limit depth (HasError (bounds limit depth))) (sym is_failure)
    (by cause (subst (λ (l : Limits). HasError l cause) same is))
  where
    by : (cause : CompareError) → HasError (bounds limit depth) cause →
        IsFailureOfTwo limit depth (HasError (bounds limit depth)) (failure_of_compare_error cause)
    by (compare.One fault) is = (in_range, inl (refl, is))
    by (compare.Other fault) is = (in_range, inr (refl, is))
    by compare.OutOfMemory is = (in_range, is)

-- The output of a call on two files, or its failure.
pub comparison_fills : {V : Type 0} (limit depth : ℕ) (Is : Limits → Bool → List ℕ → Type 0)
    (HasError : Limits → CompareError → Type 0) (text_of : V → List ℕ) (yes_of : V → Bool) (limits : Limits)
    (made : Result V CompareError) (before after : List ℕ) (answer : Answer) (status : ℕ)
    → IsInRange limit depth → limits ≡ bounds limit depth → IfOk made (λ value. Is limits (yes_of value) (text_of value))
    → IfErr made (HasError limits)
    → FillsBuffer (IsTextOf text_of (λ value. flag (yes_of value)) made) (IsFailureOf failure_of_compare_error made)
    before after answer status
    → FillsBuffer (IsTextWithFlag limit depth Is) (IsFailureOfTwo limit depth (HasError (bounds limit depth))) before after answer status
comparison_fills limit depth Is HasError text_of yes_of limits made before after answer status in_range same output failed fills =
    made_fills (λ value. Is limits (yes_of value) (text_of value)) (HasError limits) text_of (λ value. flag (yes_of value))
    failure_of_compare_error (IsTextWithFlag limit depth Is) (IsFailureOfTwo limit depth (HasError (bounds limit depth))) made before after
    answer status
    (λ value is. text_with_flag_of_call limit depth Is limits (yes_of value) (text_of value) in_range same is)
    (λ cause is. failed_of_two limit depth HasError limits cause (failure_of_compare_error cause) in_range same refl is)
    output failed fills
