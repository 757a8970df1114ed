use Rattle.std.proofs.Common.{◌≡◌, ◌≤◌, ◌⊎◌, ◌∙◌, ◌++◌, ℕ, List, Option, None, Some, drop, length, inl, inr, ap, refl, lit≤, arith}
use Rattle.bi_base.specs.declared.fault.Error.{Error}
use Rattle.bi_base.specs.declared.fault.Error.TheVariants as error
use Rattle.bi_base.specs.declared.fault.Fault.{Fault}
use Rattle.bi_base.specs.Limits.{IsInRange}
use Rattle.bi_c.specs.Answers.{Returned, Failed, Filled, HadNoRoom, FilledNothing, IsFailure}
use Rattle.bi_c.specs.Answers.{answer_of, answer_of_failure, status_of_failure}
use Rattle.bi_c.specs.KnownCalls.{AlwaysAnswers, AlwaysFills}
use Rattle.bi_c.specs.declared.failure.Failure.{Failure}
use Rattle.bi_c.specs.declared.failure.Failure.TheVariants.{Refused, NotFound, OutOfMemory, WrongArgument}
use Rattle.bi_c.specs.declared.argument.Argument.{Argument}

-- A call with one output, or with one failure besides that memory runs out, has one end.

module _ (IsOutput : (size value : ℕ) → Type 0) (HasFailed : Failure → Type 0) where
  pub always_answers : (size value : ℕ) → ((other number : ℕ) → IsOutput other number → (other ≡ size) × (number ≡ value)) →
      ((failure : Failure) → HasFailed failure → failure ≡ OutOfMemory) → AlwaysAnswers IsOutput HasFailed (answer_of size value) 0
  always_answers size value only fails left returned (Returned other number is same ends) =
      let found = only other number is in inl (same ∙ (λ i. answer_of (found.0 i) (found.1 i)), ends)
  always_answers size value only fails left returned (Failed failure has same ends) =
      let none = fails failure has in inr (same ∙ ap answer_of_failure none, ends ∙ ap status_of_failure none)

  pub never_answers : (failure : Failure) → ((other number : ℕ) → ¬ (IsOutput other number)) →
      ((other : Failure) → HasFailed other → (other ≡ failure) ⊎ (other ≡ OutOfMemory)) →
      AlwaysAnswers IsOutput HasFailed (answer_of_failure failure) (status_of_failure failure)
  never_answers failure never only left returned (Returned other number is same ends) = absurd (never other number is)
  never_answers failure never only left returned (Failed other has same ends) = elim (only other has) [
    | inl this ↦ inl (same ∙ ap answer_of_failure this, ends ∙ ap status_of_failure this)
    | inr none ↦ inr (same ∙ ap answer_of_failure none, ends ∙ ap status_of_failure none)
  ]

module _ {T : Type 0} (IsOutput : (output : List T) → (value : ℕ) → Type 0) (HasFailed : Failure → Type 0) (before : List T) where
  pub always_fills : (output : List T) (size value : ℕ) →
      ((other : List T) (number : ℕ) → IsOutput other number → (other ≡ output) × (number ≡ value)) →
      ((failure : Failure) → HasFailed failure → failure ≡ OutOfMemory) → length output ≡ size → size ≤ length before →
      AlwaysFills IsOutput HasFailed before (output ++ drop size before) (answer_of size value) 0
  always_fills output size value only fails is_size room left given returned (Filled other number is fits writes same ends) =
      let found = only other number is in
      let long : length other ≡ size = ap length found.0 ∙ is_size in
      inl (writes ∙ (λ i. found.0 i ++ drop (long i) before), same ∙ (λ i. answer_of (long i) (found.1 i)), ends)
  always_fills output size value only fails is_size room left given returned (HadNoRoom other number is short stays same ends) =
      absurd (omega (arith, short, room, is_size, ap length (only other number is).0))
  always_fills output size value only fails is_size room left given returned (FilledNothing failure has stays same ends) =
      let none = fails failure has in inr (stays, same ∙ ap answer_of_failure none, ends ∙ ap status_of_failure none)

  pub never_fills : (failure : Failure) → ((other : List T) (number : ℕ) → ¬ (IsOutput other number)) →
      ((other : Failure) → HasFailed other → (other ≡ failure) ⊎ (other ≡ OutOfMemory)) →
      AlwaysFills IsOutput HasFailed before before (answer_of_failure failure) (status_of_failure failure)
  never_fills failure never only left given returned (Filled other number is fits writes same ends) = absurd (never other number is)
  never_fills failure never only left given returned (HadNoRoom other number is short stays same ends) = absurd (never other number is)
  never_fills failure never only left given returned (FilledNothing other has stays same ends) = elim (only other has) [
    | inl this ↦ inl (stays, same ∙ ap answer_of_failure this, ends ∙ ap status_of_failure this)
    | inr none ↦ inr (stays, same ∙ ap answer_of_failure none, ends ∙ ap status_of_failure none)
  ]

-- The largest limits are in their ranges.
pub widest_is_in_range : IsInRange 0x7fffffff 64
widest_is_in_range = (lit≤ tt, lit≤ tt, lit≤ tt, lit≤ tt)

-- ---- the failures of a call on one file

module _ (Check : Option (Argument × ℕ) → Type 0) (HasError : Error → Type 0) where
  pub only_memory : Check None → ((cause : Error) → HasError cause → cause ≡ error.OutOfMemory) → (failure : Failure) →
      IsFailure Check HasError failure → failure ≡ OutOfMemory
  only_memory valid only (WrongArgument found index) is = absurd (is.0 valid)
  only_memory valid only (Refused file fault) is = absurd (let wrong = only (error.Refused fault) is.2 in cc)
  only_memory valid only OutOfMemory is = refl
  only_memory valid only (NotFound reason index) is = absurd is

  pub only_refused : (fault : Fault) → Check None → ((cause : Error) → HasError cause → cause ≡ error.Refused fault) → (failure : Failure) →
      IsFailure Check HasError failure → (failure ≡ Refused 1 fault) ⊎ (failure ≡ OutOfMemory)
  only_refused fault valid only (WrongArgument found index) is = absurd (is.0 valid)
  only_refused fault valid only (Refused file other) is =
      let same : other ≡ fault = (let whole = only (error.Refused other) is.2 in cc) in inl (λ i. Refused (is.1 i) (same i))
  only_refused fault valid only OutOfMemory is = inr refl
  only_refused fault valid only (NotFound reason index) is = absurd is

  pub only_wrong : (found : Argument) (index : ℕ) → ¬ (Check None) →
      ((other : Argument) (other_index : ℕ) → Check (Some (other, other_index)) → (other ≡ found) × (other_index ≡ index)) →
      (failure : Failure) → IsFailure Check HasError failure →
      (failure ≡ WrongArgument found index) ⊎ (failure ≡ OutOfMemory)
  only_wrong found index wrong only (WrongArgument other other_index) is =
      let same = only other other_index is.1 in inl (λ i. WrongArgument (same.0 i) (same.1 i))
  only_wrong found index wrong only (Refused file fault) is = absurd (wrong is.0)
  only_wrong found index wrong only OutOfMemory is = inr refl
  only_wrong found index wrong only (NotFound reason other) is = absurd is
