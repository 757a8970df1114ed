use Rattle.std.proofs.Common.{◌≡◌, ◌⊎◌, ◌++◌, ◌<◌, ◌≤◌, ℕ, Bool, true, false, List, length, drop, Result, Ok, Err, IfOk, IfErr, Option}
use Rattle.std.proofs.Common.{None, inl, inr}
use Rattle.std.proofs.Common.{refl, subst, sym}
use Rattle.std.proofs.lemmas.Bool.{false≢true}
use mir.Val.{bool_byte}
use Rattle.bi_base.specs.declared.fault.Error.{Error}
use Rattle.bi_base.specs.declared.fault.Error.TheVariants as error
use Rattle.bi_base.specs.Limits.{Limits, IsInRange}
use Rattle.bi_c.specs.declared.answer.Answer.{Answer}
use Rattle.bi_c.specs.declared.failure.Failure.{Failure}
use Rattle.bi_c.specs.Answers.{answer_of, done, no_room, FillsBuffer, Filled, HadNoRoom, FilledNothing, IsFailure, IsTextOf, IsFailureOf}
use Rattle.bi_c.specs.Answers.{failure_of_error}
use Rattle.bi_c.specs.Arguments.{bounds}
use Rattle.bi_c.specs.Calls.{flag, IsTextOnly, IsTextWithFlag, IsFailureOfOne}
use Rattle.bi_c.specs.declared.argument.Argument.{Argument}
use Rattle.bi_c.specs.Checks.{LimitsCheck}

-- A call from C that fails returns the failure of its error, and one that succeeds returns its text and its yes or no as a number.

-- There is no value, so what it would show is not so,
pub not_so : (P : Type 0) → (false ≡ true → P) × (P → false ≡ true) → ¬ P
not_so P both p = absurd (false≢true (both.1 p))

-- and if there is one, it is so.
pub is_so : (P : Type 0) → (true ≡ true → P) × (P → true ≡ true) → P
is_so P both = both.0 refl

-- A yes or no as a number.
pub byte_is_flag : (b : Bool) → bool_byte b ≡ flag b
byte_is_flag true = refl
byte_is_flag false = refl

-- An output that was written to a buffer, or had no room there.
pub buffer_is_filled : {T : Type 0} (IsOutput : List T → ℕ → Type 0) (HasFailed : Failure → Type 0) (text before after : List T)
    (value : ℕ) (answer : Answer) (status : ℕ) → IsOutput text value → answer ≡ answer_of (length text) value
    → ((length text ≤ length before) × (status ≡ done) × (after ≡ text ++ drop (length text) before))
    ⊎ ((length before < length text) × (status ≡ no_room) × (after ≡ before))
    → FillsBuffer IsOutput HasFailed before after answer status
buffer_is_filled IsOutput HasFailed text before after value answer status is told
    (inl room) = Filled text value is room.0 room.2 told room.1
buffer_is_filled IsOutput HasFailed text before after value answer status is told
    (inr none) = HadNoRoom text value is none.0 none.2 told none.1

-- What a call that fills a buffer promises implies more.
pub fills_as : {T : Type 0} (IsOutput IsOther : List T → ℕ → Type 0) (HasFailed HasOther : Failure → Type 0) (before after : List T)
    (answer : Answer) (status : ℕ) → ((text : List T) (value : ℕ) → IsOutput text value → IsOther text value)
    → ((failure : Failure) → HasFailed failure → HasOther failure) → FillsBuffer IsOutput HasFailed before after answer status →
    FillsBuffer IsOther HasOther before after answer status
fills_as IsOutput IsOther HasFailed HasOther before after answer status output failed
    (Filled text value is room same told is_status) = Filled text value (output text value is) room same told is_status
fills_as IsOutput IsOther HasFailed HasOther before after answer status output failed
    (HadNoRoom text value is none same told is_status) = HadNoRoom text value (output text value is) none same told is_status
fills_as IsOutput IsOther HasFailed HasOther before after answer status output failed
    (FilledNothing failure is same told is_status) = FilledNothing failure (failed failure is) same told is_status

-- The failure of a call on one file in memory, by its error.
pub failed_by : (Check : Option (Argument × ℕ) → Type 0) (HasError : Error → Type 0) (cause : Error) (failure : Failure) → Check None →
    failure ≡ failure_of_error cause → ¬ (HasError error.ReadFailed) → ¬ (HasError error.WriteFailed) → HasError cause
    → IsFailure Check HasError failure
failed_by Check HasError cause failure valid same no_read no_write is = subst (IsFailure Check HasError) (sym same) (by cause is)
  where
    by : (cause : Error) → HasError cause → IsFailure Check HasError (failure_of_error cause)
    by (error.Refused fault) is = (valid, refl, is)
    by error.OutOfMemory is = (valid, is)
    by error.ReadFailed is = absurd (no_read is)
    by error.WriteFailed is = absurd (no_write is)

-- The same of a call that has limits and no other numbers.
pub failed_of_one : (limit depth : ℕ) (HasError : Limits → Error → Type 0) (limits : Limits) (cause : Error) (failure : Failure) →
    IsInRange limit depth → limits ≡ bounds limit depth → failure ≡ failure_of_error cause
    → ((other : Limits) → ¬ (HasError other error.ReadFailed)) → ((other : Limits) → ¬ (HasError other error.WriteFailed)) →
    HasError limits cause → IsFailureOfOne limit depth HasError failure
failed_of_one limit depth HasError limits cause failure in_range same is_failure no_read no_write is =
    failed_by (LimitsCheck limit depth) (HasError (bounds limit depth)) cause failure in_range is_failure (no_read (bounds limit depth))
    (no_write (bounds limit depth))
    (subst (λ (l : Limits). HasError l cause) same is)

-- The output of a call that has limits and no other numbers.
pub text_of_call : (limit depth : ℕ) (Is : Limits → List ℕ → Type 0) (limits : Limits) (text bytes : List ℕ) → IsInRange limit depth →
    limits ≡ bounds limit depth → bytes ≡ text → Is limits text → IsTextOnly limit depth Is bytes 0
text_of_call limit depth Is limits text bytes in_range same same_bytes is = record {
  limits = in_range;
  is = subst (λ (l : Limits). Is l bytes) same (subst (Is limits) (sym same_bytes) is);
  no_value = refl;
}

-- The same with a yes or no.
pub text_with_flag_of_call : (limit depth : ℕ) (Is : Limits → Bool → List ℕ → Type 0) (limits : Limits) (told : Bool) (text : List ℕ)
    → IsInRange limit depth → limits ≡ bounds limit depth → Is limits told text → IsTextWithFlag limit depth Is text (flag told)
text_with_flag_of_call limit depth Is limits told text in_range same is = record {
  limits = in_range;
  yes = told;
  number = refl;
  is = subst (λ (l : Limits). Is l told text) same is;
}

-- What a call answers that fills a buffer with what another call made.
pub made_fills : {V E : Type 0} (P : V → Type 0) (Q : E → Type 0) (text_of : V → List ℕ) (number_of : V → ℕ) (failure_of : E → Failure)
    (IsOutput : List ℕ → ℕ → Type 0) (HasFailed : Failure → Type 0) (made : Result V E) (before after : List ℕ) (answer : Answer)
    (status : ℕ) → ((value : V) → P value → IsOutput (text_of value) (number_of value))
    → ((error : E) → Q error → HasFailed (failure_of error)) → IfOk made P → IfErr made Q
    → FillsBuffer (IsTextOf text_of number_of made) (IsFailureOf failure_of made) before after answer status
    → FillsBuffer IsOutput HasFailed before after answer status
made_fills P Q text_of number_of failure_of IsOutput HasFailed (Ok value) before after answer status output failed is none fills =
    fills_as _ _ _ _ before after answer status
    (λ text number just. subst (λ (n : ℕ). IsOutput text n) (sym just.is_number)
    (subst (λ (l : List ℕ). IsOutput l (number_of value)) (sym just.is_text) (output value is)))
    (λ failure none. absurd none) fills
made_fills P Q text_of number_of failure_of IsOutput HasFailed (Err error) before after answer status output failed none is fills =
    fills_as _ _ _ _ before after answer status (λ text number none. absurd none)
    (λ failure same. subst HasFailed (sym same) (failed error is)) fills

-- The same of a call on one file that has limits and no other numbers: a text,
pub text_fills : {V : Type 0} (limit depth : ℕ) (Is : Limits → List ℕ → Type 0) (HasError : Limits → Error → Type 0)
    (text_of : V → List ℕ) (limits : Limits) (made : Result V Error) (before after : List ℕ) (answer : Answer) (status : ℕ)
    → IsInRange limit depth → limits ≡ bounds limit depth → ((other : Limits) → ¬ (HasError other error.ReadFailed))
    → ((other : Limits) → ¬ (HasError other error.WriteFailed)) → IfOk made (λ value. Is limits (text_of value))
    → IfErr made (HasError limits)
    → FillsBuffer (IsTextOf text_of (λ _. 0) made) (IsFailureOf failure_of_error made) before after answer status
    → FillsBuffer (IsTextOnly limit depth Is) (IsFailureOfOne limit depth HasError) before after answer status
text_fills limit depth Is HasError text_of limits made before after answer status in_range same no_read no_write output failed fills =
    made_fills (λ value. Is limits (text_of value)) (HasError limits) text_of (λ _. 0) failure_of_error (IsTextOnly limit depth Is)
    (IsFailureOfOne limit depth HasError) made before after answer status
    (λ value is. text_of_call limit depth Is limits (text_of value) (text_of value) in_range same refl is)
    (λ cause is. failed_of_one limit depth HasError limits cause (failure_of_error cause) in_range same refl no_read no_write is)
    output failed fills

-- or a text and a yes or no.
pub text_with_flag_fills : {V : Type 0} (limit depth : ℕ) (Is : Limits → Bool → List ℕ → Type 0) (HasError : Limits → Error → Type 0)
    (text_of : V → List ℕ) (yes_of : V → Bool) (limits : Limits) (made : Result V Error) (before after : List ℕ) (answer : Answer)
    (status : ℕ)
    → IsInRange limit depth → limits ≡ bounds limit depth → ((other : Limits) → ¬ (HasError other error.ReadFailed))
    → ((other : Limits) → ¬ (HasError other error.WriteFailed)) → IfOk made (λ value. Is limits (yes_of value) (text_of value))
    → IfErr made (HasError limits)
    → FillsBuffer (IsTextOf text_of (λ value. flag (yes_of value)) made) (IsFailureOf failure_of_error made) before after answer status
    → FillsBuffer (IsTextWithFlag limit depth Is) (IsFailureOfOne limit depth HasError) before after answer status
text_with_flag_fills limit depth Is HasError text_of yes_of limits made before after answer status in_range same no_read no_write
    output failed fills =
    made_fills (λ value. Is limits (yes_of value) (text_of value)) (HasError limits) text_of (λ value. flag (yes_of value))
    failure_of_error (IsTextWithFlag limit depth Is) (IsFailureOfOne limit depth HasError) made before after answer status
    (λ value is. text_with_flag_of_call limit depth Is limits (yes_of value) (text_of value) in_range same is)
    (λ cause is. failed_of_one limit depth HasError limits cause (failure_of_error cause) in_range same refl no_read no_write is)
    output failed fills
