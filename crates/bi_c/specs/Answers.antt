use Rattle.std.specs.Prelude.{ℕ, ◌<◌, ◌≤◌, ◌≡◌, ◌++◌, List, length, drop, Result, Ok, Err}
use Rattle.std.specs.Prelude.{Option, None}
use Rattle.bi_base.specs.declared.fault.Error.{Error}
use Rattle.bi_base.specs.declared.fault.Error.TheVariants as error
use Rattle.bi_base.specs.Causes.{number_of}
use Rattle.bi_c.specs.Checks.{IsWrong, argument_number}
use Rattle.bi_c.specs.declared.answer.Answer.{Answer}
use Rattle.bi_c.specs.declared.argument.Argument.{Argument}
use Rattle.bi_c.specs.declared.failure.Failure.{Failure}
use Rattle.bi_c.specs.declared.failure.Failure.TheVariants.{WrongArgument, Refused, OutOfMemory}
use Rattle.bi_c.specs.declared.failure.Failure.TheVariants.{NotFound}

-- What a call from C returns: a status, and what it leaves in the caller's struct and buffer
-- (profile of this project).

-- The statuses.
abbrev pub done : ℕ
done = 0

abbrev pub refused : ℕ
refused = 1

abbrev pub out_of_memory : ℕ
out_of_memory = 2

abbrev pub no_room : ℕ
no_room = 3

abbrev pub wrong_argument : ℕ
wrong_argument = 4

abbrev pub not_found : ℕ
not_found = 5

-- The struct after a call that has an output: its size, and the number that the call returns.
abbrev pub answer_of : (size value : ℕ) → Answer
answer_of size value =
    record { size = size; value = value; cause = 0; offset = 0; file = 0; reason = 0 }

-- The struct after a failure.
abbrev pub answer_of_failure : Failure → Answer
answer_of_failure (Refused file fault) = record {
  size = 0;
  value = 0;
  cause = number_of fault.cause;
  offset = fault.offset;
  file = file;
  reason = 0;
}
answer_of_failure (NotFound reason index) =
    record { size = 0; value = index; cause = 0; offset = 0; file = 0; reason = reason }
answer_of_failure OutOfMemory = answer_of 0 0
answer_of_failure (WrongArgument argument index) = record {
  size = 0;
  value = index;
  cause = 0;
  offset = 0;
  file = 0;
  reason = argument_number argument;
}

-- The status of a failure.
abbrev pub status_of_failure : Failure → ℕ
status_of_failure (WrongArgument argument index) = wrong_argument
status_of_failure (Refused file fault) = refused
status_of_failure OutOfMemory = out_of_memory
status_of_failure (NotFound reason index) = not_found

-- A call without a buffer: it has an output of some size and returns some number, or it fails.
pub data Answers (IsOutput : (size value : ℕ) → Type 0) (HasFailed : Failure → Type 0)
    (answer : Answer) (status : ℕ) : Type 0
  where
    Returned : (size value : ℕ) → IsOutput size value → answer ≡ answer_of size value
        → status ≡ done → Answers IsOutput HasFailed answer status
    Failed : (failure : Failure) → HasFailed failure → answer ≡ answer_of_failure failure
        → status ≡ status_of_failure failure → Answers IsOutput HasFailed answer status

-- A call that writes its output to the beginning of a buffer or an array. The elements after it
-- stay. If there is no room for the output, or the call fails, the buffer is as it was. Without
-- room, the struct has the size of the output.
pub data FillsBuffer {T : Type 0} (IsOutput : (output : List T) → (value : ℕ) → Type 0)
    (HasFailed : Failure → Type 0) (before after : List T) (answer : Answer) (status : ℕ) : Type 0
  where
    Filled : (output : List T) (value : ℕ) → IsOutput output value
        → length output ≤ length before → after ≡ output ++ drop (length output) before
        → answer ≡ answer_of (length output) value → status ≡ done
        → FillsBuffer IsOutput HasFailed before after answer status
    HadNoRoom : (output : List T) (value : ℕ) → IsOutput output value
        → length before < length output → after ≡ before
        → answer ≡ answer_of (length output) value → status ≡ no_room
        → FillsBuffer IsOutput HasFailed before after answer status
    FilledNothing : (failure : Failure) → HasFailed failure → after ≡ before
        → answer ≡ answer_of_failure failure → status ≡ status_of_failure failure
        → FillsBuffer IsOutput HasFailed before after answer status

-- A call that sets a struct of the caller's. If the call fails, the struct is as it was.
pub data Sets {T : Type 0} (IsOutput : T → Type 0) (HasFailed : Failure → Type 0) (before after : T)
    (answer : Answer) (status : ℕ) : Type 0
  where
    WasSet : IsOutput after → answer ≡ answer_of 0 0 → status ≡ done
        → Sets IsOutput HasFailed before after answer status
    WasNotSet : (failure : Failure) → HasFailed failure → after ≡ before
        → answer ≡ answer_of_failure failure → status ≡ status_of_failure failure
        → Sets IsOutput HasFailed before after answer status

-- The failure of a call on one file, by the check of its arguments. If they are valid, its error is
-- one of these.
abbrev pub IsFailure : (Check : Option (Argument × ℕ) → Type 0) → (HasError : Error → Type 0)
    → Failure → Type 0
IsFailure Check HasError (WrongArgument argument index) = IsWrong Check argument index
IsFailure Check HasError (Refused file fault) =
    Check None × (file ≡ 1) × HasError (error.Refused fault)
IsFailure Check HasError OutOfMemory = Check None × HasError error.OutOfMemory
IsFailure Check HasError (NotFound reason index) = ⊥

-- The failure for an error of a call on one file in memory. The call has neither a reader nor a
-- writer.
abbrev pub failure_of_error : Error → Failure
failure_of_error (error.Refused fault) = Refused 1 fault
failure_of_error other = OutOfMemory

-- The output is this one, and the call returns this number.
pub record IsThisOutput {T : Type 0} (wanted : List T) (number : ℕ) (output : List T) (value : ℕ)
    : Type 0
  where
    pub is_text : output ≡ wanted
    pub is_number : value ≡ number

-- The failure for an error that a call on one file in memory can have.
pub record IsFailureBy (HasError : Error → Type 0) (failure : Failure) : Type 0 where
  pub cause : Error
  pub is_failure : failure ≡ failure_of_error cause
  pub is_error : HasError cause

-- The output is the text of what a call made, and the number is the one of it.
abbrev pub IsTextOf : {V E : Type 0} → (text_of : V → List ℕ) → (number_of : V → ℕ) → Result V E
    → (text : List ℕ) → (value : ℕ) → Type 0
IsTextOf text_of number_of (Ok made) text value =
    IsThisOutput (text_of made) (number_of made) text value
IsTextOf text_of number_of (Err error) text value = ⊥

-- The failure is the one for the error of a call.
abbrev pub IsFailureOf : {V E : Type 0} → (failure_of : E → Failure) → Result V E → Failure → Type 0
IsFailureOf failure_of (Ok made) failure = ⊥
IsFailureOf failure_of (Err error) failure = failure ≡ failure_of error
