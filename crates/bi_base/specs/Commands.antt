use Rattle.std.specs.Prelude.{ℕ, ◌<◌, ◌≡◌, List, length}
use Rattle.bi_base.specs.declared.fault.Error.{Error}
use Rattle.bi_base.specs.declared.fault.Error.TheVariants.{Refused, OutOfMemory, ReadFailed}
use Rattle.bi_base.specs.declared.fault.Error.TheVariants.{WriteFailed}
use Rattle.bi_base.specs.Limits.{Limits}
use Rattle.bi_base.specs.Reading.{too_large}

-- What commands are: calls that make an output from a whole input (profile of this project).

-- What a command promises within some limits.
pub record CommandPromise (V E : Type 0) : Type 1 where
  -- The command may return this value for an input and append this output.
  pub is_output : (value : V) → (input output : List ℕ) → Type 0
  -- The command may begin to append this output for an input.
  pub is_text : (input output : List ℕ) → Type 0
  -- The command may fail with this error for an input.
  pub has_error : (input : List ℕ) → (error : E) → Type 0
  -- The error of the command for an error of a reader, a writer or a sink.
  pub wraps : Error → E

-- What holds for the promise of every command.
pub record PromiseLaws {V E : Type 0} (promise : CommandPromise V E) : Type 0 where
  -- An output is one that the command may begin to append.
  pub is_text : (value : V) (input output : List ℕ) → promise.is_output value input output
      → promise.is_text input output
  -- Different errors of streams are different errors of the command.
  pub wraps_once : (a b : Error) → promise.wraps a ≡ promise.wraps b → a ≡ b
  -- The command itself neither reads nor writes.
  pub no_read_error : (input : List ℕ) → ¬ promise.has_error input (promise.wraps ReadFailed)
  pub no_write_error : (input : List ℕ) → ¬ promise.has_error input (promise.wraps WriteFailed)

-- The promise of a command that returns nothing in addition to its output, and fails with errors of
-- calls.
abbrev pub unit_promise : (IsOutput : List ℕ → List ℕ → Type 0)
    → (HasError : List ℕ → Error → Type 0) → CommandPromise (Unit {0}) Error
unit_promise IsOutput HasError = record {
  is_output = λ value. IsOutput;
  is_text = IsOutput;
  has_error = HasError;
  wraps = λ error. error;
}

pub unit_laws : (IsOutput : List ℕ → List ℕ → Type 0) (HasError : List ℕ → Error → Type 0)
    → ((input : List ℕ) → ¬ HasError input ReadFailed)
    → ((input : List ℕ) → ¬ HasError input WriteFailed)
    → PromiseLaws (unit_promise IsOutput HasError)
unit_laws IsOutput HasError no_read no_write = record {
  is_text = λ value input output is. is;
  wraps_once = λ a b same. same;
  no_read_error = no_read;
  no_write_error = no_write;
}

-- A call appended a text to a sink. `IsText` holds for the text.
pub record Appended {S : Type 0} (appends : S → List ℕ → S → Type 0) (IsText : List ℕ → Type 0)
    (old new : S) : Type 0 where
  pub text : List ℕ
  pub is_text : IsText text
  pub appended : appends old text new

-- A call that appends a text to a sink failed: with an error of its own, and the sink is unchanged;
-- or with an error of the sink.
pub data CommandFailed {S E : Type 0} (fails : S → List ℕ → S → Error → Type 0) (wraps : Error → E)
    (IsText : List ℕ → Type 0) (HasError : E → Type 0) (old new : S) (error : E) : Type 0
  where
    WasRefused : HasError error → new ≡ old
        → CommandFailed fails wraps IsText HasError old new error
    SinkFailed : (text : List ℕ) (cause : Error) → IsText text → fails old text new cause
        → error ≡ wraps cause → CommandFailed fails wraps IsText HasError old new error

-- A call that appends a text to a sink, and passes errors of the sink on as they are, failed: with
-- an error of its own, and the sink is unchanged; or with an error of the sink.
abbrev pub AppendFailed : {S : Type 0} → (S → List ℕ → S → Error → Type 0) → (List ℕ → Type 0)
    → (Error → Type 0) → S → S → Error → Type 0
AppendFailed fails IsText HasError old new error =
    CommandFailed fails (λ cause. cause) IsText HasError old new error

-- The error that a command can have for an input that is read from a reader, with an output that is
-- written to a writer.
pub data PipeError {V E : Type 0} (promise : CommandPromise V E) (limits : Limits)
    (input : List ℕ) (error : E) : Type 0
  where
    OfCommand : promise.has_error input error → PipeError promise limits input error
    InputTooLong : limits.file < length input
        → error ≡ promise.wraps (Refused (too_large limits.file))
        → PipeError promise limits input error
    NoMemory : error ≡ promise.wraps OutOfMemory → PipeError promise limits input error
    NoRead : error ≡ promise.wraps ReadFailed → PipeError promise limits input error
    NoWrite : error ≡ promise.wraps WriteFailed → PipeError promise limits input error
