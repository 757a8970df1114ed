use Rattle.std.proofs.Common.{◌≡◌, ℕ, ◌+◌, ◌<◌, List, [], ◌++◌, length, take, Option, Some, None, Result, Ok, Err, refl, sym, ap, ◌∙◌}
use Rattle.std.proofs.Common.{subst, arith}
use Rattle.std.proofs.Math.Seq.{take-append-add}
use Rattle.std.proofs.lemmas.Bool.{false≢true}
use Rattle.std.proofs.lemmas.List.{length-append}
use Rattle.std.specs.Io.KnownBytes.{Keeps}
use Rattle.std.proofs.KnownBytes.{Keeps-refl}
use Rattle.bi_base.specs.declared.fault.Error.{Error}
use Rattle.bi_base.specs.declared.fault.Error.TheVariants.{Refused, OutOfMemory, ReadFailed, WriteFailed}
use Rattle.bi_base.specs.BufferedSinks.{Buffer, Holds, writes_in_turn}
use Rattle.bi_base.specs.Reading.{IsInput, IsReadError, ReadWhole, too_large}
use Rattle.bi_base.specs.Sinks.{Wrote}
use Rattle.bi_base.specs.Traces.{ReadTrace, WriteTrace, MustStopReading}
use Rattle.bi_base.specs.Transfers.{TransferFailed}
use Rattle.bi_base.specs.Writing.{Writes, WriteStopped, WroteAndFlushed, WriteOrFlushStopped}

-- A call that reads a whole input and writes and flushes its output ends well. It fails if reading stops, the input is refused or writing
-- stops.

-- There is an input that a reader may have.
pub some_input : (remaining : Option (List ℕ)) → (input : List ℕ) × IsInput remaining input
some_input None = ([], tt)
some_input (Some bytes) = (bytes, refl)

-- A failed write is a failed write or flush.
pub stopped_writing : (old : WriteTrace) (bytes : List ℕ) (new : WriteTrace) (error : Error) → WriteStopped old bytes new error →
    WriteOrFlushStopped old bytes new error
stopped_writing old bytes new error failed = record {
  is = failed.is;
  count = failed.prefix.0;
  within = failed.prefix.1;
  written = failed.prefix.2;
  whole = λ flushing. absurd (false≢true (sym failed.not_flushing ∙ flushing));
  cause = failed.cause;
  same_writer = failed.same_writer;
}

-- After a sink that held nothing back took some bytes, what it holds back is written and flushed, or that stops: then these
-- bytes were written and flushed, or writing them stopped.
pub finished_after : (old mid : Buffer) (bytes : List ℕ) (new : WriteTrace) (result : Result (Unit {0}) Error) → old.held ≡ [] →
    Holds old bytes mid → Wrote WroteAndFlushed WriteOrFlushStopped mid.trace mid.held result new →
    Wrote WroteAndFlushed WriteOrFlushStopped old.trace bytes result new
finished_after old mid bytes new (Ok done) none holds finished =
    let all : bytes ≡ holds.written ++ mid.held = ap (λ held. held ++ bytes) (sym none) ∙ holds.all in
    record {
      written = subst (λ l. Writes old.trace l new) (sym all)
          (writes_in_turn old.trace mid.trace new holds.written mid.held holds.wrote.written finished.written);
      flushed = finished.flushed;
      no_failure_ignored = λ well. finished.no_failure_ignored (holds.wrote.no_failure_ignored well);
      same_writer = finished.same_writer ∙ holds.wrote.same_writer;
    }
finished_after old mid bytes new (Err error) none holds finished =
    let all : bytes ≡ holds.written ++ mid.held = ap (λ held. held ++ bytes) (sym none) ∙ holds.all in
    let long : length bytes ≡ length holds.written + length mid.held = ap length all ∙ length-append holds.written mid.held in
    let count = length holds.written + finished.count in
    let same : take count bytes ≡ holds.written ++ take finished.count mid.held =
    ap (take count) all ∙ take-append-add holds.written mid.held finished.count in
    record {
      is = finished.is;
      count = count;
      within = omega (arith, long, finished.within);
      written = subst (λ l. Writes old.trace l new) (sym same)
          (writes_in_turn old.trace mid.trace new holds.written (take finished.count mid.held) holds.wrote.written finished.written);
      whole = λ flushing. omega (arith, long, finished.whole flushing);
      cause = finished.cause;
      same_writer = finished.same_writer ∙ holds.wrote.same_writer;
    }

-- The input was read, and writing its output stopped.
pub write_stopped : (source new_source : ReadTrace) (target new_target : WriteTrace) (IsOutput : List ℕ → List ℕ → Type 0)
    (HasError : List ℕ → Type 0) (read_failed write_failed : Type 0) (input output : List ℕ) (error : Error) →
    ReadWhole source.remaining new_source.remaining input → IsOutput input output → HasError input → ¬ read_failed → write_failed →
    WriteOrFlushStopped target output new_target error →
    TransferFailed source new_source target new_target IsOutput HasError read_failed write_failed
write_stopped source new_source target new_target IsOutput HasError read_failed write_failed input output error read is_output has_error
    no_read is_write stopped = record {
      failed = record {
        input = input;
        is_input = read.is_input;
        has_error = has_error;
        prefix = λ _. record {
          input = input;
          output = output;
          count = stopped.count;
          read = read;
          within = stopped.within;
          written = stopped.written;
          whole = stopped.whole;
          is_output = is_output;
        };
        else_nothing = λ other. absurd (other is_write);
      };
      why_read_failed = λ read_failed. absurd (no_read read_failed);
      why_write_failed = λ _. stopped.cause;
    }

-- The input was read, and refused, or memory ran out; nothing was written.
pub refused_after : (source new_source : ReadTrace) (target new_target : WriteTrace) (IsOutput : List ℕ → List ℕ → Type 0)
    (HasError : List ℕ → Type 0) (read_failed write_failed : Type 0) (input : List ℕ) →
    ReadWhole source.remaining new_source.remaining input → HasError input → ¬ read_failed → ¬ write_failed →
    Keeps target.contents new_target.contents →
    TransferFailed source new_source target new_target IsOutput HasError read_failed write_failed
refused_after source new_source target new_target IsOutput HasError read_failed write_failed input read has_error
    no_read no_write kept = record {
      failed = record {
        input = input;
        is_input = read.is_input;
        has_error = has_error;
        prefix = λ write_failed. absurd (no_write write_failed);
        else_nothing = λ _. kept;
      };
      why_read_failed = λ read_failed. absurd (no_read read_failed);
      why_write_failed = λ write_failed. absurd (no_write write_failed);
    }

-- What follows from an error of reading for an input, whatever the call.
pub record IsErrorOfReading (remaining : Option (List ℕ)) (most : ℕ) (MustStop : Type 0) (HasError : List ℕ → Type 0)
    (error : Error) : Type 0 where
  pub input : List ℕ
  pub is_input : IsInput remaining input
  pub has_error : HasError input
  pub no_write : ¬ (error ≡ WriteFailed)
  pub why : error ≡ ReadFailed → MustStop

-- Reading failed; nothing was written.
pub read_stopped : (source new_source : ReadTrace) (target : WriteTrace) (IsOutput : List ℕ → List ℕ → Type 0) (HasError : List ℕ → Type 0)
    (most : ℕ) (read_failed write_failed : Type 0) (error : Error) →
    IsErrorOfReading source.remaining most (MustStopReading new_source) HasError error → (read_failed → error ≡ ReadFailed) →
    (write_failed → error ≡ WriteFailed) → TransferFailed source new_source target target IsOutput HasError read_failed write_failed
read_stopped source new_source target IsOutput HasError most read_failed write_failed error is is_read is_write = record {
  failed = record {
    input = is.input;
    is_input = is.is_input;
    has_error = is.has_error;
    prefix = λ write_failed. absurd (is.no_write (is_write write_failed));
    else_nothing = λ _. Keeps-refl target.contents;
  };
  why_read_failed = λ read_failed. is.why (is_read read_failed);
  why_write_failed = λ write_failed. absurd (is.no_write (is_write write_failed));
}

-- An error of reading is one that a call can have for the input, where it can refuse what is too long, run out of memory and
-- fail to read.
pub error_of_reading : (remaining : Option (List ℕ)) (most : ℕ) (MustStop : Type 0) (HasError : Error → List ℕ → Type 0) (error : Error) →
    IsReadError remaining most MustStop error → ((input : List ℕ) → most < length input → HasError (Refused (too_large most)) input) →
    ((input : List ℕ) → HasError OutOfMemory input) → ((input : List ℕ) → HasError ReadFailed input) →
    IsErrorOfReading remaining most MustStop (HasError error) error
error_of_reading remaining most MustStop HasError (Refused fault) is too_long memory failed = record {
  input = is.0;
  is_input = is.1;
  has_error = subst (λ f. HasError (Refused f) is.0) (sym is.3) (too_long is.0 is.2);
  no_write = λ e. absurd cc;
  why = λ e. absurd cc;
}
error_of_reading remaining most MustStop HasError OutOfMemory is too_long memory failed =
    let some = some_input remaining in
    record { input = some.0; is_input = some.1; has_error = memory some.0; no_write = λ e. absurd cc; why = λ e. absurd cc }
error_of_reading remaining most MustStop HasError ReadFailed is too_long memory failed =
    let some = some_input remaining in
    record { input = some.0; is_input = some.1; has_error = failed some.0; no_write = λ e. absurd cc; why = λ _. is }
error_of_reading remaining most MustStop HasError WriteFailed is too_long memory failed = absurd is
