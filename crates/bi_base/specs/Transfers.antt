use Rattle.std.specs.Prelude.{◌≡◌, ◌≤◌, ℕ, List, length, take, Option, IsTrue}
use Rattle.std.specs.Io.KnownBytes.{Appends, Keeps}
use Rattle.bi_base.specs.Reading.{IsInput, ReadWhole}
use Rattle.bi_base.specs.Traces.{ReadTrace, WriteTrace, IsFlushed, MustStopReading, MustStopWriting}

-- What a call that reads a whole input from a reader, and writes an output to a writer, did
-- (profile of this project). `remaining` is what the reader has before the call and after it,
-- `contents` what the writer holds, each if it is known. `IsOutput` holds for an input and an
-- output that the call may write for it.

-- The input was read, and its output was written.
pub record Moved (remaining new_remaining contents new_contents : Option (List ℕ))
    (IsOutput : List ℕ → List ℕ → Type 0) : Type 0 where
  pub input : List ℕ
  pub output : List ℕ
  pub read : ReadWhole remaining new_remaining input
  pub written : Appends contents new_contents output
  pub is_output : IsOutput input output

-- The input was read, and a prefix of its output was written: all of it if the writer was flushing.
pub record MovedPrefix (remaining new_remaining contents new_contents : Option (List ℕ))
    (flushing : Type 0)
    (IsOutput : List ℕ → List ℕ → Type 0) : Type 0 where
  pub input : List ℕ
  pub output : List ℕ
  pub count : ℕ
  pub read : ReadWhole remaining new_remaining input
  pub within : count ≤ length output
  pub written : Appends contents new_contents (take count output)
  pub whole : flushing → count ≡ length output
  pub is_output : IsOutput input output

-- The call failed with an error that it can have for the input. After a failed write a prefix of
-- the output was written, and after any other error nothing was.
pub record MoveFailed (remaining new_remaining contents new_contents : Option (List ℕ))
    (flushing : Type 0)
    (IsOutput : List ℕ → List ℕ → Type 0) (HasError : List ℕ → Type 0) (write_failed : Type 0) :
    Type 0 where
  pub input : List ℕ
  pub is_input : IsInput remaining input
  pub has_error : HasError input
  pub prefix : write_failed → MovedPrefix remaining new_remaining contents new_contents flushing
      IsOutput
  pub else_nothing : ¬ write_failed → Keeps contents new_contents

-- The whole input was read from a reader, and its output was written to a writer and flushed. The
-- calls of both are traced.
pub record Transferred (source new_source : ReadTrace) (target new_target : WriteTrace)
    (IsOutput : List ℕ → List ℕ → Type 0) : Type 0 where
  pub moved : Moved source.remaining new_source.remaining target.contents new_target.contents
      IsOutput
  pub flushed : IsFlushed new_target

-- The call, from a traced reader to a traced writer, failed with an error that it can have for the
-- input. After a failed write a prefix of the output was written, and after any other error nothing
-- was written. A failed read or write was a reason to stop.
pub record TransferFailed (source new_source : ReadTrace) (target new_target : WriteTrace)
    (IsOutput : List ℕ → List ℕ → Type 0) (HasError : List ℕ → Type 0)
    (read_failed write_failed : Type 0) : Type 0 where
  pub failed : MoveFailed source.remaining new_source.remaining target.contents new_target.contents
      (IsTrue new_target.flushing) IsOutput HasError write_failed
  pub why_read_failed : read_failed → MustStopReading new_source
  pub why_write_failed : write_failed → MustStopWriting new_target

-- The calls went to the same reader and the same writer.
pub record SameStreams (source new_source : ReadTrace) (target new_target : WriteTrace) : Type 0
  where
    pub same_reader : new_source.reader ≡ source.reader
    pub same_writer : new_target.writer ≡ target.writer
