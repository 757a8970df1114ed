use Rattle.std.specs.Prelude.{◌≡◌, ◌≤◌, ℕ, List, length, take, IsTrue, IsFalse}
use Rattle.std.specs.Io.KnownBytes.{Appends, Keeps}
use Rattle.bi_base.specs.declared.fault.Error.{Error}
use Rattle.bi_base.specs.declared.fault.Error.TheVariants.{WriteFailed}
use Rattle.bi_base.specs.Sinks.{AppendsPrefix}
use Rattle.bi_base.specs.Traces.{WriteTrace, WritesWell, IsFlushed, MustStop, MustStopWriting}

-- What calls that write bytes to a traced writer did (profile of this project).

-- These bytes were written.
abbrev pub Writes : WriteTrace → List ℕ → WriteTrace → Type 0
Writes old bytes new = Appends old.contents new.contents bytes

-- All of these bytes were written.
pub record WroteAll (old : WriteTrace) (bytes : List ℕ) (new : WriteTrace) : Type 0 where
  pub written : Writes old bytes new
  pub no_failure_ignored : WritesWell old → WritesWell new
  pub same_writer : new.writer ≡ old.writer

-- Writing stopped with an error: nothing was written, and the last write was a reason to stop.
pub record NothingWritten (old new : WriteTrace) (error : Error) : Type 0 where
  pub is : error ≡ WriteFailed
  pub kept : Keeps old.contents new.contents
  pub cause : MustStopWriting new
  pub not_flushing : IsFalse new.flushing
  pub same_writer : new.writer ≡ old.writer

-- Writing these bytes stopped with an error: a prefix of them was written, and the last write was a
-- reason to stop.
pub record WriteStopped (old : WriteTrace) (bytes : List ℕ) (new : WriteTrace) (error : Error) :
    Type 0 where
  pub is : error ≡ WriteFailed
  pub prefix : AppendsPrefix Writes old bytes new
  pub cause : MustStopWriting new
  pub not_flushing : IsFalse new.flushing
  pub same_writer : new.writer ≡ old.writer

-- The writer was flushed.
pub record Flushed (old new : WriteTrace) : Type 0 where
  pub kept : Keeps old.contents new.contents
  pub flushed : IsFlushed new
  pub no_failure_ignored : WritesWell old → WritesWell new
  pub same_writer : new.writer ≡ old.writer

-- Flushing stopped with an error: nothing was written, and the last flush was a reason to stop.
pub record FlushStopped (old new : WriteTrace) (error : Error) : Type 0 where
  pub is : error ≡ WriteFailed
  pub kept : Keeps old.contents new.contents
  pub cause : MustStop new.failed new.interruptions
  pub flushing : IsTrue new.flushing
  pub same_writer : new.writer ≡ old.writer

-- All of these bytes were written, and the writer was flushed.
pub record WroteAndFlushed (old : WriteTrace) (bytes : List ℕ) (new : WriteTrace) : Type 0 where
  pub written : Writes old bytes new
  pub flushed : IsFlushed new
  pub no_failure_ignored : WritesWell old → WritesWell new
  pub same_writer : new.writer ≡ old.writer

-- Writing these bytes and flushing stopped with an error: a prefix of them was written, all of them
-- if the last call was a flush, and the last call was a reason to stop.
pub record WriteOrFlushStopped (old : WriteTrace) (bytes : List ℕ) (new : WriteTrace)
    (error : Error) : Type 0 where
  pub is : error ≡ WriteFailed
  pub count : ℕ
  pub within : count ≤ length bytes
  pub written : Writes old (take count bytes) new
  pub whole : IsTrue new.flushing → count ≡ length bytes
  pub cause : MustStopWriting new
  pub same_writer : new.writer ≡ old.writer
