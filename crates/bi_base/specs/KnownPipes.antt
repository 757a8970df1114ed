use Rattle.std.specs.Prelude.{◌≡◌, ◌++◌, ℕ, Bool, true, false, List, [], codes, Some}
use Rattle.std.specs.Prelude.{Result, Ok, Err}
use Rattle.std.specs.Borrow.{GName}
use Rattle.bi_base.specs.Commands.{Appended, AppendFailed, CommandPromise, unit_promise}
use Rattle.bi_base.specs.Limits.{Limits}
use Rattle.bi_base.specs.Pipes.{IsPiped, IsTracedPipe}
use Rattle.bi_base.specs.Reading.{too_large}
use Rattle.bi_base.specs.Traces.{ReadTrace, WriteTrace}
use Rattle.bi_base.specs.VecSinks.{Grows, IsOutOfMemory}
use Rattle.bi_base.specs.Sinks.{FailsWithin}
use Rattle.bi_base.specs.declared.fault.Error.{Error}
use Rattle.bi_base.specs.declared.fault.Error.TheVariants.{Refused, OutOfMemory, ReadFailed}
use Rattle.bi_base.specs.declared.fault.Error.TheVariants.{WriteFailed}

-- What a small command may do with a reader and a writer, and what it may not, by which a reader
-- can judge the definitions.

-- A command that writes its input twice, and fails if the input is empty.
abbrev pub twice : CommandPromise (Unit {0}) Error
twice =
    unit_promise (λ input output. output ≡ input ++ input)
    (λ input error. (input ≡ []) × (error ≡ Refused (too_large 0)))

-- A limit of three bytes.
abbrev pub three_bytes : Limits
three_bytes = record { file = 3; depth = 64 }

-- What such a run did: the reader had these bytes, and has those; the writer held `x`, and holds
-- these bytes.
abbrev pub Ran : (had has holds : List ℕ) → Result (Unit {0}) Error → Type 0
Ran had has holds result =
    IsPiped twice three_bytes (Some had) (Some has) (Some (codes "x")) (Some holds) result

-- A run reads everything and appends the output. It may fail with the error of the command, or
-- because the input is too long, memory runs out, or the reader or the writer fails. Only a failed
-- write leaves a part of the output. At most one byte more than the limit is read.
pub record RunsAreKnown : Type 0 where
  pub done : Ran (codes "ab") [] (codes "xabab") (Ok tt)
  pub not_read : ¬ (Ran (codes "ab") (codes "b") (codes "xabab") (Ok tt))
  pub not_written : ¬ (Ran (codes "ab") [] (codes "x") (Ok tt))
  pub other_output : ¬ (Ran (codes "ab") [] (codes "xaba") (Ok tt))
  pub replaced : ¬ (Ran (codes "ab") [] (codes "abab") (Ok tt))
  pub empty_done : ¬ (Ran [] [] (codes "xa") (Ok tt))
  pub refused : Ran [] [] (codes "x") (Err (Refused (too_large 0)))
  pub not_refused : ¬ (Ran (codes "ab") [] (codes "x") (Err (Refused (too_large 0))))
  pub too_long : Ran (codes "abcde") (codes "e") (codes "x") (Err (Refused (too_large 3)))
  pub not_too_long : ¬ (Ran (codes "abc") [] (codes "x") (Err (Refused (too_large 3))))
  pub all_read : ¬ (Ran (codes "abcde") [] (codes "x") (Err (Refused (too_large 3))))
  pub after_refusal : ¬ (Ran (codes "abcde") (codes "e") (codes "xa") (Err (Refused (too_large 3))))
  pub no_memory : Ran (codes "ab") (codes "b") (codes "x") (Err OutOfMemory)
  pub after_no_memory : ¬ (Ran (codes "ab") [] (codes "xa") (Err OutOfMemory))
  pub no_read : Ran (codes "ab") (codes "b") (codes "x") (Err ReadFailed)
  pub after_no_read : ¬ (Ran (codes "ab") [] (codes "xa") (Err ReadFailed))
  pub no_write : Ran (codes "ab") [] (codes "xaba") (Err WriteFailed)
  pub other_part : ¬ (Ran (codes "ab") [] (codes "xb") (Err WriteFailed))
  pub part_of_unread : ¬ (Ran (codes "ab") (codes "b") (codes "xa") (Err WriteFailed))

-- A reader of this name that has these bytes, of which this many were read; some call on it was a
-- reason to stop, or none was.
abbrev pub reader_with : GName → (remaining : List ℕ) → (taken : ℕ) → (stopped : Bool) → ReadTrace
reader_with name remaining taken stopped = record {
  reader = name;
  remaining = Some remaining;
  taken = taken;
  failed = stopped;
  interruptions = 0;
  stopped = stopped;
}

-- A writer of this name that holds these bytes, whose last call was a flush or was not; some call
-- on it was a reason to stop, or none was.
abbrev pub writer_with : GName → (contents : List ℕ) → (flushing stopped : Bool) → WriteTrace
writer_with name contents flushing stopped = record {
  writer = name;
  contents = Some contents;
  failed = stopped;
  stalled = false;
  flushing = flushing;
  interruptions = 0;
  stopped = stopped;
}

-- What a run with a traced reader and a traced writer did.
abbrev pub RanTraced : GName → GName → (had has : List ℕ) → (taken : ℕ) → (no_read : Bool)
    → (holds : List ℕ) → (flushing no_write : Bool) → Result (Unit {0}) Error → Type 0
RanTraced reader writer had has taken no_read holds flushing no_write result =
    IsTracedPipe twice three_bytes (reader_with reader had 0 false)
    (reader_with reader has taken no_read)
    (writer_with writer (codes "x") false false) (writer_with writer holds flushing no_write)
    result

-- Such a run flushes the output, and ignores no failed call. Each failure of a stream has a failed
-- call as its reason. After a failed flush the whole output is written.
pub record TracedRunsAreKnown : Type 0 where
  pub done : (r w : GName)
      → RanTraced r w (codes "ab") [] 2 false (codes "xabab") true false (Ok tt)
  pub not_flushed : (r w : GName)
      → ¬ (RanTraced r w (codes "ab") [] 2 false (codes "xabab") false false (Ok tt))
  pub failed_read_ignored : (r w : GName)
      → ¬ (RanTraced r w (codes "ab") [] 2 true (codes "xabab") true false (Ok tt))
  pub failed_write_ignored : (r w : GName)
      → ¬ (RanTraced r w (codes "ab") [] 2 false (codes "xabab") true true (Ok tt))
  pub all_counted : (r w : GName)
      → ¬ (RanTraced r w (codes "ab") [] 5 false (codes "x") false false (Err OutOfMemory))
  pub no_read : (r w : GName)
      → RanTraced r w (codes "ab") (codes "b") 1 true (codes "x") false false (Err ReadFailed)
  pub no_failed_read : (r w : GName) → ¬
      (RanTraced r w (codes "ab") (codes "b") 1 false (codes "x") false false (Err ReadFailed))
  pub no_write : (r w : GName)
      → RanTraced r w (codes "ab") [] 2 false (codes "xab") false true (Err WriteFailed)
  pub no_failed_write : (r w : GName) → ¬
      (RanTraced r w (codes "ab") [] 2 false (codes "xab") false false (Err WriteFailed))
  pub no_flush : (r w : GName)
      → RanTraced r w (codes "ab") [] 2 false (codes "xabab") true true (Err WriteFailed)
  pub part_flushed : (r w : GName) → ¬
      (RanTraced r w (codes "ab") [] 2 false (codes "xab") true true (Err WriteFailed))

-- A call appended `ab` to bytes in memory, or it failed: with an error of its own, here that a
-- length is over 3, which leaves them as they are, or because memory ran out.
abbrev pub Added : (old new : List ℕ) → Type 0
Added old new = Appended Grows (λ text. text ≡ codes "ab") old new

abbrev pub NotAdded : (old new : List ℕ) → Error → Type 0
NotAdded old new error =
    AppendFailed (FailsWithin Grows IsOutOfMemory) (λ text. text ≡ codes "ab")
    (λ other. other ≡ Refused (too_large 3)) old new error

pub record AppendsAreKnown : Type 0 where
  pub added : Added (codes "x") (codes "xab")
  pub not_added : ¬ (Added (codes "x") (codes "x"))
  pub refused : NotAdded (codes "x") (codes "x") (Refused (too_large 3))
  pub after_refusal : ¬ (NotAdded (codes "x") (codes "xa") (Refused (too_large 3)))
  pub no_memory : NotAdded (codes "x") (codes "xa") OutOfMemory
  pub other_error : ¬ (NotAdded (codes "x") (codes "x") WriteFailed)
