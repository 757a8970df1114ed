use Rattle.std.specs.Prelude.{◌≡◌, ◌≢◌, ◌⊎◌, ◌+◌, ◌-◌, ◌^◌, ◌<◌, ◌≤◌, ◌↔◌, ℕ, Bool, List, Option}
use Rattle.std.specs.Prelude.{length, min, Result, IsTrue, IsFalse, IsOkAnd, IsErrAnd, MatchResult}
use Rattle.std.specs.Borrow.{GName}
use Rattle.std.specs.IoError.{error_kind}
use Rattle.std.specs.Io.KnownBytes.{Keeps, ReadConsumes, WriteAppends}
use Rattle.std.specs.declared.io.Error.{Error}
use Rattle.std.specs.declared.io.ErrorKind.TheVariants.{Interrupted}

-- What is known of the calls that were made on a reader or a writer (profile of this project).

-- A reader after some calls.
pub record ReadTrace : Type 0 where
  -- Which reader it is.
  pub reader : GName
  -- The bytes that it still has, if they are known.
  pub remaining : Option (List ℕ)
  -- How many bytes were read from it. The count stops at 2^64 - 1.
  pub taken : ℕ
  -- The last call failed with an error other than an interruption.
  pub failed : Bool
  -- How many calls in a row were interrupted, up to the last one. The count stops at 2^32 - 1.
  pub interruptions : ℕ
  -- Some call so far was a reason to stop.
  pub stopped : Bool

-- A writer after some calls.
pub record WriteTrace : Type 0 where
  -- Which writer it is.
  pub writer : GName
  -- The bytes that it holds, if they are known.
  pub contents : Option (List ℕ)
  -- The last call failed with an error other than an interruption.
  pub failed : Bool
  -- The last call was a write of some bytes, and wrote none.
  pub stalled : Bool
  -- The last call was a flush.
  pub flushing : Bool
  -- How many calls in a row were interrupted, up to the last one. The count stops at 2^32 - 1.
  pub interruptions : ℕ
  -- Some call so far was a reason to stop.
  pub stopped : Bool

-- The flag is true if and only if the call failed with an error other than an interruption.
abbrev pub RecordsFailure : {T : Type 0} → Bool → Result T Error → Type 0
RecordsFailure failed result = IsTrue failed
    ↔ IsErrAnd result (λ error. error_kind error ≢ Interrupted)

-- The flag is true if and only if the write of these bytes stalled: there were some, and it wrote
-- none.
abbrev pub RecordsStall : Bool → Result ℕ Error → List ℕ → Type 0
RecordsStall stalled result bytes = IsTrue stalled
    ↔ IsOkAnd result (λ count. (count ≡ 0) × (0 < length bytes))

-- The count of interrupted calls in a row, before and after the call.
abbrev pub CountsInterruptions : {T : Type 0} → ℕ → ℕ → Result T Error → Type 0
CountsInterruptions old new result =
    MatchResult result
    (λ _. new ≡ 0)
    (λ error. (error_kind error ≡ Interrupted → new ≡ min (old + 1) (2 ^ 32 - 1))
    × (error_kind error ≢ Interrupted → new ≡ 0))

-- The count of bytes that were read, before and after the call.
abbrev pub CountsBytes : ℕ → ℕ → Result ℕ Error → Type 0
CountsBytes old new result =
    MatchResult result (λ count. new ≡ min (old + count) (2 ^ 64 - 1)) (λ _. new ≡ old)

-- The last call is a reason to stop: it failed, or was the 1,024th in a row that was interrupted.
abbrev pub MustStop : Bool → ℕ → Type 0
MustStop failed interruptions = IsTrue failed ⊎ (1024 ≤ interruptions)

-- The last call on a reader is a reason to stop reading.
abbrev pub MustStopReading : ReadTrace → Type 0
MustStopReading trace = MustStop trace.failed trace.interruptions

-- The last call on a writer is a reason to stop writing: one of these, or a write that stalled.
abbrev pub MustStopWriting : WriteTrace → Type 0
MustStopWriting trace = MustStop trace.failed trace.interruptions ⊎ IsTrue trace.stalled

-- No call on a reader so far was a reason to stop, and the last one was not interrupted.
pub record ReadsWell (trace : ReadTrace) : Type 0 where
  pub not_stopped : IsFalse trace.stopped
  pub not_interrupted : trace.interruptions ≡ 0

-- No call on a writer so far was a reason to stop, and the last one was not interrupted.
pub record WritesWell (trace : WriteTrace) : Type 0 where
  pub not_stopped : IsFalse trace.stopped
  pub not_interrupted : trace.interruptions ≡ 0

-- The last call on a writer was a flush, and it succeeded.
pub record IsFlushed (trace : WriteTrace) : Type 0 where
  pub flushing : IsTrue trace.flushing
  pub not_failed : IsFalse trace.failed
  pub not_interrupted : trace.interruptions ≡ 0

-- One read into a buffer, which now holds these bytes.
pub record IsReadCall (old new : ReadTrace) (result : Result ℕ Error) (buffer : List ℕ) : Type 0
  where
    pub bytes : ReadConsumes old.remaining new.remaining result buffer
    pub taken : CountsBytes old.taken new.taken result
    pub failed : RecordsFailure new.failed result
    pub interruptions : CountsInterruptions old.interruptions new.interruptions result
    pub stopped : IsTrue new.stopped ↔ (IsTrue old.stopped ⊎ MustStopReading new)
    pub same_reader : new.reader ≡ old.reader

-- One write of these bytes.
pub record IsWriteCall (old new : WriteTrace) (result : Result ℕ Error) (bytes : List ℕ) : Type 0
  where
    pub bytes_taken : WriteAppends old.contents new.contents result bytes
    pub failed : RecordsFailure new.failed result
    pub stalled : RecordsStall new.stalled result bytes
    pub not_flushing : IsFalse new.flushing
    pub interruptions : CountsInterruptions old.interruptions new.interruptions result
    pub stopped : IsTrue new.stopped ↔ (IsTrue old.stopped ⊎ MustStopWriting new)
    pub same_writer : new.writer ≡ old.writer

-- One flush.
pub record IsFlushCall (old new : WriteTrace) (result : Result (Unit {0}) Error) : Type 0 where
  pub bytes_kept : Keeps old.contents new.contents
  pub failed : RecordsFailure new.failed result
  pub not_stalled : IsFalse new.stalled
  pub flushing : IsTrue new.flushing
  pub interruptions : CountsInterruptions old.interruptions new.interruptions result
  pub stopped : IsTrue new.stopped ↔ (IsTrue old.stopped ⊎ MustStopWriting new)
  pub same_writer : new.writer ≡ old.writer
