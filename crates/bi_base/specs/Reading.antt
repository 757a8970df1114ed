use Rattle.std.specs.Prelude.{◌≡◌, ◌≢◌, ℕ, ◌<◌, ◌≤◌, ◌+◌, ⊤, List, length, take, Option, None, Some}
use Rattle.std.specs.Io.KnownBytes.{Consumes, IsAtEnd, Keeps}
use Rattle.bi_base.specs.declared.fault.Error.{Error}
use Rattle.bi_base.specs.declared.fault.Error.TheVariants.{Refused, OutOfMemory, ReadFailed}
use Rattle.bi_base.specs.declared.fault.Error.TheVariants.{WriteFailed}
use Rattle.bi_base.specs.declared.fault.Cause.TheVariants.{TooLarge}
use Rattle.bi_base.specs.declared.fault.Fault.{Fault}
use Rattle.bi_base.specs.Limits.{Limits}
use Rattle.bi_base.specs.Traces.{ReadTrace, ReadsWell, MustStopReading}

-- What calls that read a whole input did (profile of this project).

-- The fault of something that is longer than this bound.
abbrev pub too_large : ℕ → Fault
too_large most = record { cause = TooLarge; offset = most }

-- Of the bytes that a reader had, if they are known, at most the first `n` were read.
abbrev pub TakesAtMost : Option (List ℕ) → Option (List ℕ) → ℕ → Type 0
TakesAtMost old new n = (bytes : List ℕ) × (length bytes ≤ n) × Consumes old new bytes

-- At most this many bytes were read from a traced reader, even if it is not known which bytes it
-- has.
pub record TracedTakesAtMost (old new : ReadTrace) (most : ℕ) : Type 0 where
  pub known : TakesAtMost old.remaining new.remaining most
  pub counted : new.taken ≤ old.taken + most

-- The input of a reader that has these bytes, if they are known.
abbrev pub IsInput : Option (List ℕ) → List ℕ → Type 0
IsInput None input = ⊤
IsInput (Some bytes) input = bytes ≡ input

-- One call read these first bytes of a buffer: none only at the end of the input, or if the buffer
-- is empty.
pub record ReadSome (old new : ReadTrace) (buffer : List ℕ) (count : ℕ) : Type 0 where
  pub consumed : Consumes old.remaining new.remaining (take count buffer)
  pub counted : new.taken ≤ old.taken + count
  pub ended : count ≡ 0 → 0 < length buffer → IsAtEnd new.remaining
  pub no_failure_ignored : ReadsWell old → ReadsWell new
  pub same_reader : new.reader ≡ old.reader

-- Reading stopped with an error: nothing was read, and the last read was a reason to stop.
pub record NothingRead (old new : ReadTrace) (error : Error) : Type 0 where
  pub is : error ≡ ReadFailed
  pub kept : Keeps old.remaining new.remaining
  pub counted : new.taken ≡ old.taken
  pub cause : MustStopReading new
  pub same_reader : new.reader ≡ old.reader

-- The reader had this input, and all of it was read.
pub record ReadWhole (old new : Option (List ℕ)) (input : List ℕ) : Type 0 where
  pub is_input : IsInput old input
  pub consumed : Consumes old new input
  pub ended : IsAtEnd new

-- Why reading an input of at most this many bytes fails: it is longer, memory ran out, or the last
-- read was a reason to stop.
abbrev pub IsReadError : Option (List ℕ) → (most : ℕ) → (MustStop : Type 0) → Error → Type 0
IsReadError old most MustStop (Refused fault) =
    (input : List ℕ) × IsInput old input × (most < length input) × (fault ≡ too_large most)
IsReadError old most MustStop OutOfMemory = ⊤
IsReadError old most MustStop ReadFailed = MustStop
IsReadError old most MustStop WriteFailed = ⊥

-- A whole input was read from a traced reader under these limits, and no failed read was ignored.
pub record IsInputRead (limits : Limits) (old new : ReadTrace) (input : List ℕ) : Type 0 where
  pub whole : ReadWhole old.remaining new.remaining input
  pub within : length input ≤ limits.file
  pub takes_at_most_one_byte_more : TracedTakesAtMost old new (limits.file + 1)
  pub no_failure_ignored : ReadsWell old → ReadsWell new
  pub same_reader : new.reader ≡ old.reader

-- Reading a whole input from a traced reader under these limits failed with this error. If a read
-- was a reason to stop, the error is ReadFailed.
pub record IsInputNotRead (limits : Limits) (old new : ReadTrace) (error : Error) : Type 0 where
  pub cause : IsReadError old.remaining limits.file (MustStopReading new) error
  pub takes_at_most_one_byte_more : TracedTakesAtMost old new (limits.file + 1)
  pub no_failure_ignored : error ≢ ReadFailed → ReadsWell old → ReadsWell new
  pub same_reader : new.reader ≡ old.reader
