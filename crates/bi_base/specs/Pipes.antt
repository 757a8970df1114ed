use Rattle.std.specs.Prelude.{ℕ, ◌+◌, ◌≡◌, List, Option, Result, IfOk, IfErr, IsErrOf}
use Rattle.bi_base.specs.declared.fault.Error.TheVariants.{ReadFailed, WriteFailed}
use Rattle.bi_base.specs.Commands.{CommandPromise, PipeError}
use Rattle.bi_base.specs.Limits.{Limits}
use Rattle.bi_base.specs.Reading.{TakesAtMost, TracedTakesAtMost}
use Rattle.bi_base.specs.Traces.{ReadTrace, WriteTrace, ReadsWell, WritesWell}
use Rattle.bi_base.specs.Transfers.{Moved, MoveFailed, Transferred, TransferFailed, SameStreams}

-- Running a command from a reader to a writer (profile of this project).

-- A command with this promise was run within these limits from a reader to a writer, and this is
-- its result. `remaining` is what the reader has before the call and after it, `contents` what the
-- writer holds, each if it is known.
pub record IsPiped {V E : Type 0} (promise : CommandPromise V E) (limits : Limits)
    (remaining new_remaining contents new_contents : Option (List ℕ)) (result : Result V E) : Type 0
  where
    -- The whole input was read, and its output was written.
    pub done : IfOk result (λ value. Moved remaining new_remaining contents new_contents
        (promise.is_output value))
    -- The command failed with an error that it can have for the input. After WriteFailed a prefix
    -- of the output was written, and after any other error nothing was.
    pub failed : IfErr result (λ error. MoveFailed remaining new_remaining contents new_contents ⊥
        promise.is_text (λ input. PipeError promise limits input error)
        (error ≡ promise.wraps WriteFailed))
    -- At most one byte more than the limit was read.
    pub takes_at_most_one_byte_more : TakesAtMost remaining new_remaining (limits.file + 1)

-- A command with this promise was run within these limits from a traced reader to a traced writer,
-- and this is its result.
pub record IsTracedPipe {V E : Type 0} (promise : CommandPromise V E) (limits : Limits)
    (source new_source : ReadTrace) (target new_target : WriteTrace) (result : Result V E) : Type 0
  where
    -- The whole input was read, and its output was written and flushed.
    pub done : IfOk result (λ value. Transferred source new_source target new_target
        (promise.is_output value))
    -- The command failed with an error that it can have for the input: ReadFailed and WriteFailed
    -- only after a call that was a reason to stop. After WriteFailed a prefix of the output was
    -- written, all of it if the last call was a flush, and after any other error nothing was.
    pub failed : IfErr result (λ error. TransferFailed source new_source target new_target
        promise.is_text (λ input. PipeError promise limits input error)
        (error ≡ promise.wraps ReadFailed) (error ≡ promise.wraps WriteFailed))
    -- At most one byte more than the limit was read, whatever the reader has.
    pub takes_at_most_one_byte_more : TracedTakesAtMost source new_source (limits.file + 1)
    -- If a call on the reader was a reason to stop, the error is ReadFailed.
    pub no_failed_read_ignored : ReadsWell source
        → (IsErrOf result (promise.wraps ReadFailed) → ⊥) → ReadsWell new_source
    -- If a call on the writer was a reason to stop, the error is WriteFailed.
    pub no_failed_write_ignored : WritesWell target
        → (IsErrOf result (promise.wraps WriteFailed) → ⊥) → WritesWell new_target
    pub same_streams : SameStreams source new_source target new_target
