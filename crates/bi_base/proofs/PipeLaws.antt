use Rattle.std.proofs.Common.{◌≡◌, ◌++◌, ℕ, List, [], Option, Result, Ok, Err, IfErr, refl, sym, ap, ◌∙◌, subst}
use Rattle.std.proofs.KnownBytes.{Keeps-refl}
use Rattle.std.specs.Io.KnownBytes.{Keeps}
use Rattle.bi_base.specs.BufferedSinks.{state_of, BufferAppends, BufferFails}
use Rattle.bi_base.specs.Commands.{Appended, CommandFailed, CommandPromise, PipeError, PromiseLaws, WasRefused, SinkFailed, OfCommand}
use Rattle.bi_base.specs.Commands.{InputTooLong, NoMemory, NoRead, NoWrite}
use Rattle.bi_base.specs.Limits.{Limits}
use Rattle.bi_base.specs.Pipes.{IsPiped, IsTracedPipe}
use Rattle.bi_base.specs.Reading.{IsReadError, ReadWhole}
use Rattle.bi_base.specs.Sinks.{Wrote}
use Rattle.bi_base.specs.Traces.{ReadTrace, WriteTrace, MustStopReading}
use Rattle.bi_base.specs.Transfers.{MoveFailed, TransferFailed}
use Rattle.bi_base.specs.Writing.{WriteStopped, WroteAndFlushed, WriteOrFlushStopped}
use Rattle.bi_base.specs.declared.buffered_sink.BufferedSink.{BufferedSink}
use Rattle.bi_base.specs.declared.fault.Error.{Error}
use Rattle.bi_base.specs.declared.fault.Error.TheVariants.{ReadFailed, WriteFailed}
use Rattle.bi_base.proofs.TransferLaws.{stopped_writing, finished_after, write_stopped, refused_after, read_stopped, error_of_reading}

-- A command that is run from a reader to a writer fails if reading, the command or writing its output fails, and a run over traced streams
-- is a run over plain ones.

-- Where a command failed over a new sink, writing failed.
pub failed_writing : {T E : Type 0} (trace : T → WriteTrace) (wraps : Error → E) (IsText : List ℕ → Type 0) (HasError : E → Type 0)
    (old new : BufferedSink T) (error : E) → (state_of trace old).held ≡ []
    → CommandFailed (BufferFails trace) wraps IsText HasError old new error
    → CommandFailed WriteOrFlushStopped wraps IsText HasError (state_of trace old).trace (state_of trace new).trace error
failed_writing trace wraps IsText HasError old new error none (WasRefused is same) =
    WasRefused is (ap (λ sink. (state_of trace sink).trace) same)
failed_writing trace wraps IsText HasError old new error none (SinkFailed text cause is stops wrapped) =
    SinkFailed text cause is
    (stopped_writing (state_of trace old).trace text (state_of trace new).trace cause
    (subst (λ l. WriteStopped (state_of trace old).trace (l ++ text) (state_of trace new).trace cause) none stops.stopped))
    wrapped

-- Where a new sink took the text, finishing it writes and flushes the text, or that stops.
pub finished_writing : {T : Type 0} (trace : T → WriteTrace) (IsText : List ℕ → Type 0) (old mid : BufferedSink T)
    (new : WriteTrace) (result : Result (Unit {0}) Error) → (state_of trace old).held ≡ []
    → (appended : Appended (BufferAppends trace) IsText old mid)
    → Wrote WroteAndFlushed WriteOrFlushStopped (state_of trace mid).trace (state_of trace mid).held result new
    → Wrote WroteAndFlushed WriteOrFlushStopped (state_of trace old).trace appended.text result new
finished_writing trace IsText old mid new result none appended finished =
    finished_after (state_of trace old) (state_of trace mid) appended.text new result none appended.appended finished

-- A failed write is not a failed read.
write_is_no_read : ¬ (WriteFailed ≡ ReadFailed)
write_is_no_read e = absurd cc

-- Reading the input failed.
pub reading_failed : {V E : Type 0} (promise : CommandPromise V E) (limits : Limits) → PromiseLaws promise
    → (source new_source : ReadTrace) (target : WriteTrace) (error : Error)
    → IsReadError source.remaining limits.file (MustStopReading new_source) error
    → TransferFailed source new_source target target promise.is_text (λ input. PipeError promise limits input (promise.wraps error))
    (promise.wraps error ≡ promise.wraps ReadFailed) (promise.wraps error ≡ promise.wraps WriteFailed)
reading_failed promise limits laws source new_source target error is =
    read_stopped source new_source target promise.is_text (λ input. PipeError promise limits input (promise.wraps error)) limits.file
    (promise.wraps error ≡ promise.wraps ReadFailed) (promise.wraps error ≡ promise.wraps WriteFailed) error
    (error_of_reading source.remaining limits.file (MustStopReading new_source)
    (λ error input. PipeError promise limits input (promise.wraps error)) error is
    (λ input longer. InputTooLong longer refl) (λ input. NoMemory refl) (λ input. NoRead refl))
    (λ same. laws.wraps_once error ReadFailed same) (λ same. laws.wraps_once error WriteFailed same)

-- After a whole input was read, the command failed, or writing its output did.
pub piping_failed : {V E : Type 0} (promise : CommandPromise V E) (limits : Limits) → PromiseLaws promise
    → (source new_source : ReadTrace) (target new_target : WriteTrace) (input bytes : List ℕ) (result : Result V E)
    → ReadWhole source.remaining new_source.remaining bytes → input ≡ bytes
    → IfErr result (CommandFailed WriteOrFlushStopped promise.wraps (promise.is_text input) (promise.has_error input) target new_target)
    → IfErr result (λ error. TransferFailed source new_source target new_target promise.is_text
    (λ input. PipeError promise limits input error) (error ≡ promise.wraps ReadFailed) (error ≡ promise.wraps WriteFailed))
piping_failed promise limits laws source new_source target new_target input bytes (Ok value) read same failed = tt
piping_failed promise limits laws source new_source target new_target input bytes (Err error) read same (WasRefused is kept) =
    refused_after source new_source target new_target promise.is_text (λ input. PipeError promise limits input error)
    (error ≡ promise.wraps ReadFailed) (error ≡ promise.wraps WriteFailed) input
    (subst (ReadWhole source.remaining new_source.remaining) (sym same) read)
    (OfCommand is)
    (λ e. laws.no_read_error input (subst (promise.has_error input) e is))
    (λ e. laws.no_write_error input (subst (promise.has_error input) e is))
    (subst (λ (trace : WriteTrace). Keeps target.contents trace.contents) (sym kept) (Keeps-refl target.contents))
piping_failed promise limits laws source new_source target new_target input bytes (Err error) read same
    (SinkFailed text cause is stopped wrapped) =
    let is_write : error ≡ promise.wraps WriteFailed = wrapped ∙ ap promise.wraps stopped.is in
    write_stopped source new_source target new_target promise.is_text (λ input. PipeError promise limits input error)
    (error ≡ promise.wraps ReadFailed) (error ≡ promise.wraps WriteFailed) input text cause
    (subst (ReadWhole source.remaining new_source.remaining) (sym same) read) is
    (NoWrite is_write)
    (λ e. write_is_no_read (laws.wraps_once WriteFailed ReadFailed (sym is_write ∙ e))) is_write stopped

-- The command failed over a new sink.
pub command_failed : {V E T : Type 0} (promise : CommandPromise V E) (limits : Limits) → PromiseLaws promise → (trace : T → WriteTrace)
    (source new_source : ReadTrace) (target new_target : WriteTrace) (input bytes : List ℕ) (old new : BufferedSink T) (error : E)
    → ReadWhole source.remaining new_source.remaining bytes → input ≡ bytes
    → (state_of trace old).held ≡ [] → (state_of trace old).trace ≡ target → (state_of trace new).trace ≡ new_target
    → CommandFailed (BufferFails trace) promise.wraps (promise.is_text input) (promise.has_error input) old new error
    → TransferFailed source new_source target new_target promise.is_text (λ input. PipeError promise limits input error)
    (error ≡ promise.wraps ReadFailed) (error ≡ promise.wraps WriteFailed)
command_failed promise limits laws trace source new_source target new_target input bytes old new error read same none begins ends failed =
    rw (sym begins, sym ends)
    (piping_failed promise limits laws source new_source (state_of trace old).trace (state_of trace new).trace input bytes (Err error)
    read same
    (failed_writing trace promise.wraps (promise.is_text input) (promise.has_error input) old new error none failed))

-- The command appended its output to a new sink, and finishing the sink failed.
pub finish_failed : {V E T : Type 0} (promise : CommandPromise V E) (limits : Limits) → PromiseLaws promise → (trace : T → WriteTrace)
    (source new_source : ReadTrace) (target new_target : WriteTrace) (input bytes : List ℕ) (value : V) (old mid : BufferedSink T)
    (new : WriteTrace) (cause : Error) (error : E)
    → ReadWhole source.remaining new_source.remaining bytes → input ≡ bytes
    → (state_of trace old).held ≡ [] → (state_of trace old).trace ≡ target → new ≡ new_target
    → Appended (BufferAppends trace) (promise.is_output value input) old mid
    → Wrote {V = Unit {0}} WroteAndFlushed WriteOrFlushStopped (state_of trace mid).trace (state_of trace mid).held (Err cause) new
    → error ≡ promise.wraps cause
    → TransferFailed source new_source target new_target promise.is_text (λ input. PipeError promise limits input error)
    (error ≡ promise.wraps ReadFailed) (error ≡ promise.wraps WriteFailed)
finish_failed promise limits laws trace source new_source target new_target input bytes value old mid new cause error read same none begins
    ends appended finished wrapped =
    rw (sym begins, sym ends)
    (piping_failed promise limits laws source new_source (state_of trace old).trace new input bytes (Err error) read same
    (SinkFailed appended.text cause (laws.is_text value input appended.text appended.is_text)
    (finished_writing trace (promise.is_output value input) old mid new (Err cause) none appended finished) wrapped))

-- What failed with traced streams failed with plain ones.
pub moving_failed : (source new_source : ReadTrace) (target new_target : WriteTrace) (IsOutput : List ℕ → List ℕ → Type 0)
    (HasError : List ℕ → Type 0) (read_failed write_failed : Type 0)
    → TransferFailed source new_source target new_target IsOutput HasError read_failed write_failed
    → MoveFailed source.remaining new_source.remaining target.contents new_target.contents ⊥ IsOutput HasError write_failed
moving_failed source new_source target new_target IsOutput HasError read_failed write_failed all = record {
  input = all.failed.input;
  is_input = all.failed.is_input;
  has_error = all.failed.has_error;
  prefix = λ w. let p = all.failed.prefix w in record {
    input = p.input;
    output = p.output;
    count = p.count;
    read = p.read;
    within = p.within;
    written = p.written;
    whole = λ no. absurd no;
    is_output = p.is_output;
  };
  else_nothing = all.failed.else_nothing;
}

-- A command that was run over traced streams was run over plain ones, if these have what the traces record.
pub pipe_ends_well : {V E : Type 0} (promise : CommandPromise V E) (limits : Limits) (source new_source : ReadTrace)
    (target new_target : WriteTrace) (remaining new_remaining contents new_contents : Option (List ℕ)) (result : Result V E)
    → source.remaining ≡ remaining → new_source.remaining ≡ new_remaining → target.contents ≡ contents
    → new_target.contents ≡ new_contents → IsTracedPipe promise limits source new_source target new_target result
    → IsPiped promise limits remaining new_remaining contents new_contents result
pipe_ends_well promise limits source new_source target new_target remaining new_remaining contents new_contents (Ok value) r nr c nc is =
    rw (sym r, sym nr, sym c, sym nc)
    record { done = is.done.moved; failed = tt; takes_at_most_one_byte_more = is.takes_at_most_one_byte_more.known }
pipe_ends_well promise limits source new_source target new_target remaining new_remaining contents new_contents (Err error) r nr c nc is =
    rw (sym r, sym nr, sym c, sym nc)
    record {
      done = tt;
      failed = moving_failed source new_source target new_target promise.is_text (λ input. PipeError promise limits input error)
          (error ≡ promise.wraps ReadFailed) (error ≡ promise.wraps WriteFailed) is.failed;
      takes_at_most_one_byte_more = is.takes_at_most_one_byte_more.known;
    }
