use Rattle.std.specs.Prelude.{◌≡◌, ℕ, List, [], ◌++◌, refl}
use Rattle.std.specs.Borrow.{GName}
use Rattle.std.proofs.Common.{sym, ap, subst, ◌∙◌}
use Rattle.std.proofs.KnownBytes.{Appends-nil, Appends-trans}
use Rattle.std.proofs.lemmas.List.{append-nil, append_assoc}
use Rattle.bi_base.specs.declared.fault.Error.{Error}
use Rattle.bi_base.specs.declared.buffered_sink.BufferedSink.{BufferedSink}
use Rattle.bi_base.specs.Sinks.{AppendsNothing, AppendsInTurn, FailsAfter}
use Rattle.bi_base.specs.Sinks.{FailsBefore}
use Rattle.bi_base.specs.SinkLaws.{prefix_more, prefix_after}
use Rattle.bi_base.specs.Traces.{WriteTrace}
use Rattle.bi_base.specs.Writing.{Writes, WroteAll, WriteStopped}

-- A sink that buffers bytes before it writes them, as contracts see it.

-- Which borrow of a writer the sink has, the writer after the calls so far, and the bytes in the
-- buffer.
pub record Buffer : Type 0 where
  pub borrow : GName
  pub trace : WriteTrace
  pub held : List ℕ

-- What contracts see of a sink that writes to a writer with this trace.
abbrev pub state_of : {T : Type 0} → (T → WriteTrace) → BufferedSink T → Buffer
state_of trace sink = record {
  borrow = sink.target.ghost_name;
  trace = trace sink.target.now;
  held = sink.held.items;
}

-- Some bytes were written, and the others are in the buffer: together they are those that were in
-- the buffer before, and these.
pub record Holds (old : Buffer) (bytes : List ℕ) (new : Buffer) : Type 0 where
  pub written : List ℕ
  pub wrote : WroteAll old.trace written new.trace
  pub all : old.held ++ bytes ≡ written ++ new.held
  pub same_borrow : new.borrow ≡ old.borrow

-- Writing stopped: a prefix of the bytes that were in the buffer before, and these, was written.
pub record Stops (old : Buffer) (bytes : List ℕ) (new : Buffer) (error : Error) : Type 0 where
  pub stopped : WriteStopped old.trace (old.held ++ bytes) new.trace error
  pub same_borrow : new.borrow ≡ old.borrow

-- A call appended bytes to a buffered sink: some bytes were written, and the others are in the
-- buffer.
abbrev pub BufferAppends : {T : Type 0} → (T → WriteTrace) → BufferedSink T → List ℕ
    → BufferedSink T → Type 0
BufferAppends trace old bytes new = Holds (state_of trace old) bytes (state_of trace new)

-- A call failed to append bytes to a buffered sink: a prefix of the bytes that were in the buffer
-- before, and these, was written.
abbrev pub BufferFails : {T : Type 0} → (T → WriteTrace) → BufferedSink T → List ℕ → BufferedSink T
    → Error → Type 0
BufferFails trace old bytes new error = Stops (state_of trace old) bytes (state_of trace new) error

-- Writing nothing leaves a writer as it is.
pub wrote_nothing : (trace : WriteTrace) → WroteAll trace [] trace
wrote_nothing trace = record {
  written = Appends-nil trace.contents;
  no_failure_ignored = λ well. well;
  same_writer = refl;
}

-- Writing two lists in turn is writing both together.
pub writes_in_turn : AppendsInTurn Writes
writes_in_turn a b c xs ys first second = Appends-trans a.contents b.contents c.contents xs ys first
    second

pub wrote_in_turn : AppendsInTurn WroteAll
wrote_in_turn a b c xs ys first second = record {
  written = writes_in_turn a b c xs ys first.written second.written;
  no_failure_ignored = λ well. second.no_failure_ignored (first.no_failure_ignored well);
  same_writer = second.same_writer ∙ first.same_writer;
}

-- A failure after some bytes were written is a failure to write these and the others.
pub stopped_after : FailsAfter WroteAll WriteStopped
stopped_after a b c xs ys error first failed = record {
  is = failed.is;
  prefix = prefix_after Writes writes_in_turn a b c xs ys first.written failed.prefix;
  cause = failed.cause;
  not_flushing = failed.not_flushing;
  same_writer = failed.same_writer ∙ first.same_writer;
}

-- A failure to write some bytes is a failure to write these and more.
pub stopped_before : FailsBefore WriteStopped
stopped_before a b xs ys error failed = record {
  is = failed.is;
  prefix = prefix_more Writes a xs ys b failed.prefix;
  cause = failed.cause;
  not_flushing = failed.not_flushing;
  same_writer = failed.same_writer;
}

pub buffer_appends_nothing : {T : Type 0} (trace : T → WriteTrace)
    → AppendsNothing (BufferAppends trace)
buffer_appends_nothing trace a = record {
  written = [];
  wrote = wrote_nothing (trace a.target.now);
  all = append-nil a.held.items;
  same_borrow = refl;
}

pub buffer_appends_in_turn : {T : Type 0} (trace : T → WriteTrace)
    → AppendsInTurn (BufferAppends trace)
buffer_appends_in_turn trace a b c xs ys first second = record {
  written = first.written ++ second.written;
  wrote = wrote_in_turn (trace a.target.now) (trace b.target.now) (trace c.target.now) first.written
      second.written
      first.wrote second.wrote;
  all = sym (append_assoc a.held.items xs ys) ∙ ap (λ l. l ++ ys) first.all
      ∙ append_assoc first.written b.held.items ys ∙ ap (λ l. first.written ++ l) second.all
      ∙ sym (append_assoc first.written second.written c.held.items);
  same_borrow = second.same_borrow ∙ first.same_borrow;
}

pub buffer_fails_after : {T : Type 0} (trace : T → WriteTrace)
    → FailsAfter (BufferAppends trace) (BufferFails trace)
buffer_fails_after trace a b c xs ys error first failed = record {
  stopped = subst (λ l. WriteStopped (trace a.target.now) l (trace c.target.now) error)
      (sym (append_assoc first.written b.held.items ys) ∙ ap (λ l. l ++ ys) (sym first.all)
      ∙ append_assoc a.held.items xs ys)
      (stopped_after (trace a.target.now) (trace b.target.now) (trace c.target.now) first.written
      (b.held.items ++ ys)
      error first.wrote failed.stopped);
  same_borrow = failed.same_borrow ∙ first.same_borrow;
}

pub buffer_fails_before : {T : Type 0} (trace : T → WriteTrace) → FailsBefore (BufferFails trace)
buffer_fails_before trace a b xs ys error failed = record {
  stopped = subst (λ l. WriteStopped (trace a.target.now) l (trace b.target.now) error)
      (append_assoc a.held.items xs ys)
      (stopped_before (trace a.target.now) (trace b.target.now) (a.held.items ++ xs) ys error
      failed.stopped);
  same_borrow = failed.same_borrow;
}
