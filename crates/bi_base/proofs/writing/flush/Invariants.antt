use Rattle.std.proofs.Common.{◌≡◌, ◌<◌, ◌≤◌, IsTrue, IsFalse}
use Rattle.std.specs.Io.KnownBytes.{Keeps}
use Rattle.bi_base.specs.Traces.{WritesWell}
use Rattle.bi_base.proofs.writing.flush.Given as goal

-- Each call before this one was interrupted.
abbrev pub invariant-loop : goal.invariant-loop
invariant-loop g l =
    let old = g.T.TracedWrite.trace l.initial.target in
    let new = g.T.TracedWrite.trace l.target in
    record {
      kept : Keeps old.contents new.contents;
      counted : l.counter ≤ new.interruptions;
      not_stopped : WritesWell old → l.counter < 1024 → IsFalse new.stopped × (new.interruptions ≡ l.counter);
      last : 0 < l.counter → IsTrue new.flushing;
      same_writer : new.writer ≡ old.writer;
    }
