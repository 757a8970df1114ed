use Rattle.std.proofs.Common.{◌≡◌, ◌<◌, ◌≤◌, length, IsFalse}
use Rattle.std.specs.Io.KnownBytes.{Keeps}
use Rattle.bi_base.specs.Traces.{ReadsWell}
use Rattle.bi_base.proofs.reading.read_some.Given as goal

-- Each call before this one was interrupted, and read nothing.
abbrev pub invariant-loop : goal.invariant-loop
invariant-loop g l =
    let old = g.S.TracedRead.trace l.initial.source in
    let new = g.S.TracedRead.trace l.source in
    record {
      room : length l.buffer ≡ length l.initial.buffer;
      kept : Keeps old.remaining new.remaining;
      uncounted : new.taken ≡ old.taken;
      counted : l.counter ≤ new.interruptions;
      not_stopped : ReadsWell old → l.counter < 1024 → IsFalse new.stopped × (new.interruptions ≡ l.counter);
      same_reader : new.reader ≡ old.reader;
    }
