use Rattle.std.specs.Prelude.{ℕ, List, Option}
use Rattle.std.specs.Borrow.{GName}
use Rattle.bi_base.specs.Traces.{ReadTrace, WriteTrace}
use Rattle.bi_base.specs.declared.traced_read.ReadCalls.{ReadCalls}
use Rattle.bi_base.specs.declared.traced_write.WriteCalls.{WriteCalls}

-- A reader or a writer by what is recorded of the calls on it.

-- The reader with this name, which has these bytes left.
abbrev pub read_trace : GName → Option (List ℕ) → ReadCalls → ReadTrace
read_trace name remaining calls = record {
  reader = name;
  remaining = remaining;
  taken = calls.taken;
  failed = calls.outcome.failed;
  interruptions = calls.outcome.interruptions;
  stopped = calls.stopped;
}

-- The writer with this name, which holds these bytes.
abbrev pub write_trace : GName → Option (List ℕ) → WriteCalls → WriteTrace
write_trace name contents calls = record {
  writer = name;
  contents = contents;
  failed = calls.outcome.failed;
  stalled = calls.stalled;
  flushing = calls.flushing;
  interruptions = calls.outcome.interruptions;
  stopped = calls.stopped;
}
