use Rattle.std.proofs.Common.{◌≤◌, ◌-◌, length, take}
use Rattle.bi_base.specs.Writing.{WroteAll}
use Rattle.bi_base.proofs.writing.write_all.Given as goal

-- The bytes before this one were written.
abbrev pub invariant-loop-done : goal.invariant-loop-done
invariant-loop-done g l = record {
  within : l.done ≤ length l.bytes;
  wrote : WroteAll (g.T.TracedWrite.trace l.initial.target) (take l.done l.bytes) (g.T.TracedWrite.trace l.target);
}

-- How many bytes remain.
abbrev pub decreases-loop-done : goal.decreases-loop-done
decreases-loop-done g l = length l.bytes - l.done
