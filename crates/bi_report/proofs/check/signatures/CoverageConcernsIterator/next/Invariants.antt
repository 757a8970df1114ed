use Rattle.std.proofs.Common.{◌≡◌, ◌-◌, length, None}
use Rattle.bi_report.specs.ConcernsLeft.{coverage_left}
use Rattle.bi_report.proofs.check.signatures.CoverageConcernsIterator.next.Given as goal

-- The concerns that are left are all, and none is left about the configuration itself.
abbrev pub invariant-loop-concern : goal.invariant-loop-concern
invariant-loop-concern l = record {
  left : coverage_left l.self ≡ coverage_left l.initial.self;
  none : l.self.of_absence ≡ None;
}

abbrev pub decreases-loop-concern : goal.decreases-loop-concern
decreases-loop-concern l = length l.self.signatures.now - l.self.index
