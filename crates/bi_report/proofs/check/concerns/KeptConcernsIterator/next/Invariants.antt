use Rattle.std.proofs.Common.{◌≡◌, length}
use Rattle.bi_report.specs.CheckedImages.{concerns_left, kept_left}
use Rattle.bi_report.proofs.check.concerns.KeptConcernsIterator.next.Given as goal

-- The concerns that are left are all.
abbrev pub invariant-loop-concern : goal.invariant-loop-concern
invariant-loop-concern l = kept_left l.self ≡ kept_left l.initial.self

abbrev pub decreases-loop-concern : goal.decreases-loop-concern
decreases-loop-concern l = length (concerns_left l.self.concerns)
