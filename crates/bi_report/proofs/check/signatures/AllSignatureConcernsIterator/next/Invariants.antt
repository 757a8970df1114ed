use Rattle.std.proofs.Common.{◌≡◌, ◌-◌, length}
use Rattle.bi_report.specs.ConcernsLeft.{signatures_left}
use Rattle.bi_report.proofs.check.signatures.AllSignatureConcernsIterator.next.Given as goal

-- The concerns that are left are all.
abbrev pub invariant-loop-self : goal.invariant-loop-self
invariant-loop-self l = signatures_left l.self ≡ signatures_left l.initial.self

abbrev pub decreases-loop-self : goal.decreases-loop-self
decreases-loop-self l = length l.self.configurations.now - l.self.index
