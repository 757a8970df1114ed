use Rattle.std.proofs.Common.{◌≡◌, length}
use Rattle.bi_fit.specs.Siblings.{siblings_left}
use Rattle.bi_report.specs.ConcernsLeft.{configurations_left}
use Rattle.bi_report.proofs.check.configurations.AllConfigurationConcernsIterator.next.Given as goal

-- The concerns that are left are all.
abbrev pub invariant-loop-self : goal.invariant-loop-self
invariant-loop-self l = configurations_left l.self ≡ configurations_left l.initial.self

abbrev pub decreases-loop-self : goal.decreases-loop-self
decreases-loop-self l = length (siblings_left l.self.nodes)
