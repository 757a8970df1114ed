use Rattle.std.proofs.Common.{◌≡◌, ◌-◌}
use Rattle.bi_report.specs.ConcernsLeft.{configuration_left}
use Rattle.bi_report.proofs.check.configurations.ConfigurationConcernsIterator.next.Given as goal

-- The concerns that are left are all.
abbrev pub invariant-loop-self : goal.invariant-loop-self
invariant-loop-self l = configuration_left l.self ≡ configuration_left l.initial.self

abbrev pub decreases-loop-self : goal.decreases-loop-self
decreases-loop-self l = 6 - l.self.index
