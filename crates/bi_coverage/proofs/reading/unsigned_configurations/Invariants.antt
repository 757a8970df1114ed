use Rattle.std.proofs.Common.{map}
use Rattle.bi_fit.specs.Siblings.{siblings_left}
use Rattle.bi_coverage.specs.Values.{configuration_value}
use Rattle.bi_coverage.proofs.Configurations.{IsReadTo}
use Rattle.bi_coverage.proofs.reading.unsigned_configurations.Given as goal

abbrev pub invariant-loop-configuration : goal.invariant-loop-configuration
invariant-loop-configuration l =
    IsReadTo l.fit (map configuration_value l.read.items) 0 (siblings_left l.configuration-iterator)
