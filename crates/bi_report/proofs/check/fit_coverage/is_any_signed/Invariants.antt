use Rattle.std.proofs.Common.{◌≡◌, drop, map}
use Rattle.bi_coverage.specs.Values.{configuration_value}
use Rattle.bi_report.specs.SignedTrees.{is_any_signed}
use Rattle.bi_report.proofs.check.fit_coverage.is_any_signed.Given as goal

-- The configurations that are left decide.
abbrev pub invariant-loop-configuration : goal.invariant-loop-configuration
invariant-loop-configuration l =
    is_any_signed (map configuration_value (drop l.configuration-index l.configurations))
    ≡ is_any_signed (map configuration_value l.fn.configurations)
