use Rattle.std.proofs.Common.{◌≡◌}
use Rattle.bi_fit.specs.JudgementCalls.{configurations_of}
use Rattle.bi_report.proofs.CheckedConfigurations.{has_name}
use Rattle.bi_report.proofs.check.configurations.names_configuration.Given as goal

abbrev pub invariant-loop-configuration : goal.invariant-loop-configuration
invariant-loop-configuration l = has_name l.name l.configuration-iterator ≡ has_name l.name (configurations_of l.fit)
