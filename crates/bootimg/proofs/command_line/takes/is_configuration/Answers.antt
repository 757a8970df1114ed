use Rattle.std.proofs.Common.{◌≡◌, rules}
use Rattle.bootimg.specs.ConfigurationWords.{IsConfigurationWord}
use Rattle.bootimg.specs.declared.command_line.NoRequest.TheVariants as outcome
use Rattle.bootimg.specs.declared.failure.Failure.TheVariants.{BadValue}
use Rattle.bootimg.proofs.RefusedFacts.{refused_if_bad, taken_if_parsed}
use Rattle.bootimg.proofs.command_line.takes.is_configuration.Goals as goal

pub returns-in-Ok : goal.returns-in-Ok
returns-in-Ok c = taken_if_parsed (IsConfigurationWord c.args.word.now) c.in-Ok.field-0 c.in-Ok.ensures.configuration

pub returns-in-Err-Failure-BadValue : goal.returns-in-Err-Failure-BadValue
returns-in-Err-Failure-BadValue c =
    let is : c.in-Err-Failure-BadValue.field-0 ≡ outcome.Failure BadValue = search rules in
    refused_if_bad (IsConfigurationWord c.args.word.now) c.in-Err-Failure-BadValue.field-0 is c.in-Err-Failure-BadValue.ensures.failure
