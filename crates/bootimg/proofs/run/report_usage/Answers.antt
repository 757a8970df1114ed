use Rattle.std.proofs.Common.{option_map}
use Rattle.bootimg.specs.Hints.{hint_text}
use Rattle.bootimg.proofs.run.report_usage.Goals as goal

pub returns-clause-line : goal.returns-clause-line
returns-clause-line g c = (option_map hint_text c.usage_hint-hint.result, c.usage_hint-hint.ensures, c.report_failure.ensures.line)
