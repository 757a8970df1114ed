use Rattle.bootimg.specs.CodeWords.{IsCode}
use Rattle.bootimg.proofs.CommandLines.{bad_value}
use Rattle.bootimg.proofs.command_line.build.code.Goals as goal

pub returns-clause-bad : goal.returns-clause-bad
returns-clause-bad c =
    bad_value (IsCode c.args.field c.args.argument.now) c.parse_code.result c.ok_or.result
    c.ok_or.ensures.value c.parse_code.ensures.exactly
