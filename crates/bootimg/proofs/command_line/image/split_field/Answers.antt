use Rattle.std.proofs.Common.{arith}
use Rattle.bootimg.proofs.CommandLines.{field_split, no_field}
use Rattle.bootimg.proofs.command_line.image.split_field.Goals as goal

pub returns-clause-some : goal.returns-clause-some
returns-clause-some c =
    field_split c.args.argument.now c.split_once.result (c.split_once.ensures.byte (omega arith) (λ text place found. found))

pub returns-clause-none : goal.returns-clause-none
returns-clause-none c =
    no_field c.args.argument.now c.split_once.result (c.split_once.ensures.byte (omega arith) (λ text place found. found))
