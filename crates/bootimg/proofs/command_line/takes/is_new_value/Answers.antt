use Rattle.bootimg.specs.EditOptions.{IsSetWord}
use Rattle.bootimg.proofs.RefusedFacts.{taken_if_some}
use Rattle.bootimg.proofs.command_line.takes.is_new_value.Goals as goal

pub returns-in-Ok : goal.returns-in-Ok
returns-in-Ok c =
    taken_if_some (IsSetWord c.args.word.now) c.in-Ok.found c.is_some.result c.in-Ok.ensures.some c.in-Ok.ensures.none c.is_some.ensures
