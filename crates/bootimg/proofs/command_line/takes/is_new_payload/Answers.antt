use Rattle.bootimg.proofs.RefusedFacts.{payload_is_taken}
use Rattle.bootimg.proofs.command_line.takes.is_new_payload.Goals as goal

pub returns-in-Ok : goal.returns-in-Ok
returns-in-Ok c =
    payload_is_taken c.args.word.now c.in-Ok.found c.is_some.result c.in-Ok.ensures.some c.in-Ok.ensures.none c.is_some.ensures
