use Rattle.std.proofs.lemmas.Result.{err_from_is_err_and}
use Rattle.bi_base.specs.Commands.{SinkFailed}
use Rattle.bi_commands.proofs.extract.ExtractorCommand.run.Goals as goal

pub returns-in_err-put-clause-failed : goal.returns-in_err-put-clause-failed
returns-in_err-put-clause-failed g c =
    let p = err_from_is_err_and c.from_residual-in_err-put.result c.from_residual-in_err-put.ensures.1 in
    rw (p.1) (SinkFailed c.in_ok-bytes.bytes.now c.in_err-put.field-0.0 c.in_ok-bytes.ensures.chosen c.in_err-put.ensures p.2)
