use Rattle.bi_c.specs.Answers.{Returned, Failed}
use Rattle.bi_c.proofs.ExtractedFiles.{select_failure}
use Rattle.bi_c.proofs.extract.extract.Goals as goal

pub returns-in-Ok : goal.returns-in-Ok
returns-in-Ok c = Returned c.in-Ok.region.size c.in-Ok.region.offset c.in-Ok.ensures.found c.succeed.ensures.answer c.succeed.ensures.status

pub returns-in-Err : goal.returns-in-Err
returns-in-Err c =
    Failed c.failure_of_extraction.result
    (select_failure c.args.select c.args.limits c.args.file.now c.in-Err.error c.failure_of_extraction.result
    c.failure_of_extraction.ensures c.in-Err.ensures.failed)
    c.fail.ensures.answer c.fail.ensures.status
