use Rattle.std.proofs.lemmas.Result.{err_from_is_err_and}
use Rattle.bi_describe.proofs.describe.describe_image.Goals as goal

pub returns-in_err-described-clause-failed : goal.returns-in_err-described-clause-failed
returns-in_err-described-clause-failed c =
    let p = err_from_is_err_and c.from_residual.result c.from_residual.ensures.1 in
    rw (p.1, p.2) (c.in_err-described.ensures.failed c.args.format)
