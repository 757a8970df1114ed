use Rattle.std.proofs.lemmas.Result.{err_from_is_err_and}
use Rattle.bootimg.proofs.NotBegun.{fit_not_begun}
use Rattle.bootimg.proofs.builds.run_fit_plan.Goals as goal

pub returns-in_err-compatibles : goal.returns-in_err-compatibles
returns-in_err-compatibles g c =
    let p = err_from_is_err_and c.from_residual.result c.from_residual.ensures.1 in
    rw (p.1, p.2)
    (fit_not_begun c.args.plan.now c.args.payloads.now c.args.limits (g.S.TracedRead.trace c.args.input.now)
    (g.T.TracedWrite.trace c.args.output.now))

pub returns-in_err-lent : goal.returns-in_err-lent
returns-in_err-lent g c =
    let p = err_from_is_err_and c.from_residual-in_err-lent.result c.from_residual-in_err-lent.ensures.1 in
    rw (p.1, p.2)
    (fit_not_begun c.args.plan.now c.args.payloads.now c.args.limits (g.S.TracedRead.trace c.args.input.now)
    (g.T.TracedWrite.trace c.args.output.now))

pub returns-in_err-descriptions : goal.returns-in_err-descriptions
returns-in_err-descriptions g c =
    let p = err_from_is_err_and c.from_residual-in_err-descriptions.result c.from_residual-in_err-descriptions.ensures.1 in
    rw (p.1, p.2)
    (fit_not_begun c.args.plan.now c.args.payloads.now c.args.limits (g.S.TracedRead.trace c.args.input.now)
    (g.T.TracedWrite.trace c.args.output.now))
