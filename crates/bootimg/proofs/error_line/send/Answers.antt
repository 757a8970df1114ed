use Rattle.std.proofs.Common.{is_err, subst, sym}
use Rattle.bootimg.specs.ErrorLines.{SendsMore}
use Rattle.bootimg.proofs.ErrorLines.{sends_by_writing}
use Rattle.bootimg.proofs.error_line.send.Goals as goal

pub returns-else-had_failed : goal.returns-else-had_failed
returns-else-had_failed g c =
    let trace = g.T.TracedWrite.trace in
    let old = trace c.args.target.now in
    let new = trace c.write_all.new.target in
    rw (c.is_err.ensures.value)
    (subst (λ flag. SendsMore flag old c.args.bytes.now (is_err c.write_all.result) new) (sym c.if-had_failed.false)
    (sends_by_writing old new c.args.bytes.now c.write_all.result c.write_all.ensures))
