use Rattle.std.proofs.Common.{◌∙◌, arith, rules}
use Rattle.bootimg.specs.ErrorLines.{line_of}
use Rattle.bootimg.specs.Runs.{HasSome, inside_line}
use Rattle.bootimg.proofs.ErrorLines.{line_is_written}
use Rattle.bootimg.proofs.reports.note_inside.Goals as goal

pub returns-then-inside-gt0 : goal.returns-then-inside-gt0
returns-then-inside-gt0 g c =
    let trace = g.E.TracedWrite.trace in
    let line = c.new-line.ensures in
    let put = c.put_inside.ensures in
    let end = c.write_held.ensures in
    let same_borrow = end.extends.same_borrow ∙ put.same_borrow ∙ line.same_borrow in
    HasSome (omega (arith, c.if-inside-gt0.true))
    (line_is_written (trace c.args.errors.now) _ (line_of trace c.new-line.result) (line_of trace c.put_inside.new.line)
    (line_of trace c.write_held.new.self) (inside_line c.args.inside) line.same_trace line.none_held line.not_failed put end.extends
    end.none_held (search rules))
