use Rattle.std.proofs.Common.{◌∙◌, ◌++◌, option_map, rules}
use Rattle.bootimg.specs.ErrorLines.{line_of}
use Rattle.bootimg.specs.Hints.{hint_line, hint_text}
use Rattle.bootimg.specs.Runs.{failure_line}
use Rattle.bootimg.proofs.ErrorLines.{extends_twice, line_is_written}
use Rattle.bootimg.proofs.reports.report_failure.Goals as goal

pub returns-clause-line : goal.returns-clause-line
returns-clause-line g c =
    let trace = g.E.TracedWrite.trace in
    let line = c.new-line.ensures in
    let put = extends_twice _ _ _ _ _ c.put_failure.ensures c.put_hint.ensures in
    let end = c.write_held.ensures in
    let same_borrow = end.extends.same_borrow ∙ put.same_borrow ∙ line.same_borrow in
    line_is_written (trace c.args.errors.now) _ (line_of trace c.new-line.result) (line_of trace c.put_hint.new.line)
    (line_of trace c.write_held.new.self)
    (failure_line c.args.source c.args.failure ++ hint_line (option_map hint_text c.args.hint)) line.same_trace line.none_held
    line.not_failed put end.extends end.none_held (search rules)
