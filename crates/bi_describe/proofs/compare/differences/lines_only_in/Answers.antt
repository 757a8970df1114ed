use Rattle.std.proofs.Common.{List, ap, flat_map, ◌∙◌}
use Rattle.std.proofs.lemmas.Result.{IfOk-weaker}
use Rattle.bi_describe.specs.Differences.{ComparedLine}
use Rattle.bi_describe.specs.LineSets.{HasMissing, missing_line}
use Rattle.bi_describe.specs.MadeLines.{compared_lines}
use Rattle.bi_describe.proofs.LineSets.{apart_are_only}
use Rattle.bi_describe.proofs.compare.differences.lines_only_in.Goals as goal

pub returns : goal.returns
returns c =
    let apart : List ComparedLine = compared_lines c.in_ok-apart.apart.items in
    let has : HasMissing apart (compared_lines c.args.others.now) c.in_ok-missing.missing =
    rw (← c.deref.ensures.value) c.in_ok-missing.ensures in
    IfOk-weaker c.missing_lines.result _ _
    (λ only is. apart_are_only (compared_lines c.args.lines.now) (compared_lines c.args.others.now) apart c.in_ok-missing.missing
    (compared_lines only.items) c.in_ok-apart.ensures has
    (is ∙ ap (λ lines. flat_map (missing_line c.in_ok-missing.missing) (compared_lines lines)) c.deref-2.ensures.value))
    c.missing_lines.ensures
