use Rattle.std.proofs.Common.{◌≡◌, ◌++◌, take, flat_map}
use Rattle.bi_describe.specs.Differences.{removed_lines}
use Rattle.bi_describe.specs.LineSets.{text_at}
use Rattle.bi_describe.specs.MadeLines.{compared_lines, made_lines}
use Rattle.bi_describe.proofs.compare.differences.push_removed.Given as goal

abbrev pub invariant-loop-line : goal.invariant-loop-line
invariant-loop-line l =
    made_lines l.lines.items
    ≡ made_lines l.initial.lines.items ++ flat_map (removed_lines (text_at l.first)) (compared_lines (take l.line-index l.removed))
