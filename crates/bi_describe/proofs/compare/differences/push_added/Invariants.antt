use Rattle.std.proofs.Common.{◌≡◌, ◌++◌, take, flat_map}
use Rattle.bi_describe.specs.Differences.{added_lines}
use Rattle.bi_describe.specs.LineSets.{set_has, text_at}
use Rattle.bi_describe.specs.MadeLines.{compared_lines, made_lines}
use Rattle.bi_describe.proofs.compare.differences.push_added.Given as goal

abbrev pub invariant-loop-line : goal.invariant-loop-line
invariant-loop-line l =
    made_lines l.lines.items
    ≡ made_lines l.initial.lines.items
    ++ flat_map (added_lines (set_has l.keys) (text_at l.first)) (compared_lines (take l.line-index l.added))
