use Rattle.std.proofs.Common.{◌≡◌, take, flat_map}
use Rattle.bi_describe.specs.LineSets.{missing_line}
use Rattle.bi_describe.specs.MadeLines.{compared_lines}
use Rattle.bi_describe.proofs.compare.differences.missing_lines.Given as goal

abbrev pub invariant-loop-line : goal.invariant-loop-line
invariant-loop-line l =
    compared_lines l.only.items ≡ flat_map (missing_line l.missing) (compared_lines (take l.line-index l.lines))
