use Rattle.std.proofs.Common.{◌≡◌, take}
use Rattle.bi_describe.specs.Differences.{lines_only_in}
use Rattle.bi_describe.specs.MadeLines.{compared_lines}
use Rattle.bi_describe.proofs.compare.differences.lines_apart.Given as goal

abbrev pub invariant-loop-index : goal.invariant-loop-index
invariant-loop-index l =
    lines_only_in (compared_lines l.apart.items) (compared_lines l.others)
    ≡ lines_only_in (compared_lines (take l.index l.lines)) (compared_lines l.others)
