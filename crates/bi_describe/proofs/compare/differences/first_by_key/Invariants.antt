use Rattle.std.proofs.Common.{drop}
use Rattle.bi_describe.specs.LineSets.{HasFirst}
use Rattle.bi_describe.specs.MadeLines.{compared_lines}
use Rattle.bi_describe.proofs.compare.differences.first_by_key.Given as goal

abbrev pub invariant-loop-index : goal.invariant-loop-index
invariant-loop-index l = HasFirst (compared_lines (drop l.index l.lines)) l.first
