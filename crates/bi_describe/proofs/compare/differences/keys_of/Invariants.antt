use Rattle.std.proofs.Common.{take}
use Rattle.bi_describe.specs.LineSets.{HasKeys}
use Rattle.bi_describe.specs.MadeLines.{compared_lines}
use Rattle.bi_describe.proofs.compare.differences.keys_of.Given as goal

abbrev pub invariant-loop-line : goal.invariant-loop-line
invariant-loop-line l = HasKeys (compared_lines (take l.line-index l.lines)) l.keys
