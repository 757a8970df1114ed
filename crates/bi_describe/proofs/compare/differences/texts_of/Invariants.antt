use Rattle.std.proofs.Common.{take}
use Rattle.bi_describe.specs.LineSets.{HasLineTexts}
use Rattle.bi_describe.specs.MadeLines.{compared_lines}
use Rattle.bi_describe.proofs.compare.differences.texts_of.Given as goal

abbrev pub invariant-loop-line : goal.invariant-loop-line
invariant-loop-line l = HasLineTexts (compared_lines (take l.line-index l.lines)) l.texts
