use Rattle.std.proofs.Common.{take}
use Rattle.bi_describe.specs.LineSets.{HasMissing}
use Rattle.bi_describe.specs.MadeLines.{compared_lines}
use Rattle.bi_describe.proofs.compare.differences.missing_texts.Given as goal

abbrev pub invariant-loop-line : goal.invariant-loop-line
invariant-loop-line l = HasMissing (compared_lines l.lines) (compared_lines (take l.line-index l.others)) l.missing
