use Rattle.std.proofs.Common.{◌≡◌, string_bytes, take}
use Rattle.bi_describe.specs.Differences.{text_of_differences}
use Rattle.bi_describe.specs.MadeLines.{made_lines}
use Rattle.bi_describe.proofs.compare.signed_lines.text_of_lines.Given as goal

abbrev pub invariant-loop-line : goal.invariant-loop-line
invariant-loop-line l = string_bytes l.text ≡ text_of_differences (made_lines (take l.line-index l.lines))
