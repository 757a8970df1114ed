use Rattle.std.specs.Prelude.{List, map}
use Rattle.bi_describe.specs.declared.compare.signed_lines.ComparedLine.{ComparedLine as MadeLine}
use Rattle.bi_describe.specs.declared.compare.signed_lines.SignedLine.{SignedLine as MadeSigned}
use Rattle.bi_describe.specs.Differences.{ComparedLine, SignedLine}

-- Lines as the code has them.

abbrev pub compared_line : MadeLine → ComparedLine
compared_line line = record { text = line.text.now; key = line.key.now }

abbrev pub compared_lines : List MadeLine → List ComparedLine
compared_lines lines = map compared_line lines

abbrev pub made_line : MadeSigned → SignedLine
made_line line = record { sign = line.sign; text = line.text.now }

abbrev pub made_lines : List MadeSigned → List SignedLine
made_lines lines = map made_line lines
