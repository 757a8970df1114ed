use Rattle.std.specs.Prelude.{◌≡◌, List, map, string_bytes}
use Rattle.bi_common.specs.Lines.{Line, text_of_lines}
use Rattle.bi_describe.specs.declared.compare.kept_lines.KeptLines.{KeptLines}
use Rattle.bi_describe.specs.LineMarks.{mark_of}

-- Lines that are kept in one text.

-- These lines are kept.
pub record KeepsLines (lines : List Line) (kept : KeptLines) : Type 0 where
  pub text : string_bytes kept.text ≡ text_of_lines lines
  pub marks : kept.marks.items ≡ map mark_of lines
