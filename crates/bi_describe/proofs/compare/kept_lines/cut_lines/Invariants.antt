use Rattle.std.proofs.Common.{◌≡◌, ◌++◌, IsAscii, IsTrue, drop}
use denote.Shadow.{shadow}
use denote.Text.{Utf8}
use Rattle.bi_describe.specs.LineMarks.{marks_fit, cut_lines as lines_cut}
use Rattle.bi_describe.specs.MadeLines.{compared_lines}
use Rattle.bi_describe.proofs.compare.kept_lines.cut_lines.Given as goal

-- The lines that are left follow those that were cut.
abbrev pub invariant-loop-mark : goal.invariant-loop-mark
invariant-loop-mark l = record {
  utf8 : shadow (Utf8 l.rest);
  ascii : IsAscii l.rest;
  fit : IsTrue (marks_fit l.rest (drop l.mark-index l.marks));
  cut : lines_cut l.text l.marks ≡ compared_lines l.lines.items ++ lines_cut l.rest (drop l.mark-index l.marks);
}
