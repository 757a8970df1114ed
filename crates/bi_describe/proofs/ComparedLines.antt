use Rattle.std.proofs.Common.{◌≡◌, List, ℕ, map, string_bytes, ap, ◌∙◌}
use Rattle.bi_common.specs.Lines.{Line, text_of_lines}
use Rattle.bi_describe.specs.declared.compare.kept_lines.KeptLines.{KeptLines}
use Rattle.bi_describe.specs.Comparing.{differences_or_reason, lines_or, lines_to_compare, reason}
use Rattle.bi_describe.specs.Differences.{ComparedLine, SignedLine, differences, line_to_compare}
use Rattle.bi_describe.specs.KeptLines.{KeepsLines}
use Rattle.bi_describe.specs.LineMarks.{cut_lines}
use Rattle.bi_describe.proofs.KeptLines.{lines_cut}

-- The comparison of two descriptions whose lines are kept.

abbrev cut_of : KeptLines → List ComparedLine
cut_of kept = cut_lines (string_bytes kept.text) kept.marks.items

cut_of_kept : (lines : List Line) (kept : KeptLines) → KeepsLines lines kept → cut_of kept ≡ map line_to_compare lines
cut_of_kept lines kept are =
    ap (λ text. cut_lines text kept.marks.items) are.text ∙ ap (cut_lines (text_of_lines lines)) are.marks ∙ lines_cut lines

pub kept_differences : (described others : List Line) (one other : KeptLines) (lines other_lines : List ComparedLine)
    (found all : List SignedLine) (text other_text : List ℕ) (line : SignedLine) → lines ≡ cut_of one → other_lines ≡ cut_of other →
    found ≡ differences lines other_lines → text ≡ string_bytes one.text → other_text ≡ string_bytes other.text →
    line ≡ reason text other_text → all ≡ lines_or found line → KeepsLines described one →
    KeepsLines others other → all ≡ differences_or_reason described others
kept_differences described others one other lines other_lines found all text other_text line are other_are is_found is_text is_other
    is_line is_all kept other_kept =
    let own : lines ≡ lines_to_compare described = are ∙ cut_of_kept described one kept in
    let rest : other_lines ≡ lines_to_compare others = other_are ∙ cut_of_kept others other other_kept in
    is_all
    ∙ ap (λ found. lines_or found line)
    (is_found ∙ ap (λ lines. differences lines other_lines) own ∙ ap (differences (lines_to_compare described)) rest)
    ∙ ap (lines_or (differences (lines_to_compare described) (lines_to_compare others)))
    (is_line ∙ ap (λ text. reason text other_text) (is_text ∙ kept.text) ∙ ap (reason (text_of_lines described))
    (is_other ∙ other_kept.text))
