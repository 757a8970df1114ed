use Rattle.std.specs.Prelude.{ℕ, ◌+◌, ◌&&◌, nat_lt, nat_le, Bool, true, List, [], ◌∷◌, length}
use Rattle.std.specs.Prelude.{take, drop}
use Rattle.bi_common.specs.Lines.{Line}
use Rattle.bi_describe.specs.declared.compare.line_keeper.Mark.{Mark}
use Rattle.bi_describe.specs.Differences.{ComparedLine, key_of_line, line_bytes}

-- How long lines are that are kept in one text.

-- How long a line is, and how much of that is its key.
abbrev pub mark_of : Line → Mark
mark_of line =
    record { len = length (line_bytes line); key = length (line_bytes (key_of_line line)) }

-- A text is as long as lines of these lengths, each with a newline.
abbrev pub marks_fit : List ℕ → List Mark → Bool
marks_fit text [] = true
marks_fit text (mark ∷ later) =
    nat_lt mark.len (length text)
    && (nat_le mark.key mark.len && marks_fit (drop (mark.len + 1) text) later)

-- The first line of a text, which is as long as this.
abbrev pub cut_line : List ℕ → Mark → ComparedLine
cut_line text mark = record { text = take mark.len text; key = take mark.key text }

-- The lines of a text, which are as long as this.
abbrev pub cut_lines : List ℕ → List Mark → List ComparedLine
cut_lines text [] = []
cut_lines text (mark ∷ later) = cut_line text mark ∷ cut_lines (drop (mark.len + 1) text) later
