use Rattle.std.specs.Prelude.{◌≡◌, ◌==◌, ℕ, List, [], ◌∷◌, ◌++◌, codes, flat_map, IsFalse}
use Rattle.std.specs.List.{AllByRecursion, list_any}
use Rattle.bi_common.specs.declared.format.Format.{Format}
use Rattle.bi_common.specs.declared.format.Format.TheVariants as form
use Rattle.bi_common.specs.Json.{Json as Value, json_line, json_object, json_string}
use Rattle.bi_labels.specs.LabelledTexts.{labelled_line, labelled_text}

-- What a label does to texts of whole lines.

-- A line has no newline inside.
abbrev pub IsOneLine : List ℕ → Type 0
IsOneLine line = IsFalse (list_any (λ byte. byte == 10) line)

-- Of a text of lines, each with its newline, each line has the label.
abbrev pub LinesAreLabelled : Type 0
LinesAreLabelled = (format : Format) (label : List ℕ) (lines : List (List ℕ))
    → AllByRecursion IsOneLine lines
    → labelled_text format label (flat_map (λ line. line ++ 10 ∷ []) lines)
    ≡ flat_map (labelled_line format label) lines

-- The text of a value becomes that of an object with the label and the value.
abbrev pub ValuesAreLabelled : Type 0
ValuesAreLabelled = (label : List ℕ) (value : Value)
    → labelled_text form.Json label (json_line value)
    ≡ json_line
    (json_object ((codes "file", json_string label) ∷ (codes "result", value) ∷ []))
