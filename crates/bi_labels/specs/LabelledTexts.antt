use Rattle.std.specs.Prelude.{ℕ, ◌==◌, List, [], ◌∷◌, ◌++◌, codes, flat_map, if◌then◌else◌}
use Rattle.std.specs.List.{onto_first}
use Rattle.bi_common.specs.declared.format.Format.{Format}
use Rattle.bi_common.specs.declared.format.Format.TheVariants as form
use Rattle.bi_common.specs.Json.{string_text}

-- Texts about several images, in which each line has a label: the name of its image, as it is
-- printed (profile of this project).

-- The lines of a text, without their newlines. What follows the last newline is a line, too, if it
-- is not empty.
abbrev pub lines_in : List ℕ → List (List ℕ)
lines_in [] = []
lines_in (byte ∷ text) =
    if byte == 10 then [] ∷ lines_in text else onto_first byte (lines_in text)

-- A line with its label and a newline: after the label, a colon and a space, or as the value
-- `result` of an object of JSON whose `file` is the label.
abbrev pub labelled_line : Format → (label line : List ℕ) → List ℕ
labelled_line form.Lines label line = label ++ (codes ": " ++ (line ++ 10 ∷ []))
labelled_line form.Json label line =
    codes "{\"file\":"
    ++ (string_text label ++ (codes ",\"result\":" ++ (line ++ (codes "}" ++ 10 ∷ []))))

-- A text, each of its lines with the label.
abbrev pub labelled_text : Format → (label text : List ℕ) → List ℕ
labelled_text format label text = flat_map (labelled_line format label) (lines_in text)
