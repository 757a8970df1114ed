use Rattle.std.proofs.Common.{◌≡◌, ◌==◌, ℕ, Bool, true, false, List, [], ◌∷◌, ◌++◌}
use Rattle.std.proofs.Common.{append_assoc, append-nil, ap, arith, flat_map, refl, ◌∙◌}
use Rattle.std.specs.List.{AllByRecursion, onto_first}
use Rattle.std.proofs.lemmas.Bool.{ne_eqb}
use Rattle.bi_common.specs.declared.format.Format.TheVariants as form
use Rattle.bi_common.specs.Json.{json_text}
use Rattle.bi_common.proofs.PrintedTexts.{ArePrinted, json_printed}
use Rattle.bi_labels.specs.LabelledTexts.{labelled_line, lines_in}
use Rattle.bi_labels.specs.LabelLaws.{IsOneLine, LinesAreLabelled, ValuesAreLabelled}

-- The lines of texts of whole lines.

-- A line, its newline and more.
next_line : (line text : List ℕ) → IsOneLine line → lines_in (line ++ 10 ∷ text) ≡ line ∷ lines_in text
next_line [] text one = refl
next_line (byte ∷ line) text one = by (byte == 10) refl one (λ one. next_line line text one)
  where
    by : (b : Bool) → (byte == 10) ≡ b → IsOneLine (byte ∷ line) →
        (IsOneLine line → lines_in (line ++ 10 ∷ text) ≡ line ∷ lines_in text) →
        lines_in ((byte ∷ line) ++ 10 ∷ text) ≡ (byte ∷ line) ∷ lines_in text
    by true is one rest = absurd (let e : true ≡ false = rw is at one in cc)
    by false is one rest = rw is (ap (onto_first byte) (rest (rw is at one)))

lines_of_text : (lines : List (List ℕ)) → AllByRecursion IsOneLine lines → lines_in (flat_map (λ line. line ++ 10 ∷ []) lines) ≡ lines
lines_of_text [] ones = refl
lines_of_text (line ∷ lines) ones =
    ap lines_in (append_assoc line (10 ∷ []) (flat_map (λ line. line ++ 10 ∷ []) lines))
    ∙ next_line line (flat_map (λ line. line ++ 10 ∷ []) lines) ones.0
    ∙ ap (λ (later : List (List ℕ)). line ∷ later) (lines_of_text lines ones.1)

pub lines_labelled : LinesAreLabelled
lines_labelled format label lines ones = ap (flat_map (labelled_line format label)) (lines_of_text lines ones)

-- A printed text is one line.
printed_line : (text : List ℕ) → ArePrinted text → IsOneLine text
printed_line [] are = refl
printed_line (byte ∷ text) are =
    let low = are.0.0 in
    rw (ne_eqb byte 10 (λ (e : byte ≡ 10). omega (arith, low, e))) (printed_line text are.1)

-- So is the text of a value.
pub values_labelled : ValuesAreLabelled
values_labelled label value =
    ap (flat_map (labelled_line form.Json label)) (next_line (json_text value) [] (printed_line (json_text value) (json_printed value)))
    ∙ simp (append_assoc, append-nil) refl
