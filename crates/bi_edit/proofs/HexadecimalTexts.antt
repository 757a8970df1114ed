use Rattle.std.proofs.Common.{◌≡◌, ◌≢◌, inl, inr, ℕ, List, [], ◌∷◌, ◌++◌, map, Ok, refl, sym, ap, ◌∙◌, codes}
use Rattle.std.specs.List.{join_with_byte}
use Rattle.hex.specs.Hex.{decode_of}
use Rattle.hex.proofs.HexLemmas.{decode_of-encode_lower}
use Rattle.bi_base.specs.Cells.{AreBytes}
use Rattle.bi_fit.specs.Judgement.{listed_names}
use Rattle.bi_common.specs.ValueTexts.{quoted_text}
use Rattle.bi_common.proofs.HexDigits.{hex_of_bytes}
use Rattle.bi_common.proofs.ReadableWords.Cuts.{begin_apart, later_same}
use Rattle.bi_common.proofs.ReadableWords.QuotedValues.{ValueWords, Empty, Texts, Bytes, forms}
use Rattle.bi_edit.specs.EditWords.{IsValueText, value_text}

-- A text that begins with `0x` is for no value, if no digits are after it.

-- Texts in quotes do not begin so.
not_quoted : (texts : List (List ℕ)) (digits : List ℕ) → join_with_byte 32 (map quoted_text texts) ≡ codes "0x" ++ digits → ⊥
not_quoted [] digits same = absurd cc
not_quoted (text ∷ []) digits same = begin_apart 34 48 _ _ refl same
not_quoted (text ∷ next ∷ texts) digits same = begin_apart 34 48 _ _ refl same

-- The digits of a printed value are those of its bytes.
printed_digits : (value digits : List ℕ) → AreBytes value → value_text value ≡ codes "0x" ++ digits → decode_of digits ≡ Ok value
printed_digits value digits bytes is = where_form (forms value)
  where
    where_form : ValueWords value → decode_of digits ≡ Ok value
    where_form (Empty nothing words) =
        let e : [] ≡ codes "0x" ++ digits = sym (ap (join_with_byte 32) words) ∙ is in absurd cc
    where_form (Texts lists words) =
        absurd (not_quoted (listed_names value) digits (sym (ap (join_with_byte 32) words) ∙ is))
    where_form (Bytes words) =
        ap decode_of (sym (later_same (later_same (sym (ap (join_with_byte 32) words) ∙ is))) ∙ sym (hex_of_bytes value bytes.each))
        ∙ decode_of-encode_lower value bytes.each

pub no_hexadecimal : (text digits : List ℕ) → text ≡ codes "0x" ++ digits → ((value : List ℕ) → decode_of digits ≢ Ok value) →
    (value : List ℕ) → IsValueText text value → ⊥
no_hexadecimal text digits is none value (inl hexadecimal) =
    none value (ap decode_of (later_same (later_same (sym is ∙ hexadecimal.is))) ∙ hexadecimal.are_digits)
no_hexadecimal text digits is none value (inr printed) = none value (printed_digits value digits printed.0 (printed.1 ∙ is))
