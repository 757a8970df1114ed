use Rattle.std.proofs.Common.{◌≡◌, ◌≢◌, ◌==◌, ℕ, Bool, true, false, List}
use Rattle.std.proofs.Common.{[], ◌∷◌, ◌++◌, map, refl, sym, ap, ◌∙◌, codes, append_assoc, append-nil}
use Rattle.std.specs.List.{flat_map, join_with_byte}
use Rattle.bi_blob.specs.Layout.{strings_of}
use Rattle.bi_fit.specs.Judgement.{listed_names}
use Rattle.bi_common.specs.ValueTexts.{escaped_byte, quoted_text, hexadecimal_digits}
use Rattle.bi_common.proofs.ReadableWords.QuotedValues.{ValueWords, Empty, Texts, Bytes, forms}
use Rattle.bi_edit.specs.EditWords.{value_text}
use Rattle.bi_edit.specs.Unquoted.{bytes_in_quotes}
use Rattle.bi_edit.specs.declared.words.values.Quoting.TheVariants.{Outside, Inside}

-- The bytes in quotes of a value as it is printed are the value.

-- A byte in quotes.
module _ (byte : ℕ) (later rest : List ℕ) (text : List ℕ) (is : bytes_in_quotes Inside later ≡ rest) where
  where_quote : (q b : Bool) → byte == 34 ≡ q → byte == 92 ≡ b → bytes_in_quotes Inside (escaped_byte byte ++ later) ≡ byte ∷ rest
  where_quote true b quote backslash = rw quote (ap (λ l. byte ∷ l) is)
  where_quote false true quote backslash = rw (quote, backslash) (ap (λ l. byte ∷ l) is)
  where_quote false false quote backslash = rw (quote, backslash) (rw (quote, backslash) (ap (λ l. byte ∷ l) is))

-- A text up to the quote that ends it.
unquoted_inside : (text later : List ℕ) →
    bytes_in_quotes Inside (flat_map escaped_byte text ++ 34 ∷ later) ≡ text ++ 0 ∷ bytes_in_quotes Outside later
unquoted_inside [] later = refl
unquoted_inside (byte ∷ text) later =
    ap (bytes_in_quotes Inside) (append_assoc (escaped_byte byte) (flat_map escaped_byte text) (34 ∷ later))
    ∙ where_quote byte (flat_map escaped_byte text ++ 34 ∷ later) (text ++ 0 ∷ bytes_in_quotes Outside later) text
    (unquoted_inside text later)
    (byte == 34) (byte == 92) refl refl

-- A text in quotes.
unquoted_quoted : (text later : List ℕ) → bytes_in_quotes Outside (quoted_text text ++ later) ≡ text ++ 0 ∷ bytes_in_quotes Outside later
unquoted_quoted text later =
    ap (bytes_in_quotes Inside) (append_assoc (flat_map escaped_byte text) (34 ∷ []) later) ∙ unquoted_inside text later

-- Texts in quotes.
unquoted_texts : (texts : List (List ℕ)) → bytes_in_quotes Outside (join_with_byte 32 (map quoted_text texts)) ≡ strings_of texts
unquoted_texts [] = refl
unquoted_texts (text ∷ []) = unquoted_inside text [] ∙ sym (append-nil (text ++ 0 ∷ []))
unquoted_texts (text ∷ next ∷ texts) =
    unquoted_quoted text (32 ∷ join_with_byte 32 (map quoted_text (next ∷ texts)))
    ∙ ap (λ l. text ++ 0 ∷ l) (unquoted_texts (next ∷ texts)) ∙ sym (append_assoc text (0 ∷ []) (strings_of (next ∷ texts)))

-- A value that is not printed in digits.
pub unquoted_value : (value text : List ℕ) → value_text value ≡ text → ((digits : List ℕ) → text ≢ codes "0x" ++ digits) →
    bytes_in_quotes Outside text ≡ value
unquoted_value value text is other = where_form (forms value)
  where
    where_form : ValueWords value → bytes_in_quotes Outside text ≡ value
    where_form (Empty nothing words) = ap (bytes_in_quotes Outside) (sym is ∙ ap (join_with_byte 32) words) ∙ sym nothing
    where_form (Texts lists words) =
        ap (bytes_in_quotes Outside) (sym is ∙ ap (join_with_byte 32) words) ∙ unquoted_texts (listed_names value) ∙ lists
    where_form (Bytes words) = absurd (other (hexadecimal_digits value) (sym is ∙ ap (join_with_byte 32) words))
