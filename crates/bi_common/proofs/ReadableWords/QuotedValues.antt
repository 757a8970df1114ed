use Rattle.std.proofs.Common.{◌≡◌, ℕ, Bool, true, false, cond, List, [], ◌∷◌, ◌++◌, map, refl, sym, ap, ◌∙◌, codes, rules}
use Rattle.std.proofs.Common.{bytes_eq}
use Rattle.std.specs.Prelude.{nat_eq}
use Rattle.std.proofs.lemmas.Bool.{cond-true, cond-false, eqb-false, and_parts}
use Rattle.std.proofs.lemmas.List.{append_assoc}
use Rattle.std.specs.List.{flat_map, ends_with, list_all}
use Rattle.bi_base.proofs.EqualBytes.{same_bytes}
use Rattle.bi_blob.specs.Layout.{strings_of}
use Rattle.bi_fit.specs.Judgement.{listed_names}
use Rattle.bi_fit.proofs.NameLists.{reads_names}
use Rattle.bi_common.specs.ValueTexts.{is_quotable, are_quotable_texts, escaped_byte, quoted_text, hexadecimal_digits, value_words}
use Rattle.bi_common.proofs.ReadableWords.Cuts.{begin_apart, first_same}
use Rattle.bi_common.proofs.ReadableWords.ShownNames.{same_digits}

-- A text in quotes is read back from what follows it, and a value from its words.

-- A byte in quotes is itself, or has a backslash before it.
data Escaped (byte : ℕ) : Type 0 where
  Plain : (byte ≡ 34 → ⊥) → (byte ≡ 92 → ⊥) → escaped_byte byte ≡ byte ∷ [] → Escaped byte
  Special : escaped_byte byte ≡ 92 ∷ byte ∷ [] → Escaped byte

-- It is escaped in one of these ways.
escapes : (byte : ℕ) → Escaped byte
escapes byte = search (rules, cond-true, eqb-false, cond-false)

-- A byte is read back from how it is escaped.
read_escaped : (a b : ℕ) (x y : List ℕ) → escaped_byte a ++ x ≡ escaped_byte b ++ y → (a ≡ b) × (x ≡ y)
read_escaped a b x y same = search (rules, escapes)

-- An escaped byte does not begin as what follows a text does.
no_escaped_quote : (byte : ℕ) (x y : List ℕ) → escaped_byte byte ++ x ≡ 34 ∷ y → ⊥
no_escaped_quote byte x y same = search (rules, escapes, begin_apart)

-- The bytes of a text are read back from the quote that follows them.
read_escapes : (one other x y : List ℕ) → flat_map escaped_byte one ++ (34 ∷ x) ≡ flat_map escaped_byte other ++ (34 ∷ y) →
    (one ≡ other) × (x ≡ y)
read_escapes [] [] x y same = (refl, cc)
read_escapes [] (b ∷ other) x y same = search (rules, no_escaped_quote, append_assoc)
read_escapes (a ∷ one) [] x y same = search (rules, no_escaped_quote, append_assoc)
read_escapes (a ∷ one) (b ∷ other) x y same =
    let first = read_escaped a b (flat_map escaped_byte one ++ (34 ∷ x)) (flat_map escaped_byte other ++ (34 ∷ y))
    (sym (append_assoc (escaped_byte a) (flat_map escaped_byte one) (34 ∷ x)) ∙ same ∙ append_assoc (escaped_byte b)
    (flat_map escaped_byte other) (34 ∷ y)) in
    let rest = read_escapes one other x y first.1 in
    let head : a ≡ b = first.0 in
    let tail : one ≡ other = rest.0 in
    (cc, rest.1)

-- A text is read back from how it is quoted.
pub read_quoted : (one other x y : List ℕ) → quoted_text one ++ x ≡ quoted_text other ++ y → (one ≡ other) × (x ≡ y)
read_quoted one other x y same = search (rules, read_escapes, append_assoc)

-- So are texts from each of them in quotes.
same_texts : (one other : List (List ℕ)) → map quoted_text one ≡ map quoted_text other → one ≡ other
same_texts [] [] same = refl
same_texts [] (b ∷ other) same = absurd cc
same_texts (a ∷ one) [] same = absurd cc
same_texts (a ∷ one) (b ∷ other) same =
    let texts : quoted_text a ≡ quoted_text b = cc in
    let head : a ≡ b = (read_quoted a b [] [] (ap (λ w. w ++ []) texts)).0 in
    let tail : one ≡ other = same_texts one other cc in
    cc

-- The words of a value.
pub data ValueWords (value : List ℕ) : Type 0 where
  Empty : value ≡ [] → value_words value ≡ [] → ValueWords value
  Texts : strings_of (listed_names value) ≡ value → value_words value ≡ map quoted_text (listed_names value) → ValueWords value
  Bytes : value_words value ≡ (codes "0x" ++ hexadecimal_digits value) ∷ [] → ValueWords value

-- They are in one of these forms.
pub forms : (value : List ℕ) → ValueWords value
forms value = where_tests (bytes_eq value []) (are_quotable_texts value) refl refl
  where
    rest : List (List ℕ)
    rest = cond (are_quotable_texts value) (map quoted_text (listed_names value)) ((codes "0x" ++ hexadecimal_digits value) ∷ [])

    where_tests : (p q : Bool) → bytes_eq value [] ≡ p → are_quotable_texts value ≡ q → ValueWords value
    where_tests true q empty texts = Empty (same_bytes value [] empty)
        (cond-true (bytes_eq value []) []
        (cond (are_quotable_texts value) (map quoted_text (listed_names value)) ((codes "0x" ++ hexadecimal_digits value) ∷ [])) empty)
    where_tests false true empty texts = Texts
        (reads_names.whole value (and_parts (ends_with nat_eq value (0 ∷ [])) (list_all is_quotable (listed_names value)) texts).0)
        (cond-false (bytes_eq value []) []
        (cond (are_quotable_texts value) (map quoted_text (listed_names value)) ((codes "0x" ++ hexadecimal_digits value) ∷ [])) empty
        ∙ cond-true (are_quotable_texts value) (map quoted_text (listed_names value)) ((codes "0x" ++ hexadecimal_digits value) ∷ []) texts)
    where_tests false false empty texts = Bytes
        (cond-false (bytes_eq value []) []
        (cond (are_quotable_texts value) (map quoted_text (listed_names value)) ((codes "0x" ++ hexadecimal_digits value) ∷ [])) empty
        ∙ cond-false (are_quotable_texts value) (map quoted_text (listed_names value))
        ((codes "0x" ++ hexadecimal_digits value) ∷ []) texts)

-- Texts in quotes are not the word for bytes.
not_bytes : (texts : List (List ℕ)) (digits : List ℕ) → map quoted_text texts ≡ (codes "0x" ++ digits) ∷ [] → ⊥
not_bytes [] digits same = absurd cc
not_bytes (text ∷ later) digits same =
    begin_apart 34 48 (flat_map escaped_byte text ++ 34 ∷ []) (120 ∷ digits) refl (first_same same)

-- Where there are no words of texts, there are no texts.
no_texts : (texts : List (List ℕ)) → map quoted_text texts ≡ [] → strings_of texts ≡ []
no_texts [] same = refl
no_texts (text ∷ later) same = absurd cc

-- A value is read back from its words.
pub same_value : (one other : List ℕ) → value_words one ≡ value_words other → one ≡ other
same_value one other same = where_forms (forms one) (forms other)
  where
    where_forms : ValueWords one → ValueWords other → one ≡ other
    where_forms (Empty is words) (Empty also others) = cc
    where_forms (Empty is words) (Texts lists others) =
        is ∙ sym (no_texts (listed_names other) (sym others ∙ sym same ∙ words)) ∙ lists
    where_forms (Empty is words) (Bytes others) =
        let e : [] ≡ (codes "0x" ++ hexadecimal_digits other) ∷ [] = sym words ∙ same ∙ others in absurd cc
    where_forms (Texts lists words) (Empty also others) =
        sym (also ∙ sym (no_texts (listed_names one) (sym words ∙ same ∙ others)) ∙ lists)
    where_forms (Texts lists words) (Texts lists_also others) =
        sym lists ∙ ap strings_of (same_texts (listed_names one) (listed_names other) (sym words ∙ same ∙ others)) ∙ lists_also
    where_forms (Texts lists words) (Bytes others) =
        absurd (not_bytes (listed_names one) (hexadecimal_digits other) (sym words ∙ same ∙ others))
    where_forms (Bytes words) (Empty also others) =
        let e : [] ≡ (codes "0x" ++ hexadecimal_digits one) ∷ [] = sym others ∙ sym same ∙ words in absurd cc
    where_forms (Bytes words) (Texts lists others) =
        absurd (not_bytes (listed_names other) (hexadecimal_digits one) (sym others ∙ sym same ∙ words))
    where_forms (Bytes words) (Bytes others) =
        let e : (codes "0x" ++ hexadecimal_digits one) ∷ [] ≡ (codes "0x" ++ hexadecimal_digits other) ∷ [] = sym words ∙ same ∙ others in
        same_digits false one other cc
