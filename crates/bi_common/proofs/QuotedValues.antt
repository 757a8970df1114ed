use Rattle.std.proofs.Common.{◌≡◌, ℕ, suc, ◌==◌, ◌-◌, ◌≤◌, Bool, true, false, ◌&&◌, cond, List, [], ◌∷◌, ◌++◌, flat_map, length, map, take}
use Rattle.std.proofs.Common.{nat_eq, refl, sym, ap, ◌∙◌, arith, append_assoc}
use Rattle.std.specs.List.{ends_with, join_with_byte, list_all}
use Rattle.std.proofs.lemmas.Bool.{and_parts, eqb-true}
use Rattle.bi_fit.specs.Judgement.{listed_names, with_byte}
use Rattle.bi_fit.proofs.NameLists.{ends_later}
use Rattle.bi_common.specs.DescribedValues.{end_texts, quoted_byte, quoted_texts}
use Rattle.bi_common.specs.ValueTexts.{is_printable, is_quotable, are_quotable_texts, escaped_byte, quoted_text, value_words}
use Rattle.bi_common.specs.ValueTexts.{hexadecimal_digits}
use Rattle.bi_common.proofs.JoinedWords.{joined_after}

-- The words of a value are its texts in quotes if it is texts that can be quoted, and otherwise its bytes in hexadecimal digits.

-- A value that ends with a zero is what is before it, and the zero.
pub before_last : (value : List ℕ) → 1 ≤ length value → ends_with nat_eq value (0 ∷ []) ≡ true →
    value ≡ take (length value - 1) value ++ 0 ∷ []
before_last [] some ends = absurd (omega arith)
before_last (byte ∷ []) some ends = ap (λ b. b ∷ []) (zero_byte byte ends)
  where
    zero_byte : (byte : ℕ) → ends_with nat_eq (byte ∷ []) (0 ∷ []) ≡ true → byte ≡ 0
    zero_byte byte ends = sym (eqb-true 0 byte (and_parts (0 == byte) true ends).0)
before_last (byte ∷ next ∷ later) some ends =
    let rest = before_last (next ∷ later) (omega arith) (sym (ends_later byte next later) ∙ ends) in
    let count : length (byte ∷ next ∷ later) - 1 ≡ suc (length (next ∷ later) - 1) = omega arith in
    ap (λ bytes. byte ∷ bytes) rest ∙ ap (λ n. take n (byte ∷ next ∷ later) ++ 0 ∷ []) (sym count)

-- The names that bytes with a zero after them list: a first one and others.
pub record HasFirstName (bytes : List ℕ) : Type 0 where
  pub first : List ℕ
  pub others : List (List ℕ)
  pub are : listed_names (bytes ++ 0 ∷ []) ≡ first ∷ others

-- A first byte goes to the first name, or it ends an empty one.
listed_more : (byte : ℕ) (later : List ℕ) → HasFirstName later → (b : Bool) → byte == 0 ≡ b → HasFirstName (byte ∷ later)
listed_more byte later rest true is_zero = record { first = []; others = listed_names (later ++ 0 ∷ []); are = rw is_zero refl }
listed_more byte later rest false other = record { first = byte ∷ rest.first; others = rest.others; are = rw (other, rest.are) refl }

pub has_first_name : (bytes : List ℕ) → HasFirstName bytes
has_first_name [] = record { first = []; others = []; are = refl }
has_first_name (byte ∷ later) = listed_more byte later (has_first_name later) (byte == 0) refl

-- Whether names continue a text that has a byte: the first may have none.
abbrev ok_after : List (List ℕ) → Bool
ok_after [] = true
ok_after (first ∷ others) = list_all is_printable first && list_all is_quotable others

-- Three tests in another order.
and_assoc : (a b c : Bool) → a && (b && c) ≡ (a && b) && c
and_assoc true b c = refl
and_assoc false b c = refl

-- What is left of texts decides, by the names.
module _ (byte : ℕ) (later : List ℕ) where
  texts_more : ok_after (listed_names (later ++ 0 ∷ [])) ≡ end_texts true (later ++ 0 ∷ []) →
      list_all is_quotable (listed_names (later ++ 0 ∷ [])) ≡ end_texts false (later ++ 0 ∷ [])
      → (b : Bool) → byte == 0 ≡ b → ok_after (listed_names (byte ∷ (later ++ 0 ∷ []))) ≡ end_texts true (byte ∷ (later ++ 0 ∷ []))
  texts_more in_text begins true is_zero = rw is_zero begins
  texts_more in_text begins false other =
      let rest = has_first_name later in
      rw other
      (ap (λ names. ok_after (with_byte byte names)) rest.are
      ∙ sym (and_assoc (is_printable byte) (list_all is_printable rest.first) (list_all is_quotable rest.others))
      ∙ ap (λ b. is_printable byte && b) (sym (ap ok_after rest.are) ∙ in_text))

  texts_begin : ok_after (listed_names (later ++ 0 ∷ [])) ≡ end_texts true (later ++ 0 ∷ [])
      → (b : Bool) → byte == 0 ≡ b →
      list_all is_quotable (listed_names (byte ∷ (later ++ 0 ∷ []))) ≡ end_texts false (byte ∷ (later ++ 0 ∷ []))
  texts_begin in_text true is_zero = rw is_zero refl
  texts_begin in_text false other =
      let rest = has_first_name later in
      rw other
      (ap (λ names. list_all is_quotable (with_byte byte names)) rest.are
      ∙ sym (and_assoc (is_printable byte) (list_all is_printable rest.first) (list_all is_quotable rest.others))
      ∙ ap (λ b. is_printable byte && b) (sym (ap ok_after rest.are) ∙ in_text))

texts_decide : (bytes : List ℕ) →
    (ok_after (listed_names (bytes ++ 0 ∷ [])) ≡ end_texts true (bytes ++ 0 ∷ []))
    × (list_all is_quotable (listed_names (bytes ++ 0 ∷ [])) ≡ end_texts false (bytes ++ 0 ∷ []))
texts_decide [] = (refl, refl)
texts_decide (byte ∷ later) =
    let rest = texts_decide later in
    (texts_more byte later rest.0 rest.1 (byte == 0) refl, texts_begin byte later rest.0 (byte == 0) refl)

-- What follows the first quote of texts.
abbrev after_quote : List (List ℕ) → List ℕ
after_quote [] = []
after_quote (first ∷ others) = (flat_map escaped_byte first ++ 34 ∷ []) ++ flat_map (λ word. 32 ∷ word) (map quoted_text others)

quotes_more : (byte : ℕ) (later : List ℕ) → after_quote (listed_names (later ++ 0 ∷ [])) ≡ flat_map quoted_byte later ++ 34 ∷ []
    → (b : Bool) → byte == 0 ≡ b → after_quote (listed_names (byte ∷ (later ++ 0 ∷ []))) ≡ flat_map quoted_byte (byte ∷ later) ++ 34 ∷ []
quotes_more byte later is true is_zero =
    let rest = has_first_name later in
    rw (is_zero, rest.are) (ap (λ bytes. 34 ∷ 32 ∷ 34 ∷ bytes) (sym (ap after_quote rest.are) ∙ is))
quotes_more byte later is false other =
    let rest = has_first_name later in
    rw other
    (ap (λ names. after_quote (with_byte byte names)) rest.are
    ∙ ap (λ bytes. bytes ++ flat_map (λ word. 32 ∷ word) (map quoted_text rest.others))
    (append_assoc (escaped_byte byte) (flat_map escaped_byte rest.first) (34 ∷ []))
    ∙ append_assoc (escaped_byte byte) (flat_map escaped_byte rest.first ++ 34 ∷ [])
    (flat_map (λ word. 32 ∷ word) (map quoted_text rest.others))
    ∙ ap (λ bytes. escaped_byte byte ++ bytes) (sym (ap after_quote rest.are) ∙ is)
    ∙ sym (append_assoc (escaped_byte byte) (flat_map quoted_byte later) (34 ∷ [])))

quotes : (bytes : List ℕ) → after_quote (listed_names (bytes ++ 0 ∷ [])) ≡ flat_map quoted_byte bytes ++ 34 ∷ []
quotes [] = refl
quotes (byte ∷ later) = quotes_more byte later (quotes later) (byte == 0) refl

-- Texts with a zero after each, in quotes.
quoted_listed : (bytes : List ℕ) → join_with_byte 32 (map quoted_text (listed_names (bytes ++ 0 ∷ []))) ≡ quoted_texts bytes
quoted_listed bytes =
    let names = has_first_name bytes in
    ap (λ texts. join_with_byte 32 (map quoted_text texts)) names.are
    ∙ joined_after 32 (quoted_text names.first) (map quoted_text names.others)
    ∙ ap (λ later. 34 ∷ later) (sym (ap after_quote names.are) ∙ quotes bytes)

-- Whether a value is texts, byte by byte.
pub texts_tested : (value : List ℕ) (ends : Bool) → ends_with nat_eq value (0 ∷ []) ≡ ends →
    ends && end_texts false value ≡ are_quotable_texts value
texts_tested value false none = sym (ap (λ b. b && list_all is_quotable (listed_names value)) none)
texts_tested [] true ends = absurd cc
texts_tested (byte ∷ later) true ends =
    let value : List ℕ = byte ∷ later in
    let is = before_last value (omega arith) ends in
    ap (end_texts false) is ∙ sym (texts_decide (take (length value - 1) value)).1
    ∙ ap (λ v. list_all is_quotable (listed_names v)) (sym is)
    ∙ sym (ap (λ b. b && list_all is_quotable (listed_names value)) ends)

-- Texts end with a zero.
ends_so : (value : List ℕ) (ends : Bool) → ends_with nat_eq value (0 ∷ []) ≡ ends → are_quotable_texts value ≡ true → ends ≡ true
ends_so value true e texts = refl
ends_so value false e texts = sym (ap (λ b. b && list_all is_quotable (listed_names value)) e) ∙ texts

-- The words of a value that is texts.
pub words_of_texts : (value : List ℕ) → 1 ≤ length value → are_quotable_texts value ≡ true →
    join_with_byte 32 (value_words value) ≡ quoted_texts (take (length value - 1) value)
words_of_texts [] some texts = absurd (omega arith)
words_of_texts (byte ∷ later) some texts =
    let value : List ℕ = byte ∷ later in
    let bytes : List ℕ = take (length value - 1) value in
    let is = before_last value some (ends_so value (ends_with nat_eq value (0 ∷ [])) refl texts) in
    ap (λ b. join_with_byte 32 (cond b (map quoted_text (listed_names value)) ((48 ∷ 120 ∷ hexadecimal_digits value) ∷ []))) texts
    ∙ ap (λ v. join_with_byte 32 (map quoted_text (listed_names v))) is
    ∙ quoted_listed bytes

-- The words of a value that is not empty: a first one and others.
pub record SomeWords (value : List ℕ) : Type 0 where
  pub first : List ℕ
  pub others : List (List ℕ)
  pub are : value_words value ≡ first ∷ others

pub words_of_one : (value : List ℕ) → 1 ≤ length value → (texts : Bool) → are_quotable_texts value ≡ texts → SomeWords value
words_of_one [] some texts is = absurd (omega arith)
words_of_one (byte ∷ later) some false is = record {
  first = 48 ∷ 120 ∷ hexadecimal_digits (byte ∷ later);
  others = [];
  are = ap (λ b. cond b (map quoted_text (listed_names (byte ∷ later))) ((48 ∷ 120 ∷ hexadecimal_digits (byte ∷ later)) ∷ [])) is;
}
words_of_one (byte ∷ later) some true is =
    let value : List ℕ = byte ∷ later in
    let names = has_first_name (take (length value - 1) value) in
    record {
      first = quoted_text names.first;
      others = map quoted_text names.others;
      are = ap (λ b. cond b (map quoted_text (listed_names value)) ((48 ∷ 120 ∷ hexadecimal_digits value) ∷ [])) is
          ∙ ap (λ v. map quoted_text (listed_names v)) (before_last value some (ends_so value (ends_with nat_eq value (0 ∷ [])) refl is))
          ∙ ap (map quoted_text) names.are;
    }
