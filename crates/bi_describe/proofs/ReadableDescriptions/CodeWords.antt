use Rattle.std.proofs.Common.{◌≡◌, ℕ, ◌<◌, ◌^◌, ◌&&◌, Bool, true, false, cond, not, eqb, leb, List, [], ◌∷◌, Some, unwrap_or, bytes_eq}
use Rattle.std.proofs.Common.{refl, sym}
use Rattle.std.proofs.Common.{ap, subst, ◌∙◌, arith, rules}
use Rattle.std.specs.Fmt.{decimal}
use Rattle.std.specs.List.{list_all}
use Rattle.std.proofs.lemmas.Bool.{cond-true, cond-false, and_parts, not-true, leb-true, eqb-true}
use Rattle.std.proofs.lemmas.Fmt.{decimal_injective}
use Rattle.bi_base.proofs.EqualBytes.{other_bytes}
use Rattle.bi_legacy.specs.Codes.{CodeName, name_of_code}
use Rattle.bi_common.specs.CommonLines.{code_word, named_field}
use Rattle.bi_common.proofs.ReadableWords.Lines.{IsBareField}
use Rattle.bi_common.proofs.ReadableWords.Numbers.{AreDigits, decimal_below}
use Rattle.bi_common.proofs.ReadableWords.ShownNames.{is_blank}

-- A code is read back from its word, since names of codes differ from each other and from numbers.

-- Whether this word begins with a letter.
abbrev begins_with_letter : List ℕ → Bool
begins_with_letter [] = false
begins_with_letter (byte ∷ later) = leb 58 byte

-- Whether these names have no blanks, begin with letters and differ.
abbrev pub is_table : List CodeName → Bool
is_table [] = true
is_table (entry ∷ later) =
    list_all (λ byte. not (is_blank byte)) entry.name && (begins_with_letter entry.name
    && (list_all (λ other. not (bytes_eq other.name entry.name)) later && is_table later))

-- What the test shows of the first name.
record IsEntry (entry : CodeName) (later : List CodeName) : Type 0 where
  bare : list_all (λ byte. not (is_blank byte)) entry.name ≡ true
  letter : begins_with_letter entry.name ≡ true
  differs : list_all (λ other. not (bytes_eq other.name entry.name)) later ≡ true
  rest : is_table later ≡ true

entry_of : (entry : CodeName) (later : List CodeName) → is_table (entry ∷ later) ≡ true → IsEntry entry later
entry_of entry later passes = search (rules, and_parts)

-- The word of a code that the first name is of.
word_here : (entry : CodeName) (later : List CodeName) (code : ℕ) → eqb entry.code code ≡ true → code_word (entry ∷ later) code ≡ entry.name
word_here entry later code is =
    ap (λ name. unwrap_or name (decimal code)) (cond-true (eqb entry.code code) (Some entry.name) (name_of_code later code) is)

-- The word of any other code.
word_later : (entry : CodeName) (later : List CodeName) (code : ℕ) → eqb entry.code code ≡ false →
    code_word (entry ∷ later) code ≡ code_word later code
word_later entry later code other =
    ap (λ name. unwrap_or name (decimal code)) (cond-false (eqb entry.code code) (Some entry.name) (name_of_code later code) other)

-- The word of a code has no blank.
pub code_bare : (names : List CodeName) (code : ℕ) → is_table names ≡ true → IsBareField (named_field (name_of_code names code) code)
code_bare [] code passes = tt
code_bare (entry ∷ later) code passes = by (eqb entry.code code) (code_bare later code (entry_of entry later passes).rest)
  where
    by : (b : Bool) → IsBareField (named_field (name_of_code later code) code) →
        IsBareField (named_field (cond b (Some entry.name) (name_of_code later code)) code)
    by true rest = (entry_of entry later passes).bare
    by false rest = rest

-- A word that begins with a letter is not a number.
no_number : (word : List ℕ) → begins_with_letter word ≡ true → AreDigits word → ⊥
no_number [] letter are = absurd cc
no_number (byte ∷ later) letter are = let high = leb-true 58 byte letter in let low = are.0 in omega (arith, high, low)

-- A word that begins with a letter and is none of these names is the word of no code.
no_word : (word : List ℕ) (names : List CodeName) (code : ℕ) → begins_with_letter word ≡ true →
    list_all (λ other. not (bytes_eq other.name word)) names ≡ true → code_word names code ≡ word → ⊥
no_word word [] code letter differs same = no_number word letter (subst AreDigits same (decimal_below code))
no_word word (entry ∷ later) code letter differs same =
    where_code (eqb entry.code code) refl (λ same. no_word word later code letter both.1 same)
  where
    both : (not (bytes_eq entry.name word) ≡ true) × (list_all (λ other. not (bytes_eq other.name word)) later ≡ true)
    both = and_parts (not (bytes_eq entry.name word)) (list_all (λ (other : CodeName). not (bytes_eq other.name word)) later) differs

    where_code : (b : Bool) → eqb entry.code code ≡ b → (code_word later code ≡ word → ⊥) → ⊥
    where_code true is rest =
        other_bytes entry.name word (not-true (bytes_eq entry.name word) both.0) (sym (word_here entry later code is) ∙ same)
    where_code false other rest = rest (sym (word_later entry later code other) ∙ same)

-- A code is read back from its word.
pub same_code : (names : List CodeName) (one other : ℕ) → is_table names ≡ true → one < 2 ^ 8 → other < 2 ^ 8 →
    code_word names one ≡ code_word names other → one ≡ other
same_code [] one other passes small also same = decimal_injective one other (omega (arith, small)) (omega (arith, also)) same
same_code (entry ∷ later) one other passes small also same =
    where_codes (eqb entry.code one) (eqb entry.code other) refl refl (λ same. same_code later one other is_entry.rest small also same)
  where
    is_entry : IsEntry entry later
    is_entry = entry_of entry later passes

    where_codes : (p q : Bool) → eqb entry.code one ≡ p → eqb entry.code other ≡ q →
        (code_word later one ≡ code_word later other → one ≡ other) → one ≡ other
    where_codes true true is is_also rest = sym (eqb-true entry.code one is) ∙ eqb-true entry.code other is_also
    where_codes true false is differs rest = absurd (no_word entry.name later other is_entry.letter is_entry.differs
        (sym (word_later entry later other differs) ∙ sym same ∙ word_here entry later one is))
    where_codes false true differs is rest = absurd (no_word entry.name later one is_entry.letter is_entry.differs
        (sym (word_later entry later one differs) ∙ same ∙ word_here entry later other is))
    where_codes false false differs differs_also rest =
        rest (sym (word_later entry later one differs) ∙ same ∙ word_later entry later other differs_also)
