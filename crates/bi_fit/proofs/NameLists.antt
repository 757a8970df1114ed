use Rattle.std.proofs.Common.{◌≡◌, ◌≢◌, ℕ, Bool, true, false, List, [], ◌∷◌, ◌++◌, refl, sym, ap, ap₂, ◌∙◌, rules}
use Rattle.std.specs.Prelude.{IsTrue, ◌==◌, nat_eq}
use Rattle.std.specs.List.{AllByRecursion, ends_with}
use Rattle.std.proofs.lemmas.Bool.{and_parts, eqb-true, eqb-false, ne_eqb, false≢true}
use Rattle.bi_blob.specs.Tree.{HasNoZero}
use Rattle.bi_blob.specs.Layout.{strings_of}
use Rattle.bi_fit.specs.Judgement.{with_byte, listed_names}
use Rattle.bi_fit.specs.Laws.{ReadsNames}

-- A value of names with a zero after each lists these names.

-- A name before a zero is the first of what is listed.
first_listed : (name rest : List ℕ) → HasNoZero name → listed_names ((name ++ 0 ∷ []) ++ rest) ≡ name ∷ listed_names rest
first_listed [] rest no_zero = refl
first_listed (byte ∷ later) rest no_zero =
    rw (ne_eqb byte 0 no_zero.0) (ap (with_byte byte) (first_listed later rest no_zero.1))

-- Names with a zero after each are listed.
pub list_of_names : (names : List (List ℕ)) → AllByRecursion HasNoZero names → listed_names (strings_of names) ≡ names
list_of_names [] no_zero = refl
list_of_names (name ∷ later) no_zero =
    first_listed name (strings_of later) no_zero.0 ∙ ap (λ l. name ∷ l) (list_of_names later no_zero.1)

-- Where something is listed, a byte more is before it.
byte_before : (byte : ℕ) (names : List (List ℕ)) (value : List ℕ) → strings_of names ≡ value → value ≢ [] →
    strings_of (with_byte byte names) ≡ byte ∷ value
byte_before byte [] value same some = absurd (some (sym same))
byte_before byte (name ∷ later) value same some = ap (λ l. byte ∷ l) same

-- A value of two bytes or more ends as it does without the first.
pub ends_later : (byte next : ℕ) (later : List ℕ) →
    ends_with nat_eq (byte ∷ next ∷ later) (0 ∷ []) ≡ ends_with nat_eq (next ∷ later) (0 ∷ [])
ends_later byte next later = search rules

-- A value whose last byte is a zero is all names.
whole_listed : (value : List ℕ) → IsTrue (ends_with nat_eq value (0 ∷ [])) → strings_of (listed_names value) ≡ value
whole_listed [] ends = absurd (false≢true ends)
whole_listed (byte ∷ []) ends = search (rules, eqb-true, and_parts, eqb-false)
whole_listed (byte ∷ next ∷ later) ends = where_first (byte == 0) refl
    (whole_listed (next ∷ later) (sym (ends_later byte next later) ∙ ends))
  where
    where_first : (b : Bool) → (byte == 0) ≡ b → strings_of (listed_names (next ∷ later)) ≡ next ∷ later →
        strings_of (listed_names (byte ∷ next ∷ later)) ≡ byte ∷ next ∷ later
    where_first true is rest = rw is (ap₂ (λ n l. n ∷ l) (sym (eqb-true byte 0 is)) rest)
    where_first false is rest =
        rw is (byte_before byte (listed_names (next ∷ later)) (next ∷ later) rest (λ (e : next ∷ later ≡ []). absurd cc))

-- The names of a list have no zeros.
listed_no_zero : (value : List ℕ) → AllByRecursion HasNoZero (listed_names value)
listed_no_zero [] = tt
listed_no_zero (byte ∷ later) = search (rules, eqb-false, listed_no_zero later)

pub reads_names : ReadsNames
reads_names = record { listed = list_of_names; whole = whole_listed; no_zero = listed_no_zero }
