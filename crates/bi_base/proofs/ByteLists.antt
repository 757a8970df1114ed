use Rattle.std.proofs.Common.{◌≡◌, ℕ, true, ◌+◌, ◌-◌, ◌^◌, ◌<◌, zero, suc, List, [], ◌∷◌, ◌++◌, length, get_or, take, drop, replicate}
use Rattle.std.proofs.Common.{flat_map, inl, inr, refl, sym, subst, arith, get_or-append-add, get_or-drop}
use Rattle.std.specs.Prelude.{ltb}
use Rattle.std.specs.List.{AllByRecursion, list_all}
use Rattle.std.proofs.lemmas.Bool.{cases_lt, and_parts, ltb-true}
use Rattle.std.proofs.lemmas.List.{get_or_append_left, get_or-append_right, get_or_past}
use Rattle.bi_base.specs.Cells.{cell, cell8, AreBytes}
use Rattle.bi_base.proofs.CellLaws.{AreBytes-slice}

-- Zeros, cells, and lists of bytes one after the other are lists of bytes, and so are the parts of a list of bytes.

-- No bytes.
pub AreBytes-none : AreBytes []
AreBytes-none = record { each = λ i. omega arith }

-- One more byte at the front.
pub AreBytes-cons : (byte : ℕ) (later : List ℕ) → byte < 2 ^ 8 → AreBytes later → AreBytes (byte ∷ later)
AreBytes-cons byte later fits bytes = record { each = where_each }
  where
    where_each : (i : ℕ) → get_or (byte ∷ later) i 0 < 2 ^ 8
    where_each zero = fits
    where_each (suc i) = bytes.each i

-- Two lists of bytes.
pub AreBytes-append : (a b : List ℕ) → AreBytes a → AreBytes b → AreBytes (a ++ b)
AreBytes-append a b first second = record {
  each = λ i. elim (cases_lt i (length a)) as (λ _. get_or (a ++ b) i 0 < 2 ^ 8) [
    | inl within ↦ rw (get_or_append_left a b 0 i within) (first.each i)
    | inr past ↦ rw (get_or-append_right a b (length a) i 0 refl past) (second.each (i - length a))
  ];
}

-- Zeros.
pub AreBytes-zeros : (n : ℕ) → AreBytes (replicate n 0)
AreBytes-zeros zero = AreBytes-none
AreBytes-zeros (suc n) = AreBytes-cons 0 (replicate n 0) (omega arith) (AreBytes-zeros n)

-- A cell.
pub AreBytes-cell : (n : ℕ) → AreBytes (cell n)
unfolding cell
AreBytes-cell n = AreBytes-cons _ _ (omega arith)
    (AreBytes-cons _ _ (omega arith) (AreBytes-cons _ _ (omega arith) (AreBytes-cons _ _ (omega arith) AreBytes-none)))

-- Two cells.
pub AreBytes-cell8 : (n : ℕ) → AreBytes (cell8 n)
unfolding cell8
AreBytes-cell8 n =
    AreBytes-cons _ _ (omega arith)
    (AreBytes-cons _ _ (omega arith)
    (AreBytes-cons _ _ (omega arith)
    (AreBytes-cons _ _ (omega arith)
    (AreBytes-cons _ _ (omega arith)
    (AreBytes-cons _ _ (omega arith) (AreBytes-cons _ _ (omega arith) (AreBytes-cons _ _ (omega arith) AreBytes-none)))))))

-- Lists of bytes one after the other.
pub AreBytes-flat_map : {X : Type 0} (f : X → List ℕ) (xs : List X) → AllByRecursion (λ x. AreBytes (f x)) xs → AreBytes (flat_map f xs)
AreBytes-flat_map f [] each = AreBytes-none
AreBytes-flat_map f (first ∷ others) each = AreBytes-append (f first) (flat_map f others) each.0 (AreBytes-flat_map f others each.1)

-- The first of two lists that are bytes together.
pub AreBytes-left : (a b : List ℕ) → AreBytes (a ++ b) → AreBytes a
AreBytes-left a b bytes = record {
  each = λ i. elim (cases_lt i (length a)) as (λ _. get_or a i 0 < 2 ^ 8) [
    | inl within ↦ rw (← get_or_append_left a b 0 i within) (bytes.each i)
    | inr past ↦ rw (get_or_past a i 0 past) (omega arith)
  ];
}

-- The second.
pub AreBytes-right : (a b : List ℕ) → AreBytes (a ++ b) → AreBytes b
AreBytes-right a b bytes = record { each = λ i. subst (λ n. n < 2 ^ 8) (get_or-append-add a b i 0) (bytes.each (length a + i)) }

-- What is left of bytes.
pub AreBytes-drop : (n : ℕ) (file : List ℕ) → AreBytes file → AreBytes (drop n file)
AreBytes-drop n file bytes = record { each = λ i. subst (λ k. k < 2 ^ 8) (sym (get_or-drop n file i 0)) (bytes.each (n + i)) }

-- The first bytes.
pub AreBytes-take : (n : ℕ) (file : List ℕ) → AreBytes file → AreBytes (take n file)
AreBytes-take n file bytes = AreBytes-slice file 0 n bytes

-- A list of bytes is one, by a test of each.
pub bytes_by_test : (bytes : List ℕ) → list_all (λ byte. ltb byte 256) bytes ≡ true → AreBytes bytes
bytes_by_test [] passes = AreBytes-none
bytes_by_test (byte ∷ later) passes =
    let parts = and_parts (ltb byte 256) (list_all (λ byte. ltb byte 256) later) passes in
    AreBytes-cons byte later (ltb-true byte 256 parts.0) (bytes_by_test later parts.1)
