use Rattle.std.proofs.Common.{◌≡◌, ℕ, zero, suc, ◌+◌, ◌<◌, false, List, [], ◌∷◌, length, get_or, Ordering, Less, Equal, Greater}
use Rattle.std.proofs.Common.{is_lt, rules}
use Rattle.std.proofs.Common.{refl, sym, ap, subst, ◌∙◌, add-one, arith, Bool, true≢false}
use Rattle.std.specs.Cmp.{IsTotalOrder}
use Rattle.std.specs.Cmp.Lexicographic.{slice_cmp}
use Rattle.std.specs.List.{AllByRecursion, IsDistinct}
use Rattle.std.specs.List.Sorted.{IsSorted, IsStrictlySortedBy}
use Rattle.std.specs.Ordering.{nat_cmp, is_eq, eq_by_cmp, ordering_reverse, ordering_then}
use Rattle.std.proofs.lemmas.Map.Keys.{sorted_from_all_adjacent, IsDistinct-head, IsDistinct-tail}
use Rattle.std.proofs.lemmas.Map.Text.{is_eq-slice_cmp}
use Rattle.std.proofs.lemmas.Slice.Eq.{bytes_eq-Decides}
use Rattle.bi_blob.specs.Tree.{IsNew, AreDistinct}

-- Distinct keys ascend after a sort, and names are such keys.

module _ {K : Type 0} {R : K → K → Ordering} (o : IsTotalOrder R) where
  -- A key that is not after another, and is not the same, is before it.
  is_before : (x y : K) (order : Ordering) → R x y ≡ order → is_lt (R y x) ≡ false → eq_by_cmp R x y ≡ false → R x y ≡ Less
  is_before x y Less is up apart = is
  is_before x y Equal is up apart = absurd (true≢false (sym (ap is_eq is) ∙ apart))
  is_before x y Greater is up apart = absurd (true≢false (sym (ap is_lt (o.antisymm y x ∙ ap ordering_reverse is)) ∙ up))

  neighbours_differ : (keys : List K) (k : ℕ) (d : K) → suc k < length keys → IsDistinct (eq_by_cmp R) keys →
      eq_by_cmp R (get_or keys k d) (get_or keys (suc k) d) ≡ false
  neighbours_differ [] k d within distinct = absurd (omega arith)
  neighbours_differ (key ∷ []) k d within distinct = absurd (omega arith)
  neighbours_differ (key ∷ other ∷ keys) zero d within distinct = (IsDistinct-head (eq_by_cmp R) key (other ∷ keys) distinct).0
  neighbours_differ (key ∷ other ∷ keys) (suc k) d within distinct =
      neighbours_differ (other ∷ keys) k d (omega arith) (IsDistinct-tail (eq_by_cmp R) key (other ∷ keys) distinct)

  pub distinct_ascend : (keys : List K) → IsSorted R keys → IsDistinct (eq_by_cmp R) keys → IsStrictlySortedBy R keys
  unfolding IsStrictlySortedBy
  distinct_ascend [] ascending distinct = tt
  distinct_ascend (key ∷ keys) ascending distinct =
      sorted_from_all_adjacent o (key ∷ keys) key (λ k within.
      is_before (get_or (key ∷ keys) k key) (get_or (key ∷ keys) (k + 1) key) (R (get_or (key ∷ keys) k key) (get_or (key ∷ keys)
      (k + 1) key)) refl
      (ascending k key (omega arith) within)
      (subst (λ n. eq_by_cmp R (get_or (key ∷ keys) k key) (get_or (key ∷ keys) n key) ≡ false) (sym (add-one k))
      (neighbours_differ (key ∷ keys) k key (omega arith) distinct)))

-- What comes first decides an order, unless it is equal.
pub first_not_less : (first later : Ordering) → is_lt (ordering_then first later) ≡ false → is_lt first ≡ false
first_not_less Less later is = is
first_not_less Equal later is = refl
first_not_less Greater later is = refl

-- Whether two names are equal, by their order.
abbrev pub one_name_each : List ℕ → List ℕ → Bool
one_name_each = eq_by_cmp (slice_cmp nat_cmp)

-- A name is none of those among which it is new,
names_differ : (name : List ℕ) (others : List (List ℕ)) → IsNew name others →
    AllByRecursion (λ other. one_name_each name other ≡ false) others
names_differ name [] new = tt
names_differ name (other ∷ others) new = search (rules, bytes_eq-Decides, is_eq-slice_cmp, names_differ name others new.1)

-- so distinct names differ.
pub names_stay_distinct : (names : List (List ℕ)) → AreDistinct names → IsDistinct one_name_each names
unfolding IsDistinct
names_stay_distinct [] distinct = tt
names_stay_distinct (name ∷ names) distinct = (names_differ name names distinct.0, names_stay_distinct names distinct.1)
