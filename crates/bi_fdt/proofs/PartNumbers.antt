use Rattle.std.proofs.Common.{◌≡◌, ◌≢◌, ◌<◌, ℕ, zero, suc, inl, inr, Bool, true, false, cond, List, [], ◌∷◌, length, Option, Some, rules}
use Rattle.std.proofs.Common.{slice_get, slice_set, refl, sym, ap, subst, ◌∙◌}
use Rattle.std.specs.BTreeMap.{BTreeMap, get, Updates}
use Rattle.std.specs.Option.{option_and_then}
use Rattle.std.specs.Ordering.{nat_cmp, ordering_then, is_eq}
use Rattle.std.specs.declared.cmp.Ordering.{Ordering}
use Rattle.std.specs.Cmp.Lexicographic.{slice_cmp, lists_total}
use denote.Ref.{Bor}
use Rattle.std.proofs.lemmas.Bool.{true≢false}
use Rattle.std.proofs.lemmas.Bool.Decides.{eqb_tells}
use Rattle.std.proofs.lemmas.Cmp.{tied_itself, nat_cmp_total}
use Rattle.std.proofs.lemmas.List.{get_or-set_same, length-set}
use Rattle.std.proofs.lemmas.Map.Lookups.{exact_pairs, exact_unsigned, exact_bytes}
use Rattle.std.proofs.lemmas.Option.{slice_get-get_or}
use Rattle.bi_blob.specs.NamesByPrefix.{prefix_of_name, by_prefix}
use Rattle.bi_fdt.specs.PartNumbers.{key_of_part, is_same_key, bucket_of, bucket_count, number_in}
use Rattle.bi_fdt.specs.declared.part_numbers.PartNumbers.{PartNumbers}

-- The numbers of parts are in the maps that the parts choose.

-- A part of borrowed bytes.
abbrev pub part_of_slice : ℕ × Bor (List ℕ) → ℕ × List ℕ
part_of_slice part = (part.0, part.1.now)

-- A map from the keys of parts to numbers.
abbrev pub Bucket : Type 0
Bucket = BTreeMap (ℕ × ℕ × Bor (List ℕ)) ℕ

-- Keys are equal in the order of a map if and only if the parts are.
pub same_part : (a b : ℕ × Bor (List ℕ)) → is_same_key a b ≡ true → part_of_slice a ≡ part_of_slice b
same_part a b is = search (rules, exact_pairs, exact_unsigned, exact_bytes, true≢false)

pub equal_part : (a b : ℕ × Bor (List ℕ)) → part_of_slice a ≡ part_of_slice b → is_same_key a b ≡ true
equal_part a b same =
    ap (λ (part : ℕ × List ℕ). is_eq (to part)) (sym same)
    ∙ ap (λ o. is_eq (ordering_then (ordering_then o (nat_cmp (prefix_of_name a.1.now) (prefix_of_name a.1.now)))
    (slice_cmp nat_cmp a.1.now a.1.now)))
    (tied_itself nat_cmp_total a.0)
    ∙ ap (λ o. is_eq (ordering_then o (slice_cmp nat_cmp a.1.now a.1.now))) (tied_itself nat_cmp_total (prefix_of_name a.1.now))
    ∙ ap is_eq (tied_itself (lists_total nat_cmp_total) a.1.now) where
      to : ℕ × List ℕ → Ordering
      to part =
          ordering_then (ordering_then (nat_cmp a.0 part.0) (nat_cmp (prefix_of_name a.1.now) (prefix_of_name part.1)))
          (slice_cmp nat_cmp a.1.now part.1)

-- ---- elements of lists

slice_get-set_same : {Item : Type 0} (xs : List Item) (i : ℕ) (y : Item) → i < length xs → slice_get (slice_set xs i y) i ≡ Some y
slice_get-set_same xs i y within =
    slice_get-get_or (slice_set xs i y) i y (subst (λ n. i < n) (sym (length-set xs i y)) within)
    ∙ ap Some (get_or-set_same xs i y y within)

slice_get-set_other : {Item : Type 0} (xs : List Item) (i j : ℕ) (y : Item) → j ≢ i → slice_get (slice_set xs i y) j ≡ slice_get xs j
slice_get-set_other [] i j y other = refl
slice_get-set_other (x ∷ xs) zero zero y other = absurd (other refl)
slice_get-set_other (x ∷ xs) zero (suc j) y other = refl
slice_get-set_other (x ∷ xs) (suc i) zero y other = refl
slice_get-set_other (x ∷ xs) (suc i) (suc j) y other = slice_get-set_other xs i j y (λ same. other (ap suc same))

-- ---- the numbers

-- The number of a part in the map at an index, if there is one.
abbrev pub number_from : List Bucket → ℕ → ℕ × Bor (List ℕ) → Option ℕ
number_from buckets index part = option_and_then (λ bucket. get by_prefix bucket (key_of_part part)) (slice_get buckets index)

-- If the map that a part chooses is known, so is the number of the part.
pub number_at : (numbers : PartNumbers) (part : ℕ × Bor (List ℕ)) (index : ℕ) (bucket : Bucket)
    → index ≡ bucket_of (bucket_count numbers) (part_of_slice part) → slice_get numbers.buckets.items index ≡ Some bucket
    → number_in numbers part ≡ get by_prefix bucket (key_of_part part)
number_at numbers part index bucket chosen is = search rules

-- One map has one more part, which chose it: so the other parts have the numbers that they had.
pub number_more : (buckets : List Bucket) (index : ℕ) (old new : Bucket) (count : ℕ) (added : ℕ × Bor (List ℕ)) (number : ℕ)
    → index < length buckets → slice_get buckets index ≡ Some old → index ≡ bucket_of count (part_of_slice added)
    → Updates by_prefix old new (key_of_part added) (Some number) → (part : ℕ × Bor (List ℕ))
    → number_from (slice_set buckets index new) (bucket_of count (part_of_slice part)) part
    ≡ cond (is_same_key added part) (Some number) (number_from buckets (bucket_of count (part_of_slice part)) part)
number_more buckets index old new count added number within was chosen updates part =
    elim (eqb_tells (bucket_of count (part_of_slice part)) index) [
      | inl same ↦
          ap (λ at. number_from (slice_set buckets index new) at part) same.1
          ∙ ap look (slice_get-set_same buckets index new within)
          ∙ updates.0 (key_of_part part)
          ∙ ap (λ before. cond (is_same_key added part) (Some number) before) (sym (ap look was))
          ∙ ap (λ at. cond (is_same_key added part) (Some number) (number_from buckets at part)) (sym same.1)
      | inr other ↦
          ap look (slice_get-set_other buckets index (bucket_of count (part_of_slice part)) new other.1)
          ∙ ap (λ test. cond test (Some number) (number_from buckets (bucket_of count (part_of_slice part)) part))
          (sym (differs other.1 (is_same_key added part) refl))
    ] where
      look : Option Bucket → Option ℕ
      look found = option_and_then (λ bucket. get by_prefix bucket (key_of_part part)) found

      differs : bucket_of count (part_of_slice part) ≢ index → (test : Bool) → is_same_key added part ≡ test → test ≡ false
      differs other true same = absurd (other (ap (bucket_of count) (sym (same_part added part same)) ∙ sym chosen))
      differs other false same = refl
