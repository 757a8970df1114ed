use Rattle.std.proofs.Common.{◌≡◌, ℕ, suc, ◌+◌, ◌<◌, List, [], ◌∷◌, ◌++◌, length, take, drop, get_or, Some, slice_get, All, Bor, rules}
use Rattle.std.proofs.Common.{IsPermutation, is_lt, inl, inr, refl, sym, ap, subst, ◌∙◌, arith, get_or-set_same, get_or-set_other}
use Rattle.std.proofs.Math.ListN.{set, drop_of_length-le}
use Rattle.std.proofs.Math.Seq.{drop-cons}
use Rattle.std.specs.Cmp.Lexicographic.{slice_cmp}
use Rattle.std.specs.List.{AllZip}
use Rattle.std.specs.List.Sorted.{IsSorted, IsSortedBy}
use Rattle.std.specs.Ordering.{nat_cmp, ordering_then}
use Rattle.std.proofs.lemmas.Bool.{cases_eq}
use Rattle.std.proofs.lemmas.Cmp.{nat_list_cmp_total, eq_by_cmp_equiv}
use Rattle.std.proofs.lemmas.List.{get_or_default, get_or-map, length-map, length-take-le, take_more}
use Rattle.std.proofs.lemmas.List.Elements.{All-cons, All-nil, All-push, All-tail}
use Rattle.std.proofs.lemmas.List.Sorted.{All-permutation, IsPermutation-map, IsPermutation-sym, length_permutation}
use Rattle.std.proofs.lemmas.Map.Keys.{IsDistinct-IsPermutation}
use Rattle.std.proofs.lemmas.Option.{slice_get-get_or, slice_get-map, slice_get_within}
use Rattle.std.specs.Option.{option_map}
use Rattle.bi_base.specs.Cells.{AreBytes}
use Rattle.bi_base.specs.Slices.{bytes_of}
use Rattle.bi_blob.specs.NamesByPrefix.{prefix_of_name}
use Rattle.bi_blob.specs.Tree.{AreDistinct}
use Rattle.bi_blob.proofs.NamePrefixes.{prefixes_keep_order}
use Rattle.bi_fdt.proofs.GrowingTables.{get_at}
use Rattle.bi_fdt.specs.Numbers.{IsNumberOf}
use Rattle.bi_fdt.specs.Ranks.{NumberedName, with_numbers_from, slices_in, names_in, IsOrderOfNames, AreRanksOf}
use Rattle.bi_fdt.proofs.NodeEntries.{drop-next}
use Rattle.bi_fdt.proofs.DistinctKeys.{distinct_ascend, first_not_less, one_name_each, names_stay_distinct}

-- Distinct names with their numbers, after a sort, are in byte order, and the index of each is its rank.

abbrev Slice : Type 0
Slice = Bor (List ℕ)

-- ---- names with their numbers

-- Names with their numbers, and then one more.
numbers-push : (number : ℕ) (names : List Slice) (name : Slice) →
    with_numbers_from number (names ++ name ∷ []) ≡ with_numbers_from number names ++
    (prefix_of_name name.now, name, number + length names) ∷ []
numbers-push number [] name = ap (λ n. (prefix_of_name name.now, name, n) ∷ []) (omega arith)
numbers-push number (first ∷ names) name = search (rules, numbers-push (number + 1) names name)

-- As many as there are names.
length-numbers : (number : ℕ) (names : List Slice) → length (with_numbers_from number names) ≡ length names
length-numbers number [] = refl
length-numbers number (name ∷ names) = ap suc (length-numbers (number + 1) names)

-- Their bytes are those of the names.
names_in-numbers : (number : ℕ) (names : List Slice) → names_in (with_numbers_from number names) ≡ bytes_of names
names_in-numbers number [] = refl
names_in-numbers number (name ∷ names) = ap (λ l. name.now ∷ l) (names_in-numbers (number + 1) names)

-- A name has its prefix, and its numbers are bytes.
abbrev pub HasItsPrefix : NumberedName → Type 0
HasItsPrefix one = (one.0 ≡ prefix_of_name one.1.now) × AreBytes one.1.now

-- Some names with their numbers and prefixes, and then the next.
pub order_more : (names : List Slice) (k : ℕ) (d : Slice) (prefix : ℕ) (order more : List NumberedName) → k < length names →
    order ≡ with_numbers_from 0 (take k names) → All HasItsPrefix order → prefix ≡ prefix_of_name (get_or names k d).now →
    AreBytes (get_or names k d).now → more ≡ order ++ (prefix, get_or names k d, k) ∷ [] →
    (more ≡ with_numbers_from 0 (take (k + 1) names)) × All HasItsPrefix more
order_more names k d prefix order more within are prefixes is bytes pushed =
    let name = get_or names k d in
    let long : 0 + length (take k names) ≡ k = omega (arith, length-take-le k names (omega arith)) in (
      pushed ∙ ap (λ l. l ++ (prefix, name, k) ∷ []) are
          ∙ ap (λ n. with_numbers_from 0 (take k names) ++ (n, name, k) ∷ []) is
          ∙ ap (λ n. with_numbers_from 0 (take k names) ++ (prefix_of_name name.now, name, n) ∷ []) (sym long)
          ∙ sym (numbers-push 0 (take k names) name)
          ∙ ap (with_numbers_from 0) (sym (take_more names k d within)),
      subst (All HasItsPrefix) (sym pushed) (All-push HasItsPrefix order (prefix, name, k) prefixes (is, bytes)),
    )

-- ---- in byte order

-- After a sort by prefix, name and number the names are in byte order.
sorted_names : (order : List NumberedName) → All HasItsPrefix order →
    IsSortedBy (λ a b. is_lt (ordering_then (ordering_then (nat_cmp a.0 b.0) (slice_cmp nat_cmp a.1.now b.1.now))
    (nat_cmp a.2 b.2))) order →
    IsSorted (slice_cmp nat_cmp) (names_in order)
sorted_names [] prefixes ascending k d least within = absurd (omega arith)
sorted_names (one ∷ order) prefixes ascending k d least within =
    let all = one ∷ order in
    let long : k + 1 < length all = omega (arith, length-map all (λ (one : NumberedName). one.1.now)) in
    let later = get_or all (k + 1) one in
    let sooner = get_or all k one in
    let later_has = prefixes (k + 1) one long in
    let sooner_has = prefixes k one (omega arith) in
    let same : ordering_then (nat_cmp later.0 sooner.0)
    (slice_cmp nat_cmp later.1.now sooner.1.now) ≡ slice_cmp nat_cmp later.1.now sooner.1.now =
    ap (λ n. ordering_then (nat_cmp n sooner.0) (slice_cmp nat_cmp later.1.now sooner.1.now)) later_has.0
    ∙ ap (λ n. ordering_then (nat_cmp (prefix_of_name later.1.now) n) (slice_cmp nat_cmp later.1.now sooner.1.now)) sooner_has.0
    ∙ prefixes_keep_order later.1.now sooner.1.now later_has.1 sooner_has.1 in
    (λ i. is_lt (slice_cmp nat_cmp (get_or-map (λ (one : NumberedName). one.1.now) all (k + 1) one d long i)
    (get_or-map (λ (one : NumberedName). one.1.now) all k one d (omega arith) i)))
    ∙ ap is_lt (sym same)
    ∙ first_not_less _ (nat_cmp later.2 sooner.2) (ascending k one least long)

-- The names are the same, in another order.
pub same_sorted_names : (names : List Slice) (order : List NumberedName) → IsPermutation (with_numbers_from 0 names) order →
    IsPermutation (bytes_of names) (names_in order)
same_sorted_names names order moved = search (rules, names_in-numbers, IsPermutation-map)

-- Distinct names with their numbers are in byte order after the sort.
pub order_sorted : (names : List Slice) (order sorted : List NumberedName) → AreDistinct (bytes_of names) →
    order ≡ with_numbers_from 0 names → All HasItsPrefix order → IsPermutation order sorted →
    IsSortedBy (λ a b. is_lt (ordering_then (ordering_then (nat_cmp a.0 b.0) (slice_cmp nat_cmp a.1.now b.1.now))
    (nat_cmp a.2 b.2))) sorted →
    IsOrderOfNames names sorted
order_sorted names order sorted distinct are prefixes moved ascending =
    let from_names : IsPermutation (with_numbers_from 0 names) sorted = subst (λ l. IsPermutation l sorted) are moved in
    record {
      permutation = from_names;
      in_order = distinct_ascend nat_list_cmp_total (names_in sorted)
          (sorted_names sorted (All-permutation HasItsPrefix order sorted moved prefixes) ascending)
          (IsDistinct-IsPermutation one_name_each (eq_by_cmp_equiv nat_list_cmp_total).symm (bytes_of names) (names_in sorted)
          (same_sorted_names names sorted from_names) (names_stay_distinct (bytes_of names) distinct));
    }

-- There are as many.
pub length_order : (names : List Slice) (order : List NumberedName) → IsPermutation (with_numbers_from 0 names) order →
    length order ≡ length names
length_order names order moved = length_permutation (with_numbers_from 0 names) order moved ∙ length-numbers 0 names

-- ---- the rank of each number

-- A number is that of its name among these.
abbrev IsNumbered : List (List ℕ) → NumberedName → Type 0
IsNumbered names one = slice_get names one.2 ≡ Some one.1.now

numbered_from : (all : List (List ℕ)) (number : ℕ) (names : List Slice) → drop number all ≡ bytes_of names →
    All (IsNumbered all) (with_numbers_from number names)
numbered_from all number [] here = All-nil (IsNumbered all)
numbered_from all number (name ∷ names) here =
    let next : number + 1 ≡ number + 1 + 0 = omega arith in
    All-cons (IsNumbered all) (prefix_of_name name.now, name, number) (with_numbers_from (number + 1) names)
    (get_at all (bytes_of names) number name.now here)
    (numbered_from all (number + 1) names (ap (λ n. drop n all) next ∙ drop-next all (bytes_of names) number 0 name.now here))

pub all_numbered : (names : List Slice) (order : List NumberedName) → IsPermutation (with_numbers_from 0 names) order →
    All (IsNumbered (bytes_of names)) order
all_numbered names order moved = search (rules, All-permutation, numbered_from)

-- So each is less than their count.
pub number_in_order_within : (names : List Slice) (order : List NumberedName) → IsPermutation (with_numbers_from 0 names) order →
    (count : ℕ) → count ≡ length order → (k : ℕ) (d : NumberedName) → k < length order → (get_or order k d).2 < count
number_in_order_within names order moved count is k d within =
    let below : (get_or order k d).2 < length (bytes_of names) =
    slice_get_within (bytes_of names) (get_or order k d).2 (get_or order k d).1.now (all_numbered names order moved k d within) in
    omega (arith, below, length-map names (λ (slice : Slice). slice.now), length_order names order moved)

-- The rank at the number of a name is that of the name.
abbrev pub HasRank : List (List ℕ) → List ℕ → NumberedName → Type 0
HasRank sorted ranks one = slice_get sorted (get_or ranks one.2 0) ≡ Some one.1.now

-- A rank is written at the number of the next name, and others stay.
pub rank_more : (names : List Slice) (order : List NumberedName) (ranks : List ℕ) (k : ℕ) (e : NumberedName) →
    IsPermutation (with_numbers_from 0 names) order → length ranks ≡ length order → k < length order →
    ((j : ℕ) (d : NumberedName) → j < k → HasRank (names_in order) ranks (get_or order j d)) →
    (j : ℕ) (d : NumberedName) → j < k + 1 → HasRank (names_in order) (set ranks (get_or order k e).2 k) (get_or order j d)
rank_more names order ranks k e moved long within are j d before = elim (cases_eq (get_or order j d).2 number) [
  | inl same ↦ ap (λ n. slice_get (names_in order) (get_or (set ranks number k) n 0)) same
      ∙ ap (slice_get (names_in order)) (get_or-set_same ranks number k 0 here) ∙ there
      ∙ sym (all_numbered names order moved k e within) ∙ ap (slice_get (bytes_of names)) (sym same)
      ∙ all_numbered names order moved j d (omega arith)
  | inr apart ↦ ap (slice_get (names_in order)) (get_or-set_other ranks number (get_or order j d).2 k 0 apart)
      ∙ are j d (earlier apart)
] where
  number : ℕ
  number = (get_or order k e).2

  here : number < length ranks
  here = number_in_order_within names order moved (length ranks) long k e within

  there : slice_get (names_in order) k ≡ Some (get_or order k e).1.now
  there =
      slice_get-map (λ (one : NumberedName). one.1.now) order k
      ∙ ap (option_map (λ (one : NumberedName). one.1.now)) (slice_get-get_or order k e within)

  earlier : ((get_or order j d).2 ≡ number → ⊥) → j < k
  earlier apart = elim (cases_eq j k) [
    | inl same ↦ absurd (apart (ap (λ i. (get_or order i d).2) same
        ∙ ap (λ (one : NumberedName). one.2) (get_or_default order k d e within)))
    | inr other ↦ omega arith
  ]

-- In the end each name has its rank at its number.
ranked_from : (sorted : List (List ℕ)) (ranks : List ℕ) (number : ℕ) (names : List Slice) → number + length names ≡ length ranks →
    All (HasRank sorted ranks) (with_numbers_from number names) → AllZip (IsNumberOf sorted) (bytes_of names) (drop number ranks)
ranked_from sorted ranks number [] long all =
    subst (λ l. AllZip (IsNumberOf sorted) [] l) (sym (drop_of_length-le ranks (omega arith))) tt
ranked_from sorted ranks number (name ∷ names) long all =
    let next : number + 1 ≡ suc number = omega arith in
    subst (λ l. AllZip (IsNumberOf sorted) (name.now ∷ bytes_of names) l) (sym (drop-cons ranks number 0 (omega arith))) (
      all 0 (0, name, 0) (omega arith),
      subst (λ n. AllZip (IsNumberOf sorted) (bytes_of names) (drop n ranks)) next
          (ranked_from sorted ranks (number + 1) names (omega arith)
          (All-tail (HasRank sorted ranks) (prefix_of_name name.now, name, number) (with_numbers_from (number + 1) names) all)),
    )

pub all_ranked : (names : List Slice) (order : List NumberedName) (ranks : List ℕ) (k : ℕ) →
    IsPermutation (with_numbers_from 0 names) order →
    length ranks ≡ length order → k ≡ length order →
    ((j : ℕ) (d : NumberedName) → j < k → HasRank (names_in order) ranks (get_or order j d)) →
    AllZip (IsNumberOf (names_in order)) (bytes_of names) ranks
all_ranked names order ranks k moved long last are =
    ranked_from (names_in order) ranks 0 names (omega (arith, length_order names order moved))
    (All-permutation (HasRank (names_in order) ranks) order (with_numbers_from 0 names) (IsPermutation-sym
    (with_numbers_from 0 names) order moved)
    (λ j d within. are j d (omega arith)))

-- ---- both together

bytes_of-slices : (order : List NumberedName) → bytes_of (slices_in order) ≡ names_in order
bytes_of-slices [] = refl
bytes_of-slices (one ∷ order) = ap (λ l. one.1.now ∷ l) (bytes_of-slices order)

-- The names in this order, and their ranks by it.
pub ranks_are : (names : List Slice) (order here there : List NumberedName) (sorted : List Slice) (ranks : List ℕ) →
    IsOrderOfNames names order →
    here ≡ order → sorted ≡ slices_in here → there ≡ order → AllZip (IsNumberOf (names_in there)) (bytes_of names) ranks →
    AreRanksOf (bytes_of names) (bytes_of sorted) ranks
ranks_are names order here there sorted ranks is same are other ranked = search (rules, bytes_of-slices, same_sorted_names)
