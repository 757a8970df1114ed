use Rattle.std.proofs.Common.{◌≡◌, ℕ, zero, suc, Bool, true, false, cond, ◌==◌, ◌⊎◌, inl, inr, true≢false, T, List, [], ◌∷◌, map, Option}
use Rattle.std.proofs.Common.{Some, None, rules}
use Rattle.std.proofs.Common.{slice_get, bytes_eq, IsPermutation, Less, refl, sym, ap, ◌∙◌, nat_cmp, is_lt}
use Rattle.std.specs.Cmp.{unsigned_tied}
use Rattle.std.specs.FinMap.{get, nat_cmp-IsAntisymmetric}
use Rattle.std.specs.FinMap.Entries.{below_all, find, is_sorted, same_entries}
use Rattle.std.specs.List.{AllByRecursion}
use Rattle.std.specs.List.Sorted.{IsStrictlySortedBy}
use Rattle.std.specs.Map.{keys_of, lookup}
use Rattle.std.specs.Ordering.{eq_by_cmp}
use Rattle.std.proofs.lemmas.Bool.Decides.{Decides-eqb}
use Rattle.std.proofs.lemmas.Cmp.{nat_cmp_total}
use Rattle.std.proofs.lemmas.Map.Keys.{sorted_head, sorted_tail}
use Rattle.std.proofs.lemmas.Map.Text.{is_eq-slice_cmp}
use Rattle.std.proofs.lemmas.Option.{same_Some}
use Rattle.std.proofs.lemmas.Slice.Eq.{bytes_eq-Decides}
use Rattle.bi_blob.specs.Tree.{FileNode, AreDistinct, property_of}
use Rattle.bi_blob.proofs.Texts.NormalEvents.{both_hold}
use Rattle.bi_fdt.specs.Numbers.{HasNumber}
use Rattle.bi_fdt.specs.Order.{KeyedProperty, AreByNumber}
use Rattle.bi_fdt.proofs.ByName.{found_by_name}
use Rattle.bi_fdt.proofs.DistinctKeys.{one_name_each}
use Rattle.bi_fdt.proofs.DistinctNumbers.{one_number_of_name}
use Rattle.bi_fit.specs.declared.comparing.role.Role.{Role}
use Rattle.bi_fit.specs.declared.comparing.role.Role.TheVariants.{RootNode, RootChild, ImageNode, OtherNode}
use Rattle.bi_fit.specs.NormalNodes.{HasDistinctNames, properties_by_name}
use Rattle.bi_fit.specs.ComparedNodes.{is_compared, compared_properties, compared_values}
use Rattle.bi_fit.proofs.PayloadProperties.{same, get-without}

-- Properties of two nodes are the same by name if and only if they have the same values in the order of the numbers of their names.

-- ---- names and numbers

-- Each name has a number or none.
number_or_none : (name : List ℕ) (names : List (List ℕ)) →
    ((number : ℕ) × (slice_get names number ≡ Some name)) ⊎ ((number : ℕ) → slice_get names number ≡ Some name → ⊥)
number_or_none name [] = inr (λ number is. absurd cc)
number_or_none name (first ∷ later) = where_first (bytes_eq first name) refl (number_or_none name later)
  where
    after_first : (first ≡ name → ⊥) → ((number : ℕ) → slice_get later number ≡ Some name → ⊥) → (number : ℕ) →
        slice_get (first ∷ later) number ≡ Some name → ⊥
    after_first differs none zero is = differs (same_Some first name is)
    after_first differs none (suc number) is = none number is

    where_first : (b : Bool) → bytes_eq first name ≡ b →
        ((number : ℕ) × (slice_get later number ≡ Some name)) ⊎ ((number : ℕ) → slice_get later number ≡ Some name → ⊥) →
        ((number : ℕ) × (slice_get (first ∷ later) number ≡ Some name)) ⊎ ((number : ℕ) → slice_get (first ∷ later) number ≡ Some name → ⊥)
    where_first true is rest = inl (0, ap (λ n. Some n) ((bytes_eq-Decides first name).0 is))
    where_first false is (inl there) = inl (suc there.0, there.1)
    where_first false is (inr none) =
        inr (after_first (λ same. absurd (true≢false (sym ((bytes_eq-Decides first name).1 same) ∙ is))) none)

-- ---- values by name

-- The value of the first property of a name.
abbrev value_named : List ℕ → List KeyedProperty → Option (List ℕ)
value_named name [] = None
value_named name (one ∷ keyed) = cond (bytes_eq name one.1.name) (Some one.1.value) (value_named name keyed)

-- The properties that are compared of a node, by name.
get-compared : (role : Role) (own : FileNode) (name : List ℕ) →
    get (compared_properties role own) name ≡ cond (is_compared role name) (get (properties_by_name own) name) None
get-compared RootNode own name = refl
get-compared RootChild own name = refl
get-compared ImageNode own name = get-without (properties_by_name own) name
get-compared OtherNode own name = refl

-- Properties in any order have by a name what a look-up finds.
named_is : (name : List ℕ) (keyed : List KeyedProperty) →
    lookup (one_name_each name) (map (λ one. property_of one.1) keyed) ≡ value_named name keyed
named_is name [] = refl
named_is name (one ∷ keyed) = search (rules, is_eq-slice_cmp, named_is name keyed)

got : (role : Role) (own : FileNode) (keyed : List KeyedProperty) → HasDistinctNames own →
    IsPermutation own.properties (map (λ one. one.1) keyed) →
    (name : List ℕ) → get (compared_properties role own) name ≡ cond (is_compared role name) (value_named name keyed) None
got role own keyed distinct moved name =
    get-compared role own name
    ∙ ap (λ value. cond (is_compared role name) value None) (found_by_name own.properties keyed moved distinct name ∙ named_is name keyed)

-- ---- values in the order of numbers

-- A number that is below others is below their values.
below_values : (role : Role) (number : ℕ) (keyed : List KeyedProperty) → AllByRecursion (λ other. nat_cmp number other ≡ Less)
    (keys_of keyed) →
    T (below_all nat_cmp number (compared_values role keyed))
below_values role number [] below = tt
below_values role number (one ∷ keyed) below = search (rules, both_hold, is_lt, below_values role number keyed below.1)

-- The values are in the order of their numbers.
sorted_values : (role : Role) (keyed : List KeyedProperty) → IsStrictlySortedBy nat_cmp (keys_of keyed) →
    T (is_sorted nat_cmp (compared_values role keyed))
sorted_values role [] ascend = tt
sorted_values role (one ∷ keyed) ascend =
    let rest = sorted_values role keyed (sorted_tail nat_cmp one.0 (keys_of keyed) ascend) in
    elim (is_compared role one.1.name) as (λ b. T (is_sorted nat_cmp (cond b ((one.0, one.1.value) ∷ compared_values role keyed)
    (compared_values role keyed)))) [
      | true ↦ both_hold (below_all nat_cmp one.0 (compared_values role keyed)) (is_sorted nat_cmp (compared_values role keyed))
          (below_values role one.0 keyed (sorted_head nat_cmp one.0 (keys_of keyed) ascend)) rest
      | false ↦ rest
    ]

module _ (names : List (List ℕ)) (distinct : AreDistinct names) (role : Role) where
  -- Numbers are equal if and only if the names are.
  same_test : (number wanted : ℕ) (property_name name : List ℕ) → slice_get names number ≡ Some property_name →
      slice_get names wanted ≡ Some name → (wanted == number) ≡ bytes_eq name property_name
  same_test number wanted property_name name is wanted_is = search (rules, one_number_of_name)

  abbrev AreNumbered : List KeyedProperty → Type 0
  AreNumbered keyed = AllByRecursion (λ (one : KeyedProperty). HasNumber names one.1 one.0) keyed

  -- The value by the number of a name is the value of the name, if the name is compared.
  value-named : (keyed : List KeyedProperty) (wanted : ℕ) (name : List ℕ) → AreNumbered keyed → slice_get names wanted ≡ Some name →
      find nat_cmp wanted (compared_values role keyed) ≡ cond (is_compared role name) (value_named name keyed) None
  value-named [] wanted name numbered is = search rules
  value-named (one ∷ keyed) wanted name numbered is =
      where_same (bytes_eq name one.1.name) refl (is_compared role one.1.name) refl (value-named keyed wanted name numbered.1 is)
    where
      test : (b : Bool) → bytes_eq name one.1.name ≡ b → eq_by_cmp nat_cmp wanted one.0 ≡ b
      test b equal = unsigned_tied wanted one.0 ∙ same_test one.0 wanted one.1.name name numbered.0 is ∙ equal

      where_same : (b : Bool) → bytes_eq name one.1.name ≡ b → (c : Bool) → is_compared role one.1.name ≡ c →
          find nat_cmp wanted (compared_values role keyed) ≡ cond (is_compared role name) (value_named name keyed) None →
          find nat_cmp wanted (cond (is_compared role one.1.name) ((one.0, one.1.value) ∷ compared_values role keyed)
          (compared_values role keyed))
          ≡ cond (is_compared role name) (cond (bytes_eq name one.1.name) (Some one.1.value) (value_named name keyed)) None
      where_same true equal true compared rest =
          let own : is_compared role name ≡ true = ap (is_compared role) ((bytes_eq-Decides name one.1.name).0 equal) ∙ compared in
          rw (compared, test true equal, equal, own) refl
      where_same true equal false compared rest =
          let own : is_compared role name ≡ false = ap (is_compared role) ((bytes_eq-Decides name one.1.name).0 equal) ∙ compared in
          rw (compared, own) (rest ∙ ap (λ b. cond b (value_named name keyed) None) own)
      where_same false equal true compared rest = rw (compared, test false equal, equal) rest
      where_same false equal false compared rest = rw (compared, equal) rest

  -- No property has a number that is of no name,
  value-no_name : (keyed : List KeyedProperty) (wanted : ℕ) → AreNumbered keyed → slice_get names wanted ≡ None →
      find nat_cmp wanted (compared_values role keyed) ≡ None
  value-no_name [] wanted numbered is = refl
  value-no_name (one ∷ keyed) wanted numbered is = search (rules, Decides-eqb, value-no_name keyed wanted numbered.1 is)

  -- nor a name that has no number.
  value-no_number : (keyed : List KeyedProperty) (name : List ℕ) → AreNumbered keyed →
      ((number : ℕ) → slice_get names number ≡ Some name → ⊥) → value_named name keyed ≡ None
  value-no_number [] name numbered none = refl
  value-no_number (one ∷ keyed) name numbered none = search (rules, bytes_eq-Decides, value-no_number keyed name numbered.1 none)

  module _ (own other : FileNode) (keyed other_keyed : List KeyedProperty) (distinct_own : HasDistinctNames own)
      (distinct_other : HasDistinctNames other) (are : AreByNumber names own.properties keyed)
      (other_are : AreByNumber names other.properties other_keyed) where
    -- The properties that are compared are the same by name if their values are,
    pub same_by_name : compared_values role keyed ≡ compared_values role other_keyed →
        compared_properties role own ≡ compared_properties role other
    same_by_name equal = same (compared_properties role own) (compared_properties role other) (λ name. by_number name
        (number_or_none name names))
      where
        by_number : (name : List ℕ) →
            ((number : ℕ) × (slice_get names number ≡ Some name)) ⊎ ((number : ℕ) → slice_get names number ≡ Some name → ⊥) →
            get (compared_properties role own) name ≡ get (compared_properties role other) name
        by_number name (inl there) =
            got role own keyed distinct_own are.permutation name
            ∙ sym (value-named keyed there.0 name are.numbered there.1)
            ∙ ap (find nat_cmp there.0) equal
            ∙ value-named other_keyed there.0 name other_are.numbered there.1
            ∙ sym (got role other other_keyed distinct_other other_are.permutation name)
        by_number name (inr none) =
            got role own keyed distinct_own are.permutation name
            ∙ ap (λ value. cond (is_compared role name) value None)
            (value-no_number keyed name are.numbered none ∙ sym (value-no_number other_keyed name other_are.numbered none))
            ∙ sym (got role other other_keyed distinct_other other_are.permutation name)

    -- and only then.
    pub same_by_number : compared_properties role own ≡ compared_properties role other →
        compared_values role keyed ≡ compared_values role other_keyed
    same_by_number equal =
        same_entries nat_cmp nat_cmp_total nat_cmp-IsAntisymmetric (compared_values role keyed) (compared_values role other_keyed)
        (sorted_values role keyed are.ascending) (sorted_values role other_keyed other_are.ascending)
        (λ wanted. by_name wanted (slice_get names wanted) refl)
      where
        by_name : (wanted : ℕ) (name : Option (List ℕ)) → slice_get names wanted ≡ name →
            find nat_cmp wanted (compared_values role keyed) ≡ find nat_cmp wanted (compared_values role other_keyed)
        by_name wanted None is = value-no_name keyed wanted are.numbered is ∙ sym (value-no_name other_keyed wanted other_are.numbered is)
        by_name wanted (Some name) is =
            value-named keyed wanted name are.numbered is
            ∙ sym (got role own keyed distinct_own are.permutation name)
            ∙ ap (λ m. get m name) equal
            ∙ got role other other_keyed distinct_other other_are.permutation name
            ∙ sym (value-named other_keyed wanted name other_are.numbered is)
