use Rattle.std.proofs.Common.{◌≡◌, ℕ, ◌<◌, List, [], ◌∷◌, map, Bor, IsPermutation, length}
use Rattle.std.proofs.Common.{refl, sym, ap, ap₂, subst, ◌∙◌, nat_cmp, arith}
use Rattle.std.specs.Prelude.{nat_eq, slice_index_or}
use Rattle.std.specs.Cmp.{nat_eq_equiv}
use Rattle.std.specs.Cmp.Lexicographic.{slice_cmp}
use Rattle.std.specs.List.{AllByRecursion, AllZip}
use Rattle.std.specs.List.Sorted.{IsNonDecreasing, IsNonDecreasingBy, IsStrictlySortedBy}
use Rattle.std.specs.Map.{keys_of}
use Rattle.std.proofs.lemmas.List.{get_or-map, length-map}
use Rattle.std.proofs.lemmas.List.Elements.{All-from_recursion, recursion_from_All}
use Rattle.std.proofs.lemmas.List.Sorted.{All-permutation, IsPermutation-map}
use Rattle.std.proofs.lemmas.Map.Keys.{sorted_from_strictly_increasing, IsDistinct-IsPermutation, IsStrictlyIncreasing-from_distinct}
use Rattle.std.proofs.lemmas.Option.{get_or_from_slice_get, slice_get-get_or, slice_get_within}
use Rattle.bi_blob.specs.Tree.{AreDistinct, FileProperty, Property, property_of}
use Rattle.bi_fdt.specs.Numbers.{HasNumber, IsNumberOf}
use Rattle.bi_fdt.specs.Order.{KeyedProperty, sorted_properties}
use Rattle.bi_fdt.proofs.ByName.{by_rank_by_name}
use Rattle.bi_fdt.proofs.DistinctNumbers.{distinct_numbers}
use Rattle.bi_lay.specs.Contents.{name_numbered}
use Rattle.bi_tree.specs.Properties.{TreePropertyModel, own_property_names, without_numbers}
use Rattle.bi_plain.specs.Ranked.{AreRanked, named_entries, ranked_values, sorted_own, values_by_rank}

-- Properties in the order of the ranks of their names are in byte order of their names.

abbrev Entry : Type 0
Entry = ℕ × Bor (List ℕ)

module _ (names : List (List ℕ)) where
  -- An entry as a property of a file, after its rank.
  abbrev property_at : Entry → FileProperty
  property_at entry = record { name = name_numbered names entry.0; value = entry.1.now; place = 0 }

  abbrev keyed_at : Entry → KeyedProperty
  keyed_at entry = (entry.0, property_at entry)

  named-keyed : (entries : List Entry) →
      map (λ (one : KeyedProperty). property_of one.1) (map keyed_at entries) ≡ named_entries names entries
  named-keyed [] = refl
  named-keyed (entry ∷ entries) = ap (λ l. (name_numbered names entry.0, entry.1.now) ∷ l) (named-keyed entries)

  named-properties : (entries : List Entry) → map property_of (map property_at entries) ≡ named_entries names entries
  named-properties [] = refl
  named-properties (entry ∷ entries) = ap (λ l. (name_numbered names entry.0, entry.1.now) ∷ l) (named-properties entries)

  properties-keyed : (entries : List Entry) → map (λ (one : KeyedProperty). one.1) (map keyed_at entries) ≡ map property_at entries
  properties-keyed [] = refl
  properties-keyed (entry ∷ entries) = ap (λ l. property_at entry ∷ l) (properties-keyed entries)

  keys-keyed : (entries : List Entry) → keys_of (map keyed_at entries) ≡ map (λ (entry : Entry). entry.0) entries
  keys-keyed [] = refl
  keys-keyed (entry ∷ entries) = ap (λ l. entry.0 ∷ l) (keys-keyed entries)

  -- The ranks are those of names.
  abbrev IsWithin : Entry → Type 0
  IsWithin entry = entry.0 < length names

  numbers-keyed : (entries : List Entry) → AllByRecursion IsWithin entries →
      AllByRecursion (λ (one : KeyedProperty). HasNumber names one.1 one.0) (map keyed_at entries)
  numbers-keyed [] all = tt
  numbers-keyed (entry ∷ entries) all = (slice_get-get_or names entry.0 [] all.0, numbers-keyed entries all.1)

  numbers-zip : (entries : List Entry) → AllByRecursion IsWithin entries →
      AllZip (HasNumber names) (map property_at entries) (map (λ (entry : Entry). entry.0) entries)
  numbers-zip [] all = tt
  numbers-zip (entry ∷ entries) all = (slice_get-get_or names entry.0 [] all.0, numbers-zip entries all.1)

  all_moved : (entries moved : List Entry) → IsPermutation entries moved → AllByRecursion IsWithin entries → AllByRecursion IsWithin moved
  all_moved entries moved move all =
      recursion_from_All IsWithin moved (All-permutation IsWithin entries moved move (All-from_recursion IsWithin entries all))

  keys_in_order : (entries : List Entry) → IsNonDecreasingBy (λ entry. entry.0) entries →
      IsNonDecreasing (map (λ (entry : Entry). entry.0) entries)
  keys_in_order [] rising i j d least within = absurd (omega arith)
  keys_in_order (entry ∷ entries) rising i j d least within =
      let all = entry ∷ entries in
      let short : j < length all = omega (arith, length-map all (λ (entry : Entry). entry.0)) in
      omega (
        arith,
        get_or-map (λ (entry : Entry). entry.0) all i entry d (omega arith),
        get_or-map (λ (entry : Entry). entry.0) all j entry d short,
        rising i j entry least short,
      )

  -- Entries in order are the properties in byte order, if their names are distinct.
  entries_in_order : (entries moved : List Entry) → IsStrictlySortedBy (slice_cmp nat_cmp) names → AllByRecursion IsWithin entries →
      AreDistinct (map (λ property. property.0) (named_entries names entries)) → IsPermutation entries moved →
      IsNonDecreasingBy (λ entry. entry.0) moved → named_entries names moved ≡ sorted_properties (named_entries names entries)
  entries_in_order entries moved ascend within distinct move rising =
      let apart : AreDistinct (map (λ property. property.0) (map property_of (map property_at entries))) =
      subst (λ l. AreDistinct (map (λ property. property.0) l)) (sym (named-properties entries)) distinct in
      sym (named-keyed moved)
      ∙ by_rank_by_name names (map property_at entries) (map keyed_at moved) ascend apart
      (record {
        permutation = subst (IsPermutation (map property_at entries)) (sym (properties-keyed moved))
            (IsPermutation-map property_at entries moved move);
        numbered = numbers-keyed moved (all_moved entries moved move within);
        ascending = subst (λ l. IsStrictlySortedBy nat_cmp l) (sym (keys-keyed moved))
            (sorted_from_strictly_increasing (map (λ (entry : Entry). entry.0) moved)
            (IsStrictlyIncreasing-from_distinct (map (λ (entry : Entry). entry.0) moved) (keys_in_order moved rising)
            (IsDistinct-IsPermutation nat_eq nat_eq_equiv.symm (map (λ (entry : Entry). entry.0) entries)
            (map (λ (entry : Entry). entry.0) moved) (IsPermutation-map (λ (entry : Entry). entry.0) entries moved move)
            (distinct_numbers names (map property_at entries) (map (λ (entry : Entry). entry.0) entries) apart
            (numbers-zip entries within)))));
      })
      ∙ ap sorted_properties (named-properties entries)

  -- The entries of properties have their names,
  module _ (ranks : List ℕ) where
    entries_named : (properties : List TreePropertyModel) (entries : List Entry) →
        AllByRecursion (λ property. IsNumberOf names property.name (slice_index_or ranks property.number 0)) properties →
        ranked_values entries ≡ values_by_rank ranks properties →
        (named_entries names entries ≡ without_numbers properties) × AllByRecursion IsWithin entries
    entries_named [] [] all are = (refl, tt)
    entries_named [] (entry ∷ entries) all are = absurd cc
    entries_named (property ∷ properties) [] all are = absurd cc
    entries_named (property ∷ properties) (entry ∷ entries) all are =
        let first : (entry.0, entry.1.now) ≡ (slice_index_or ranks property.number 0, property.value) = cc in
        let rank : entry.0 ≡ slice_index_or ranks property.number 0 = ap (λ (pair : ℕ × List ℕ). pair.0) first in
        let value : entry.1.now ≡ property.value = ap (λ (pair : ℕ × List ℕ). pair.1) first in
        let later : ranked_values entries ≡ values_by_rank ranks properties = cc in
        let rest = entries_named properties entries all.1 later in
        let there = subst (IsNumberOf names property.name) (sym rank) all.0 in (
          ap₂ (λ (first : Property) more. first ∷ more)
              (ap₂ (λ (name value : List ℕ). (name, value)) (get_or_from_slice_get names entry.0 property.name [] there) value)
              rest.0,
          (slice_get_within names entry.0 property.name there, rest.1),
        )

    names_left : (properties : List TreePropertyModel) →
        map (λ property. property.0) (without_numbers properties) ≡ own_property_names properties
    names_left [] = refl
    names_left (property ∷ properties) = ap (λ l. property.name ∷ l) (names_left properties)

    -- and are these in byte order after a sort.
    pub sorted_entries : (properties : List TreePropertyModel) (entries moved : List Entry) → IsStrictlySortedBy (slice_cmp nat_cmp) names →
        AreRanked names ranks properties → ranked_values entries ≡ values_by_rank ranks properties → IsPermutation entries moved →
        IsNonDecreasingBy (λ entry. entry.0) moved → named_entries names moved ≡ sorted_own properties
    sorted_entries properties entries moved ascend are is move rising =
        let named = entries_named properties entries are.ranked is in
        entries_in_order entries moved ascend named.1
        (subst (λ l. AreDistinct (map (λ property. property.0) l)) (sym named.0)
        (subst AreDistinct (sym (names_left properties)) are.distinct)) move rising
        ∙ ap sorted_properties named.0
