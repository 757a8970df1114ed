use Rattle.std.proofs.Common.{◌≡◌, ℕ, T, List, [], ◌∷◌, map, Less, is_lt, refl, sym, ap, ap₂, subst, ◌∙◌, nat_cmp, rules}
use Rattle.std.specs.Cmp.Lexicographic.{slice_cmp}
use Rattle.std.specs.FinMap.{from_sorted, from_entries, is_sorted, same_entries_map, entries-from_sorted}
use Rattle.std.specs.FinMap.Entries.{below_all}
use Rattle.std.specs.List.{AllByRecursion, AllZip}
use Rattle.std.specs.List.Sorted.{IsStrictlySortedBy}
use Rattle.std.specs.Map.{keys_of}
use Rattle.std.proofs.lemmas.Map.Keys.{sorted_head, sorted_tail}
use Rattle.std.proofs.lemmas.Option.{get_or_from_slice_get, slice_get_within}
use Rattle.bi_blob.specs.Tree.{Property, property_of}
use Rattle.bi_blob.proofs.Texts.NormalEvents.{both_hold}
use Rattle.bi_lay.specs.Contents.{name_numbered}
use Rattle.bi_lay.specs.declared.items.Value.{Value}
use Rattle.bi_fdt.specs.Numbers.{HasNumber}
use Rattle.bi_fdt.specs.Order.{KeyedProperty, sorted_properties}
use Rattle.bi_fit.specs.PropertyMaps.{named_values, AreRanksWithin, IsEntryOf}
use Rattle.bi_fit.proofs.RankedProperties.{named_in_order}

-- The entries of the properties of a node are the properties by name. Their keys are the ranks of their names.

-- A rank that is before the keys of properties is before their entries.
below_entries : (rank : ℕ) (keyed : List KeyedProperty) (items : List (ℕ × Value)) → AllZip IsEntryOf keyed items →
    AllByRecursion (λ other. nat_cmp rank other ≡ Less) (keys_of keyed) → T (below_all nat_cmp rank items)
below_entries rank [] [] are below = tt
below_entries rank [] (item ∷ items) are below = absurd are
below_entries rank (one ∷ keyed) [] are below = absurd are
below_entries rank (one ∷ keyed) (item ∷ items) are below = search (rules, both_hold, is_lt, below_entries rank keyed items are.1 below.1)

-- Entries of properties in the order of their keys are in order.
pub entries_ascend : (keyed : List KeyedProperty) (items : List (ℕ × Value)) → AllZip IsEntryOf keyed items →
    IsStrictlySortedBy nat_cmp (keys_of keyed) → T (is_sorted nat_cmp items)
entries_ascend [] [] are ascend = tt
entries_ascend [] (item ∷ items) are ascend = absurd are
entries_ascend (one ∷ keyed) [] are ascend = absurd are
entries_ascend (one ∷ keyed) (item ∷ items) are ascend =
    both_hold (below_all nat_cmp item.0 items) (is_sorted nat_cmp items)
    (below_entries item.0 keyed items are.1
    (subst (λ rank. AllByRecursion (λ other. nat_cmp rank other ≡ Less) (keys_of keyed)) are.0.0
    (sorted_head nat_cmp one.0 (keys_of keyed) ascend)))
    (entries_ascend keyed items are.1 (sorted_tail nat_cmp one.0 (keys_of keyed) ascend))

module _ (names : List (List ℕ)) where
  -- Their ranks are those of names.
  pub entries_within : (keyed : List KeyedProperty) (items : List (ℕ × Value)) → AllZip IsEntryOf keyed items →
      AllByRecursion (λ one. HasNumber names one.1 one.0) keyed → AreRanksWithin names items
  entries_within [] [] are numbered = tt
  entries_within [] (item ∷ items) are numbered = absurd are
  entries_within (one ∷ keyed) [] are numbered = absurd are
  entries_within (one ∷ keyed) (item ∷ items) are numbered = search (rules, slice_get_within, entries_within keyed items are.1 numbered.1)

  -- They have the names and the values of the properties.
  entries_named : (keyed : List KeyedProperty) (items : List (ℕ × Value)) → AllZip IsEntryOf keyed items →
      AllByRecursion (λ one. HasNumber names one.1 one.0) keyed → named_values names items ≡ map (λ one. property_of one.1) keyed
  entries_named [] [] are numbered = refl
  entries_named [] (item ∷ items) are numbered = absurd are
  entries_named (one ∷ keyed) [] are numbered = absurd are
  entries_named (one ∷ keyed) (item ∷ items) are numbered =
      ap₂ (λ (first : Property) later. first ∷ later)
      (ap₂ (λ (name value : List ℕ). (name, value))
      (sym (ap (name_numbered names) are.0.0) ∙ get_or_from_slice_get names one.0 one.1.name [] numbered.0) (sym are.0.1))
      (entries_named keyed items are.1 numbered.1)

  -- So their map is the properties by name.
  pub entries_by_name : IsStrictlySortedBy (slice_cmp nat_cmp) names →
      (keyed : List KeyedProperty) (items : List (ℕ × Value)) → AllZip IsEntryOf keyed items →
      AllByRecursion (λ one. HasNumber names one.1 one.0) keyed → IsStrictlySortedBy nat_cmp (keys_of keyed) →
      (properties : List Property) → map (λ one. property_of one.1) keyed ≡ sorted_properties properties →
      from_sorted {R = slice_cmp nat_cmp} (named_values names items) ≡ from_entries properties
  entries_by_name ordered keyed items are numbered ascend properties sorted =
      same_entries_map _ _
      (entries-from_sorted (slice_cmp nat_cmp) (named_values names items)
      (named_in_order names ordered items (entries_within keyed items are numbered) (entries_ascend keyed items are ascend))
      ∙ entries_named keyed items are numbered ∙ sorted)
