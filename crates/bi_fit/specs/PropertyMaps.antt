use Rattle.std.specs.Prelude.{◌≡◌, ℕ, ◌<◌, nat_le, suc, List, [], ◌∷◌, map, length, T}
use Rattle.std.specs.Prelude.{◌==◌, Bool, false, Option, None, Some, if◌then◌else◌}
use Rattle.std.specs.Cmp.Lexicographic.{slice_cmp}
use Rattle.std.specs.FinMap.{from_sorted, is_sorted}
use Rattle.std.specs.List.{AllByRecursion}
use Rattle.std.specs.List.Sorted.{IsStrictlySortedBy}
use Rattle.std.specs.Ordering.{nat_cmp}
use Rattle.bi_blob.specs.Tree.{Property}
use Rattle.bi_fdt.specs.Order.{KeyedProperty}
use Rattle.bi_lay.specs.Contents.{name_numbered}
use Rattle.bi_lay.specs.declared.items.Value.{Value}
use Rattle.bi_lay.specs.Values.{value_bytes}
use Rattle.bi_fit.specs.declared.document.property_map.PropertyMap.TheInside.{Inside as Fields}
use Rattle.bi_fit.specs.PropertyMapModels.{PropertyMapModel}

-- What the map of a node's properties holds, and what is true of it.

-- The names and values of properties. Each is given by the rank of its name.
abbrev pub named_values : List (List ℕ) → List (ℕ × Value) → List Property
named_values names entries =
    map (λ entry. (name_numbered names entry.0, value_bytes entry.1)) entries

-- The ranks are those of names.
abbrev pub AreRanksWithin : List (List ℕ) → List (ℕ × Value) → Type 0
AreRanksWithin names entries = AllByRecursion (λ entry. entry.0 < length names) entries

-- The entry has the rank and the value of this property. Its key is the rank.
abbrev pub IsEntryOf : KeyedProperty → ℕ × Value → Type 0
IsEntryOf keyed entry = (keyed.0 ≡ entry.0) × (keyed.1.value ≡ value_bytes entry.1)

-- What the fields show.
abbrev pub property_map_model : Fields → PropertyMapModel
property_map_model properties = record {
  names = properties.names.now;
  by_name = from_sorted (named_values properties.names.now properties.entries.items);
}

-- What is true of the fields: the names are in byte order, and the ranks ascend.
pub record IsConsistentMap (properties : Fields) : Type 0 where
  pub in_order : IsStrictlySortedBy (slice_cmp nat_cmp) properties.names.now
  pub within : AreRanksWithin properties.names.now properties.entries.items
  pub ascending : T (is_sorted nat_cmp properties.entries.items)

-- The index of the first entry with a rank that is not less, or the number of entries.
abbrev pub index_of_rank : List (ℕ × Value) → (rank : ℕ) → ℕ
index_of_rank [] rank = 0
index_of_rank (entry ∷ entries) rank =
    if nat_le rank entry.0 then 0 else suc (index_of_rank entries rank)

-- There is an entry, and it has this rank.
abbrev pub is_entry_ranked : Option (ℕ × Value) → (rank : ℕ) → Bool
is_entry_ranked None rank = false
is_entry_ranked (Some entry) rank = entry.0 == rank
