use Rattle.std.specs.Prelude.{ℕ, ◌==◌, ◌||◌, Bool, List, [], ◌∷◌, ◌++◌, fold, if◌then◌else◌}
use Rattle.std.specs.Cmp.Lexicographic.{slice_cmp}
use Rattle.std.specs.Ordering.{nat_cmp}
use Rattle.std.specs.List.Sorted.{IsStrictlySortedBy}
use Rattle.bi_blob.specs.Layout.{is_among}
use Rattle.bi_fdt.specs.Numbers.{IsNumberOf}
use Rattle.bi_fit.specs.declared.property_names.ChangedNumbers.{ChangedNumbers}
use Rattle.bi_fit.specs.Names.{data_name, data_offset_name, data_position_name, data_size_name}
use Rattle.bi_fit.specs.Names.{timestamp_name, value_name}

-- The names of the properties that a text may have, and those of them that it adds, changes or
-- leaves out.

-- The names of the properties that a text adds, changes or leaves out.
abbrev pub changed_names : List (List ℕ)
changed_names =
    data_name ∷ data_offset_name ∷ data_position_name ∷ data_size_name ∷ timestamp_name
    ∷ value_name ∷ []

-- These are their numbers among some names.
pub record AreChangedNumbers (names : List (List ℕ)) (numbers : ChangedNumbers) : Type 0 where
  pub payload : IsNumberOf names data_name numbers.payload
  pub offset : IsNumberOf names data_offset_name numbers.offset
  pub position : IsNumberOf names data_position_name numbers.position
  pub size : IsNumberOf names data_size_name numbers.size
  pub time : IsNumberOf names timestamp_name numbers.time
  pub digest : IsNumberOf names value_name numbers.digest

-- The names are in byte order, each once, and these are the ranks of those that a text adds,
-- changes or leaves out.
pub record AreRankedNames (names : List (List ℕ)) (ranks : ChangedNumbers) : Type 0 where
  pub in_order : IsStrictlySortedBy (slice_cmp nat_cmp) names
  pub numbers : AreChangedNumbers names ranks

-- Names with one more, if it is not one of those of a file.
abbrev pub with_missing : (base names : List (List ℕ)) → (name : List ℕ) → List (List ℕ)
with_missing base names name = if is_among name base then names else names ++ name ∷ []

-- The names of a file, and those that a text adds, changes or leaves out.
abbrev pub with_changed_names : (base : List (List ℕ)) → List (List ℕ)
with_changed_names base = fold (with_missing base) base changed_names

-- Whether this is the rank of a property that holds a payload or names its region.
abbrev pub is_payload_rank : ChangedNumbers → ℕ → Bool
is_payload_rank ranks rank =
    (rank == ranks.payload)
    || ((rank == ranks.offset) || ((rank == ranks.position) || (rank == ranks.size)))
