use Rattle.std.specs.Prelude.{◌≡◌, ℕ, List, length}
use Rattle.std.specs.Prelude.{Option, Some, None, slice_index_or}
use Rattle.bi_base.specs.Slices.{bytes_of}
use Rattle.bi_lay.specs.declared.numbered_names.NumberedNames.TheInside.{Inside}
use Rattle.bi_lay.specs.Contents.{name_numbered}
use Rattle.bi_lay.specs.Names.{with_name, offset_among}

-- The names of properties. Some of them have numbers.

-- The names that have numbers, in the order of these, and those that the strings block has, in the
-- order of their first use.
pub record NumberedNames : Type 0 where
  pub by_number : List (List ℕ)
  pub in_block : List (List ℕ)

-- The names after one more use.
abbrev pub with_use : NumberedNames → List ℕ → NumberedNames
with_use names name = record names { in_block = with_name names.in_block name }

-- The names that the fields hold.
abbrev pub numbered_names : Inside → NumberedNames
numbered_names names = record {
  by_number = bytes_of names.by_number.items;
  in_block = names.in_block;
}

-- An offset that is known is that of the name of its number, which the strings block has.
abbrev pub AreKnownOffsets : NumberedNames → List (Option ℕ) → Type 0
AreKnownOffsets names offsets =
    (number offset : ℕ)
    → slice_index_or offsets number None ≡ Some offset
    → offset_among names.in_block (name_numbered names.by_number number) ≡ Some offset

-- What is true of the fields.
pub record AreNumberedNames (names : Inside) : Type 0 where
  pub count : length names.offsets.items ≡ length names.by_number.items
  pub known : AreKnownOffsets (numbered_names names) names.offsets.items
