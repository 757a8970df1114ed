use Rattle.std.specs.Prelude.{◌+◌, ◌-◌, ◌/◌, ◌%◌, ℕ, Bool, List, length, drop, Option, slice_get}
use Rattle.std.specs.Option.{option_and_then}
use Rattle.std.specs.Borrow.{Bor}
use Rattle.std.specs.BTreeMap.{get}
use Rattle.std.specs.Ordering.{is_eq}
use Rattle.bi_blob.specs.NamesByPrefix.{prefix_of_name, by_prefix}
use Rattle.bi_fdt.specs.declared.part_numbers.PartNumbers.{PartNumbers}

-- The numbers of parts of names, in many maps. A part is the number of the blocks after it, and its
-- bytes.

-- The key of a part in its map: the number of the blocks after it, its first bytes as a number, and
-- its bytes.
abbrev pub key_of_part : ℕ × Bor (List ℕ) → ℕ × ℕ × Bor (List ℕ)
key_of_part part = (part.0, prefix_of_name part.1.now, part.1)

-- Whether two parts have the same key, which is so if and only if they are equal.
abbrev pub is_same_key : ℕ × Bor (List ℕ) → ℕ × Bor (List ℕ) → Bool
is_same_key one other = is_eq (by_prefix (key_of_part one) (key_of_part other))

-- The index of the map that a part chooses, of this many maps: by its first and last eight bytes
-- and the number of the blocks after it.
abbrev pub bucket_of : (count : ℕ) → ℕ × List ℕ → ℕ
bucket_of count part =
    (prefix_of_name part.1 / 4 + prefix_of_name (drop (length part.1 - 8) part.1) / 4 + part.0 / 2)
    % count

-- The number of the maps.
abbrev pub bucket_count : PartNumbers → ℕ
bucket_count numbers = length numbers.buckets.items

-- The number of a part, if it has one: that in the map that the part chooses.
abbrev pub number_in : PartNumbers → ℕ × Bor (List ℕ) → Option ℕ
number_in numbers part =
    option_and_then (λ bucket. get by_prefix bucket (key_of_part part))
    (slice_get numbers.buckets.items (bucket_of (bucket_count numbers) (part.0, part.1.now)))
