use Rattle.std.specs.Prelude.{◌≡◌, ◌+◌, ◌-◌, ◌/◌, ◌%◌, ◌<◌, ℕ, Bool, false, List, length, drop}
use Rattle.std.specs.Prelude.{Option, None, Some, slice_get}
use Rattle.std.specs.Borrow.{Bor}
use Rattle.std.specs.BTreeSet.{BTreeSet, contains}
use Rattle.std.specs.Cmp.Lexicographic.{slice_cmp}
use Rattle.std.specs.Ordering.{nat_cmp}
use Rattle.bi_blob.specs.Layout.{is_among}
use Rattle.bi_blob.specs.NamesByPrefix.{prefix_of_name}

-- Sets of names, of which each name chooses one.

-- The index of the set that a name chooses, of this many: by its last sixteen bytes.
abbrev pub bucket_of_name : (count : ℕ) → (name : List ℕ) → ℕ
bucket_of_name count name =
    (prefix_of_name (drop (length name - 16) name) / 2
    + prefix_of_name (drop (length name - 8) name) / 2)
    % count

-- Whether a set has a name. There may be no set.
abbrev pub set_has_name : Option (BTreeSet (Bor (List ℕ))) → Bor (List ℕ) → Bool
set_has_name None name = false
set_has_name (Some set) name = contains (λ x y. slice_cmp nat_cmp x.now y.now) set name

-- There are sets, and a name is in the one that it chooses if and only if it is among these.
pub record HaveNames (sets : List (BTreeSet (Bor (List ℕ)))) (held : List (List ℕ)) : Type 0 where
  pub some : 0 < length sets
  pub each : (name : Bor (List ℕ))
      → set_has_name (slice_get sets (bucket_of_name (length sets) name.now)) name
      ≡ is_among name.now held
