use Rattle.std.specs.Prelude.{◌≡◌, ℕ, List, ◌++◌, take, replicate}
use Rattle.std.specs.Int.{from_be_bytes, w64}
use Rattle.std.specs.declared.cmp.Ordering.{Ordering}
use Rattle.std.specs.Ordering.{nat_cmp, ordering_then}
use Rattle.std.specs.Cmp.Lexicographic.{slice_cmp}
use denote.Ref.{Bor}
use Rattle.bi_base.specs.Cells.{AreBytes}

-- Names with a number and with their first bytes as another, so that names that differ in one of
-- these are compared without reading them.

-- The first eight bytes of a name as a number, the highest byte first, with zeros after a shorter
-- name.
unfoldable pub prefix_of_name : List ℕ → ℕ
prefix_of_name name = from_be_bytes w64 (take 8 (name ++ replicate 8 0))

-- The order of names by a number, then by their first bytes, and, if both are the same, by all
-- their bytes.
abbrev pub by_prefix : ℕ × ℕ × Bor (List ℕ) → ℕ × ℕ × Bor (List ℕ) → Ordering
by_prefix x y = ordering_then (ordering_then (nat_cmp x.0 y.0) (nat_cmp x.1 y.1))
    (slice_cmp nat_cmp x.2.now y.2.now)

-- Names in the order of their prefixes, and names with the same prefix in the order of their bytes,
-- are in byte order.
abbrev pub PrefixesKeepByteOrder : Type 0
PrefixesKeepByteOrder = (one other : List ℕ) → AreBytes one → AreBytes other →
    ordering_then (nat_cmp (prefix_of_name one) (prefix_of_name other))
    (slice_cmp nat_cmp one other) ≡ slice_cmp nat_cmp one other
