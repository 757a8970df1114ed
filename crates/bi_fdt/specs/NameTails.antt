use Rattle.std.specs.Prelude.{◌≡◌, ℕ, zero, suc, ◌+◌, ◌-◌, ◌*◌, ◌/◌, ◌<◌, ◌≤◌, List, length}
use Rattle.std.specs.Prelude.{take, drop, Some, slice_get, slice_index_or}
use Rattle.std.specs.List.{AllZip}
use Rattle.bi_blob.specs.Tokens.{name_from}
use Rattle.bi_blob.specs.Tree.{AreDistinct}
use Rattle.bi_fdt.specs.NameParts.{NamePart, AreOnce, AreAfterTails}

-- Heads and tails of names. The tail of a name is all blocks of 64 bytes that the name ends with,
-- except the first. Its head is the bytes before them, fewer than 128. A tail is a list of parts
-- that have a block each, so that the numbers of two tails are equal if and only if the tails are.

-- The last blocks of a name have this number: 0 if there are none, and otherwise 1 more than the
-- number of the part that has the first of them.
abbrev pub AreBlocksNumbered : List NamePart → ℕ → ℕ → List ℕ → Type 0
AreBlocksNumbered tails zero number name = number ≡ 0
AreBlocksNumbered tails (suc count) number name =
    (later : ℕ) × (1 ≤ number)
    × (slice_get tails (number - 1)
    ≡ Some (later, take 64 (drop (length name - 64 * (count + 1)) name)))
    × AreBlocksNumbered tails count later name

-- The blocks that a name ends with have this number together.
abbrev pub AreAllBlocks : List NamePart → ℕ → List ℕ → Type 0
AreAllBlocks tails number name = AreBlocksNumbered tails (length name / 64) number name

-- The tail of a name has this number.
abbrev pub IsTail : List NamePart → ℕ → List ℕ → Type 0
IsTail tails number name = AreBlocksNumbered tails (length name / 64 - 1) number name

-- The name at each of the first multiples of 64 has one of these numbers, which is that of its
-- blocks together. The last name comes first.
pub record AreBlockNumbers (tails : List NamePart) (strings : List ℕ) (numbers : List ℕ) : Type 0
  where
    pub count : length numbers ≡ length strings / 64 + 1
    pub each : (index : ℕ) (d : ℕ) → index < length numbers → AreAllBlocks tails
        (slice_index_or numbers index d) (name_from strings (64 * (length numbers - 1 - index)))

-- The length of the head of a name.
abbrev pub head_length : List ℕ → ℕ
head_length name = length name - 64 * (length name / 64 - 1)

-- A part has the head of a name, and the number of its tail.
pub record IsHead (tails : List NamePart) (part : NamePart) (name : List ℕ) : Type 0 where
  pub head : part.1 ≡ take (head_length name) name
  pub tail : IsTail tails part.0 name

-- These are the heads of distinct names.
pub record AreHeads (tails heads : List NamePart) (names : List (List ℕ)) : Type 0 where
  pub tails_once : AreOnce tails
  pub tails_order : AreAfterTails tails
  pub heads_once : AreOnce heads
  pub each : AllZip (IsHead tails) heads names
  pub distinct : AreDistinct names
