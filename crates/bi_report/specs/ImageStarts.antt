use Rattle.std.specs.Prelude.{ℕ, ◌+◌, ◌<◌, ◌≤◌, ◌≡◌, ◌⊎◌, List, Option, MatchOption, length}
use Rattle.bi_base.specs.Cells.{u32_at}
use Rattle.bi_blob.specs.Blob.{blob_magic}
use Rattle.bi_legacy.specs.File.{legacy_magic}
use Rattle.bi_norm.specs.declared.kind.Kind.{Kind}
use Rattle.bi_norm.specs.Kinds.{BeginsAs}
use Rattle.bi_common.specs.Offsets.{input_from}

-- Finding the offsets at which an image may begin, by the magic numbers.

-- At this offset an input has this magic number.
abbrev pub HasMagic : (input : List ℕ) → (magic offset : ℕ) → Type 0
HasMagic input magic offset =
    (4 ≤ length (input_from offset input)) × (u32_at (input_from offset input) 0 ≡ magic)

-- At no offset from `from` on and before `end` does an input have this magic number.
abbrev pub HasNoMagic : (input : List ℕ) → (magic from end : ℕ) → Type 0
HasNoMagic input magic from end = (offset : ℕ) → from ≤ offset → offset < end
    → ¬ (HasMagic input magic offset)

-- This is the first offset, from `from` on and before `end`, at which an input has this magic
-- number. It is the end if there is none.
pub record IsNextMagic (input : List ℕ) (magic from end offset : ℕ) : Type 0 where
  pub is_left : from ≤ offset
  pub within : offset ≤ end
  pub none_before : HasNoMagic input magic from offset
  pub is_found : (offset ≡ end) ⊎ HasMagic input magic offset

-- At no offset from `from` on and before `end` does an image of a kind begin.
abbrev pub HasNoStart : (input : List ℕ) → (from end : ℕ) → Type 0
HasNoStart input from end = (offset : ℕ) → from ≤ offset → offset < end
    → (kind : Kind) → ¬ (BeginsAs (input_from offset input) kind)

-- The offsets that are left to look at: from `from` on and before `end`.
pub record ImageStartsModel : Type 0 where
  pub input : List ℕ
  pub from : ℕ
  pub end : ℕ

-- The next offset of the magic number of a legacy image, and that of a blob.
pub record AreNextMagics (left : ImageStartsModel) (legacy blob : ℕ) : Type 0 where
  pub within : left.end ≤ length left.input
  pub next_legacy : IsNextMagic left.input legacy_magic left.from left.end legacy
  pub next_blob : IsNextMagic left.input blob_magic left.from left.end blob

-- This is the first offset that was left at which an image of a kind begins. The offsets after it
-- are left.
pub record IsNextStart (left : ImageStartsModel) (offset : ℕ) (after : ImageStartsModel)
    : Type 0 where
  pub is_left : left.from ≤ offset
  pub within : offset < left.end
  pub no_start : HasNoStart left.input left.from offset
  pub begins : (kind : Kind) × BeginsAs (input_from offset left.input) kind
  pub is_after : after ≡ record left { from = offset + 1 }

-- The next offset at which an image may begin. There is none only if no image begins at an offset
-- that is left.
abbrev pub GivesNextStart : (left : ImageStartsModel) → Option ℕ → (after : ImageStartsModel)
    → Type 0
GivesNextStart left next after = MatchOption next (HasNoStart left.input left.from left.end)
    (λ offset. IsNextStart left offset after)
