use Rattle.std.specs.Prelude.{◌≡◌, ℕ, ◌+◌, ◌*◌, ◌<◌, ◌≤◌, List, length, slice_index_or}
use Rattle.bi_blob.specs.Tokens.{name_from}

-- The strings block, as the reader keeps it.

-- The offset of the first zero byte from an offset on, or the length of the bytes if there is none.
abbrev pub end_of : List ℕ → ℕ → ℕ
end_of bytes at = at + length (name_from bytes at)

-- These are the ends of the names at the first multiples of 64.
pub record AreEnds (bytes : List ℕ) (ends : List ℕ) : Type 0 where
  pub within : 64 * length ends ≤ length bytes + 64
  pub each : (index : ℕ) (d : ℕ) → index < length ends
      → slice_index_or ends index d ≡ end_of bytes (64 * index)
