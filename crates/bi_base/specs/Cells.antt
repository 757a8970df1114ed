use Rattle.std.specs.Prelude.{ℕ, ◌+◌, ◌-◌, ◌*◌, ◌/◌, ◌^◌, ◌<◌, List, take, drop, slice_index}
use Rattle.std.specs.Int.{to_be_bytes, from_be_bytes, w32, w64}

-- A cell: the four big-endian bytes of a number, modulo 2^32 (Devicetree Specification, 2.2.4.2:
-- <u32>).
unfoldable pub cell : ℕ → List ℕ
cell n = to_be_bytes w32 n

-- Two cells: the eight big-endian bytes of a number, modulo 2^64 (Devicetree Specification,
-- 2.2.4.2: <u64>).
unfoldable pub cell8 : ℕ → List ℕ
cell8 n = to_be_bytes w64 n

-- The `n` bytes of a file from offset `at`, or as many of them as it has.
abbrev pub slice : List ℕ → ℕ → ℕ → List ℕ
slice file at n = take n (drop at file)

-- The number in the cell at offset `at`. Bytes that the file does not have read as zero: this is
-- used only if the file has all of them, or an earlier check fails.
unfoldable pub u32_at : List ℕ → ℕ → ℕ
u32_at file at = from_be_bytes w32 (slice file at 4)

-- The number in the two cells at offset `at`, likewise.
unfoldable pub u64_at : List ℕ → ℕ → ℕ
u64_at file at = from_be_bytes w64 (slice file at 8)

-- Each of these numbers is a byte.
pub record AreBytes (bytes : List ℕ) : Type 0 where
  pub each : (i : ℕ) → slice_index bytes i < 2 ^ 8

-- The least multiple of `align` that is at least `n`, if `align` is not 0: where what is aligned
-- begins.
abbrev pub up_to : (align n : ℕ) → ℕ
up_to align n = align * ((n + (align - 1)) / align)

-- The least multiple of four that is at least `n`: where what is aligned to a cell begins.
abbrev pub up4 : ℕ → ℕ
up4 n = up_to 4 n
