use Rattle.std.specs.Prelude.{◌≡◌, ℕ, ◌/◌, ◌%◌, ◌<◌, zero, suc}
use Rattle.std.specs.Prelude.{List, [], length, get_or, slice_index, replicate, fold}
use Rattle.std.specs.Int.Bits.{bit_xor}
use Rattle.bi_base.specs.Crc.{crc_bit}

-- The sixteen tables by which a CRC-32 takes sixteen bytes in one step (slicing by sixteen).

-- The register after `n` message bits of zero.
unfoldable pub after_zeros : ℕ → ℕ → ℕ
after_zeros n register = fold crc_bit register (replicate n 0)

-- Entry `i` of table `k`. In the first table it is the register `i` after eight message bits of
-- zero. In each later table it is entry `i` of the table before, after eight more: the high bits
-- move down, and the lowest byte selects an entry of the first table.
unfoldable pub table_entry : ℕ → ℕ → ℕ
table_entry zero i = after_zeros 8 i
table_entry (suc k) i =
    bit_xor (table_entry k i / 256) (after_zeros 8 (table_entry k i % 256))

-- The law that these are the sixteen tables: every entry is the one of its table and index.
pub record AreCrcTables (tables : List (List ℕ)) : Type 0 where
  pub sixteen : length tables ≡ 16
  pub sizes : (k : ℕ) → k < 16 → length (get_or tables k []) ≡ 256
  pub entries : (k i : ℕ) → k < 16 → i < 256 → slice_index (get_or tables k []) i ≡ table_entry k i
