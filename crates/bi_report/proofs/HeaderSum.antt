use Rattle.std.proofs.Common.{◌≡◌, ℕ, ◌-◌, List, [], ◌∷◌, ◌++◌, rules}
use Rattle.bi_base.specs.Cells.{cell}
use Rattle.bi_base.specs.Crc.{crc32, crc_after}
use Rattle.bi_base.proofs.CrcLaws.{crc_after-append}

-- Proves that the checksum of a header may be computed over the pieces around the field of the checksum.

-- The CRC-32 that is computed over two pieces with four zeros between them.
pub sum-around_zeros : (a b : List ℕ) →
    0xFFFFFFFF - crc_after (crc_after (crc_after 0xFFFFFFFF a) (0 ∷ 0 ∷ 0 ∷ 0 ∷ [])) b ≡ crc32 (a ++ (cell 0 ++ b))
unfolding cell crc32
sum-around_zeros a b = search (rules, crc_after-append)
