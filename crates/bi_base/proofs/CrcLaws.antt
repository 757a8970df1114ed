use Rattle.std.proofs.Common.{refl, sym}
use Rattle.bi_base.specs.Crc.{crc_after, SameForEveryCut}
use Rattle.bi_base.specs.CrcSink.{adds_to_crc_in_turn}

-- Proves that a CRC-32 is the same wherever its bytes are cut.

-- The register after one piece and then another is the register after both together.
pub crc_after-append : SameForEveryCut
crc_after-append register first second =
    let mid = crc_after register first in sym (adds_to_crc_in_turn register mid (crc_after mid second) first second refl refl)
