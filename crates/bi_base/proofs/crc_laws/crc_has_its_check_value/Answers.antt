use Rattle.std.proofs.Common.{refl}
use Rattle.bi_base.specs.Crc.{crc32, crc_after, low_bits}
use Rattle.bi_base.proofs.crc_laws.crc_has_its_check_value.Goals as goal

pub returns : goal.returns
unfolding crc32 crc_after low_bits
returns c = refl
