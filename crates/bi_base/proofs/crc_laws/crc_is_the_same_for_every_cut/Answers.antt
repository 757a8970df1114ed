use Rattle.bi_base.proofs.CrcLaws.{crc_after-append}
use Rattle.bi_base.proofs.crc_laws.crc_is_the_same_for_every_cut.Goals as goal

pub returns : goal.returns
returns c = crc_after-append
