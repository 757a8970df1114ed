use Rattle.bi_base.proofs.CrcTableEntries.{crc_tables}
use Rattle.bi_base.proofs.crc_laws.crc_tables_are_their_definition.Goals as goal

pub returns : goal.returns
returns c = crc_tables
