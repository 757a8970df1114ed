use Rattle.bi_legacy.proofs.LegacyFaultFacts.{part_tables_have_faults}
use Rattle.bi_legacy.proofs.known_files.part_tables_have_faults.Goals as goal

pub returns : goal.returns
returns c = part_tables_have_faults
