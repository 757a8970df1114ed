use Rattle.bi_legacy.proofs.LegacyFaultFacts.{legacy_files_have_faults}
use Rattle.bi_legacy.proofs.known_files.legacy_files_have_faults.Goals as goal

pub returns : goal.returns
returns c = legacy_files_have_faults
