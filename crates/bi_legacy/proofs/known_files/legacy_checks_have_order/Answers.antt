use Rattle.bi_legacy.proofs.LegacyFaultFacts.{legacy_checks_have_order}
use Rattle.bi_legacy.proofs.known_files.legacy_checks_have_order.Goals as goal

pub returns : goal.returns
returns c = legacy_checks_have_order
