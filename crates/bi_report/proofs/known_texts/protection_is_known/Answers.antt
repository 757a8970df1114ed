use Rattle.bi_report.proofs.CheckFacts.{protection_is_known}
use Rattle.bi_report.proofs.known_texts.protection_is_known.Goals as goal

pub returns : goal.returns
returns c = protection_is_known
