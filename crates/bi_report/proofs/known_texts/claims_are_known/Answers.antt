use Rattle.bi_report.proofs.ScanFacts.{claims_are_known}
use Rattle.bi_report.proofs.known_texts.claims_are_known.Goals as goal

pub returns : goal.returns
returns c = claims_are_known
