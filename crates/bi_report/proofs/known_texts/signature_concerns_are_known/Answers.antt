use Rattle.bi_report.proofs.SignatureFacts.{signature_concerns_are_known}
use Rattle.bi_report.proofs.known_texts.signature_concerns_are_known.Goals as goal

pub returns : goal.returns
returns c = signature_concerns_are_known
