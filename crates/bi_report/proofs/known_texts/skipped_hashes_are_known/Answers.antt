use Rattle.bi_report.proofs.SignatureFacts.{skipped_hashes_are_known}
use Rattle.bi_report.proofs.known_texts.skipped_hashes_are_known.Goals as goal

pub returns : goal.returns
returns c = skipped_hashes_are_known
