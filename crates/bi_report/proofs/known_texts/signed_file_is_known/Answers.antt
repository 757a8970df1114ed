use Rattle.bi_report.proofs.SignedFileFacts.{signed_file_is_known}
use Rattle.bi_report.proofs.known_texts.signed_file_is_known.Goals as goal

pub returns : goal.returns
returns c = signed_file_is_known
