use Rattle.bi_fit.proofs.FileFacts.{payloads_are_aligned}
use Rattle.bi_fit.proofs.known_files.payloads_are_aligned.Goals as goal

pub returns : goal.returns
returns c = record { aligned = payloads_are_aligned }
