use Rattle.bi_fit.proofs.FileFacts.{smallest_is_fit}
use Rattle.bi_fit.proofs.known_files.smallest_is_fit.Goals as goal

pub returns : goal.returns
returns c = record { smallest = smallest_is_fit }
