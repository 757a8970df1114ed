use Rattle.bi_fit.proofs.FileFacts.{none_is_not_empty}
use Rattle.bi_fit.proofs.known_files.none_is_not_empty.Goals as goal

pub returns : goal.returns
returns c = record { none = none_is_not_empty }
