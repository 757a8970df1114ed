use Rattle.bi_fit.proofs.FileFacts.{position_is_before_offset}
use Rattle.bi_fit.proofs.known_files.position_is_before_offset.Goals as goal

pub returns : goal.returns
returns c = record { position = position_is_before_offset }
