use Rattle.bi_fit.proofs.FileFacts.{offset_is_from_aligned_end}
use Rattle.bi_fit.proofs.known_files.offset_is_from_aligned_end.Goals as goal

pub returns : goal.returns
returns c = record { offset = offset_is_from_aligned_end }
