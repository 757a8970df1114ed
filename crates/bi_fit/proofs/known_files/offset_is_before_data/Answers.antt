use Rattle.bi_fit.proofs.FileFacts.{offset_is_before_data}
use Rattle.bi_fit.proofs.known_files.offset_is_before_data.Goals as goal

pub returns : goal.returns
returns c = record { offset = offset_is_before_data }
