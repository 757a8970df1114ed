use Rattle.bi_legacy.proofs.FileFacts.{free_bytes_have_no_meaning}
use Rattle.bi_legacy.proofs.known_files.free_bytes_have_no_meaning.Goals as goal

pub returns : goal.returns
returns c = free_bytes_have_no_meaning
