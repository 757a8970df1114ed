use Rattle.bi_fit.proofs.FileFacts.{shared_region_is_repeated}
use Rattle.bi_fit.proofs.known_files.shared_region_is_repeated.Goals as goal

pub returns : goal.returns
returns c = record { shared = shared_region_is_repeated }
