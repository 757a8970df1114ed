use Rattle.bi_fit.proofs.FileFacts.{unused_have_no_meaning}
use Rattle.bi_fit.proofs.known_files.unused_have_no_meaning.Goals as goal

pub returns : goal.returns
returns c = record { unused = unused_have_no_meaning }
