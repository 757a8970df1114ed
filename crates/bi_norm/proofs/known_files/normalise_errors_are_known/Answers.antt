use Rattle.bi_norm.proofs.NormalFormFacts.{normalise_errors_are_known}
use Rattle.bi_norm.proofs.known_files.normalise_errors_are_known.Goals as goal

pub returns : goal.returns
returns c = normalise_errors_are_known
