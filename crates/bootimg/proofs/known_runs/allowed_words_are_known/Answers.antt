use Rattle.bootimg.proofs.RequestFacts.{allowed_words_are_known}
use Rattle.bootimg.proofs.known_runs.allowed_words_are_known.Goals as goal

pub returns : goal.returns
returns c = allowed_words_are_known
