use Rattle.bootimg.proofs.RequestFacts.{part_words_are_known}
use Rattle.bootimg.proofs.known_runs.part_words_are_known.Goals as goal

pub returns : goal.returns
returns c = part_words_are_known
