use Rattle.bi_hash.proofs.VerdictFacts.{each_algorithm_is_known}
use Rattle.bi_hash.proofs.known_verdicts.each_algorithm_is_known.Goals as goal

pub returns : goal.returns
returns c = each_algorithm_is_known
