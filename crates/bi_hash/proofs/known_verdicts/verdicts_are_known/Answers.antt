use Rattle.bi_hash.proofs.VerdictFacts.{verdicts_are_known}
use Rattle.bi_hash.proofs.known_verdicts.verdicts_are_known.Goals as goal

pub returns : goal.returns
returns c = verdicts_are_known
