use Rattle.bi_hash.proofs.VerdictFacts.{verdicts_have_order}
use Rattle.bi_hash.proofs.known_verdicts.verdicts_have_order.Goals as goal

pub returns : goal.returns
returns c = verdicts_have_order
