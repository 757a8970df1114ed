use Rattle.bi_base.proofs.PenFacts.{puts_are_known}
use Rattle.bi_base.proofs.known_pens.puts_are_known.Goals as goal

pub returns : goal.returns
returns c = puts_are_known
