use Rattle.bi_tree.proofs.StayingNumbers.{numbers_stay}
use Rattle.bi_tree.proofs.laws.numbers_stay.Goals as goal

pub returns : goal.returns
returns c = numbers_stay
