use Rattle.bi_fit.proofs.Meanings.{one_fit_meaning}
use Rattle.bi_fit.proofs.laws.one_meaning.Goals as goal

pub returns : goal.returns
returns c = one_fit_meaning
