use Rattle.bi_norm.proofs.KindLaws.{one_file_meaning}
use Rattle.bi_norm.proofs.laws.one_meaning.Goals as goal

pub returns : goal.returns
returns c = one_file_meaning c.one_meaning.ensures
