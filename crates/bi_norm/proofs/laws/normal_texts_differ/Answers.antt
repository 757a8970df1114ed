use Rattle.bi_norm.proofs.KindLaws.{normal_texts_differ}
use Rattle.bi_norm.proofs.laws.normal_texts_differ.Goals as goal

pub returns : goal.returns
returns c = normal_texts_differ
