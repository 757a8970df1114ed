use Rattle.bi_norm.proofs.KindLaws.{texts_of_kinds_differ}
use Rattle.bi_norm.proofs.laws.texts_of_kinds_differ.Goals as goal

pub returns : goal.returns
returns c = texts_of_kinds_differ
