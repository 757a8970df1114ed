use Rattle.bi_fit.proofs.Meanings.{begins_with_magic}
use Rattle.bi_fit.proofs.laws.begins_with_magic.Goals as goal

pub returns : goal.returns
returns c = begins_with_magic
