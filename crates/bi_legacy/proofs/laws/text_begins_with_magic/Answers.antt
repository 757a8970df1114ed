use Rattle.bi_legacy.proofs.Magic.{text_begins}
use Rattle.bi_legacy.proofs.laws.text_begins_with_magic.Goals as goal

pub returns : goal.returns
returns c = text_begins
