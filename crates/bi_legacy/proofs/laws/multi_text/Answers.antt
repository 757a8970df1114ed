use Rattle.bi_legacy.proofs.KnownImages.{multi_text}
use Rattle.bi_legacy.proofs.laws.multi_text.Goals as goal

pub returns : goal.returns
returns c = multi_text
