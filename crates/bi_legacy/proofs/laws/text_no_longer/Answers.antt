use Rattle.bi_legacy.proofs.ImageOfFile.{text_no_longer}
use Rattle.bi_legacy.proofs.laws.text_no_longer.Goals as goal

pub returns : goal.returns
returns c = text_no_longer
