use Rattle.bi_fit.proofs.TextLaws.{text_keeps_judgement}
use Rattle.bi_fit.proofs.laws.text_keeps_judgement.Goals as goal

pub returns : goal.returns
returns c = text_keeps_judgement
