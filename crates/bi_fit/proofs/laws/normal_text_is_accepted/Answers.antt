use Rattle.bi_fit.proofs.TextLaws.{normal_fit_text_is_accepted}
use Rattle.bi_fit.proofs.laws.normal_text_is_accepted.Goals as goal

pub returns : goal.returns
returns c = normal_fit_text_is_accepted
