use Rattle.bi_fit.proofs.TextLaws.{fit_text_is_accepted}
use Rattle.bi_fit.proofs.laws.text_is_accepted.Goals as goal

pub returns : goal.returns
returns c = fit_text_is_accepted
