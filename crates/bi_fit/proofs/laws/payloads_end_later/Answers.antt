use Rattle.bi_fit.proofs.TextLaws.{payloads_end_later}
use Rattle.bi_fit.proofs.laws.payloads_end_later.Goals as goal

pub returns : goal.returns
returns c = payloads_end_later
