use Rattle.bi_fit.proofs.FilePayloads.{payloads_are_at_places}
use Rattle.bi_fit.proofs.laws.payloads_are_at_places.Goals as goal

pub returns : goal.returns
returns c = payloads_are_at_places
