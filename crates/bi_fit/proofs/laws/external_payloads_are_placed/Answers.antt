use Rattle.bi_fit.proofs.PayloadPlaces.{external_payloads_are_placed}
use Rattle.bi_fit.proofs.laws.external_payloads_are_placed.Goals as goal

pub returns : goal.returns
returns c = external_payloads_are_placed
