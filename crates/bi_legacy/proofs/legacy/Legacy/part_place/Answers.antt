use Rattle.std.proofs.Common.{Some, None}
use Rattle.std.proofs.lemmas.Iterator.Consumers.{nth_from_yields_List, YieldsList-from_first}
use Rattle.bi_legacy.specs.PlacedParts.{part_model}
use Rattle.bi_legacy.proofs.NthPart.{nth_place}
use Rattle.bi_legacy.proofs.legacy.Legacy.part_place.Goals as goal

pub returns-in_err-nth : goal.returns-in_err-nth
returns-in_err-nth c =
    rw c.from_residual.ensures (nth_place c.args.self.now.image c.args.index None
    (nth_from_yields_List None c.nth.new.self c.args.index c.in_err-nth.ensures.ran
    (YieldsList-from_first part_model (λ parts. parts) _ c.parts.ensures.parts)))

pub returns : goal.returns
returns c =
    nth_place c.args.self.now.image c.args.index (Some c.in_ok-nth.field-0)
    (nth_from_yields_List (Some c.in_ok-nth.field-0) c.nth.new.self c.args.index c.in_ok-nth.ensures.ran
    (YieldsList-from_first part_model (λ parts. parts) _ c.parts.ensures.parts))
