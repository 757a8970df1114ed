use Rattle.std.proofs.Common.{◌≡◌, ◌∷◌, [], ◌++◌, ◌∙◌, Bor, List, ℕ, ap, get_or}
use Rattle.std.specs.Option.{option_map}
use Rattle.bi_norm.specs.FitBuilding.{descriptions_models}
use Rattle.bi_c.specs.PlanBuilding.{description_if_given, piece_if_given}
use Rattle.bi_c.proofs.PlanBuilding.{past_texts, one_more_model}
use Rattle.bi_c.proofs.plan_building.descriptions_of.Goals as goal

pub loop-element-init : goal.loop-element-init
loop-element-init c = ap descriptions_models c.new-descriptions.ensures.items

pub loop-element-preserved : goal.loop-element-preserved
loop-element-preserved c =
    let items = c.loop-element.descriptions.items in
    let element = get_or c.args.elements.now c.loop-element.element-index past_texts in
    let pushed : c.push.new.self.items ≡ items ++ c.in-Some.given ∷ [] = rw c.in-Ok.is at c.push.ensures.items in
    one_more_model (description_if_given c.args.input.now) (option_map (λ (text : Bor (List ℕ)). text.now)) c.args.elements.now
    c.loop-element.element-index past_texts items c.push.new.self.items c.in-Some.given c.loop-element-test.true pushed
    (c.in-Some.ensures.given ∙ ap (λ given. piece_if_given given c.args.input.now element.description) c.has_bit.ensures)
    c.loop-element.invariant
