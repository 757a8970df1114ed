use Rattle.std.proofs.Common.{◌≡◌, ◌∙◌, ◌∷◌, [], ◌++◌, ap, length, refl, subst, sym}
use Rattle.std.specs.Option.{option_map}
use Rattle.bi_norm.specs.FitBuilding.{image_texts_model, texts_models}
use Rattle.bi_c.specs.PlanBuilding.{AreTextsInside, texts_if_given}
use Rattle.bi_c.proofs.PlanBuilding.{past_texts, one_more_inside, one_more_model}
use Rattle.bi_c.specs.Checks.{IsFirstWrong}
use Rattle.bi_c.proofs.CheckFacts.{counted_more, wrong_at}
use Rattle.bi_c.proofs.plan_building.texts_of.Goals as goal

pub loop-element-init : goal.loop-element-init
loop-element-init c = record {
  inside = tt;
  counted = ap length c.new-texts.ensures.items;
  so_far = ap texts_models
      c.new-texts.ensures.items;
}

pub loop-element-preserved : goal.loop-element-preserved
loop-element-preserved c =
    let input = c.args.input.now in
    let elements = c.args.elements.now in
    let index = c.loop-element.element-index in
    let within = c.loop-element-test.true in
    let items = c.loop-element.texts.items in
    let pushed : c.push.new.self.items ≡ items ++ c.in-Some.given ∷ [] = rw c.in-Ok.is at c.push.ensures.items in
    record {
      inside = one_more_inside (AreTextsInside input) elements index past_texts within c.loop-element.invariant.inside
          c.in-Some.ensures.inside;
      counted = counted_more items c.push.new.self.items c.in-Some.given index pushed c.loop-element.invariant.counted;
      so_far = one_more_model (texts_if_given input) (option_map image_texts_model) elements index past_texts items c.push.new.self.items
          c.in-Some.given within pushed c.in-Some.ensures.texts c.loop-element.invariant.so_far;
    }

pub returns-in_default-clause-failed : goal.returns-in_default-clause-failed
returns-in_default-clause-failed c = (
  refl,
  subst (IsFirstWrong (AreTextsInside c.args.input.now) c.args.elements.now) (sym
      (c.len.ensures ∙ c.loop-element.texts.ok.0 ∙ c.loop-element.invariant.counted))
      (wrong_at (AreTextsInside c.args.input.now) c.args.elements.now c.loop-element.element-index past_texts c.loop-element-test.true
      c.loop-element.invariant.inside c.in_default.ensures.none),
)
