use Rattle.std.proofs.Common.{◌≡◌, ◌∙◌, ◌∷◌, [], ◌++◌, ap, length, refl, subst, sym}
use Rattle.bi_fit.specs.NamedImages.{configuration_spec_models}
use Rattle.bi_c.proofs.PlanBuilding.{past_configuration, one_more_configuration}
use Rattle.bi_c.specs.Checks.{IsFirstWrong}
use Rattle.bi_c.specs.PlanBuilding.{IsConfigurationInside}
use Rattle.bi_c.proofs.CheckFacts.{counted_more, wrong_at}
use Rattle.bi_c.proofs.plan_building.configurations_of.Goals as goal

pub loop-element-init : goal.loop-element-init
loop-element-init c = record {
  counted = ap length c.new-configurations.ensures.items;
  are = λ lists same. record { inside = tt; are = ap configuration_spec_models c.new-configurations.ensures.items };
}

pub loop-element-preserved : goal.loop-element-preserved
loop-element-preserved c =
    let items = c.loop-element.configurations.items in
    let pushed : c.push.new.self.items ≡ items ++ c.in-Some.configuration ∷ [] = rw c.in-Ok.is at c.push.ensures.items in
    record {
      counted = counted_more items c.push.new.self.items c.in-Some.configuration c.loop-element.element-index pushed
          c.loop-element.invariant.counted;
      are = λ lists same. one_more_configuration c.args.input.now lists c.args.elements.now c.loop-element.element-index
          past_configuration items c.push.new.self.items c.in-Some.configuration c.loop-element-test.true pushed
          (c.in-Some.ensures.configuration lists same) (c.loop-element.invariant.are lists same);
    }

pub returns-in_default-clause-failed : goal.returns-in_default-clause-failed
returns-in_default-clause-failed c = λ lists same. (
  refl,
  subst (IsFirstWrong (IsConfigurationInside c.args.input.now lists) c.args.elements.now)
      (sym (c.len.ensures ∙ c.loop-element.configurations.ok.0 ∙ c.loop-element.invariant.counted))
      (wrong_at (IsConfigurationInside c.args.input.now lists) c.args.elements.now c.loop-element.element-index past_configuration
      c.loop-element-test.true (c.loop-element.invariant.are lists same).inside (c.in_default.ensures.none lists same)),
)
