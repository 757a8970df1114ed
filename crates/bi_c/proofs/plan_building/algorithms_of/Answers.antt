use Rattle.std.proofs.Common.{◌≡◌, ◌∙◌, ◌<◌, ◌∷◌, [], ◌++◌, ap, length, refl, subst, sym}
use Rattle.bi_c.specs.PlanBuilding.{algorithm_of}
use Rattle.bi_c.proofs.CallAnswers.{is_so, not_so}
use Rattle.bi_c.proofs.PlanBuilding.{one_more_inside, one_more_meant}
use Rattle.bi_c.specs.Checks.{IsFirstWrong}
use Rattle.bi_c.proofs.CheckFacts.{counted_more, wrong_at}
use Rattle.bi_c.proofs.plan_building.algorithms_of.Goals as goal

pub loop-number-init : goal.loop-number-init
loop-number-init c = record { inside = tt; counted = ap length c.new-algorithms.ensures.items; so_far = c.new-algorithms.ensures.items }

pub loop-number-preserved : goal.loop-number-preserved
loop-number-preserved c =
    let numbers = c.args.numbers.now in
    let index = c.loop-number.number-index in
    let within = c.loop-number-test.true in
    let items = c.loop-number.algorithms.items in
    let pushed : c.push.new.self.items ≡ items ++ c.in-Some.algorithm ∷ [] = rw c.in-Ok.is at c.push.ensures.items in
    record {
      inside = one_more_inside (λ number. number < 6) numbers index 0 within c.loop-number.invariant.inside
          (is_so _ c.in-Some.ensures.in_range);
      counted = counted_more items c.push.new.self.items c.in-Some.algorithm index pushed c.loop-number.invariant.counted;
      so_far = one_more_meant algorithm_of numbers index 0 items c.push.new.self.items c.in-Some.algorithm within pushed
          c.in-Some.ensures.value c.loop-number.invariant.so_far;
    }

pub returns-in_default-clause-failed : goal.returns-in_default-clause-failed
returns-in_default-clause-failed c = (
  refl,
  subst (IsFirstWrong (λ number. number < 6) c.args.numbers.now) (sym (c.len.ensures ∙ c.loop-number.algorithms.ok.0 ∙
      c.loop-number.invariant.counted))
      (wrong_at (λ number. number < 6) c.args.numbers.now c.loop-number.number-index 0 c.loop-number-test.true
      c.loop-number.invariant.inside (not_so _ c.in_default.ensures.in_range)),
)
