use Rattle.std.proofs.Common.{◌≡◌, ◌∙◌, ◌∷◌, [], ◌++◌, take, get_or, length, ap, refl, sym, subst}
use Rattle.std.proofs.lemmas.List.{take_more}
use Rattle.std.specs.List.{AllZip}
use Rattle.bi_c.specs.declared.fit_building.BuildElement.{BuildElement}
use Rattle.bi_c.specs.TreeBuilding.{IsSpecInside, IsSpecOf}
use Rattle.bi_c.proofs.TreeBuilding.{one_spec_added}
use Rattle.bi_c.specs.Checks.{IsFirstWrong}
use Rattle.bi_c.proofs.CheckFacts.{counted_more, wrong_at}
use Rattle.bi_c.proofs.PlanBuilding.{one_more_inside}
use Rattle.bi_c.proofs.fit_building.specs_of.Goals as goal

-- A list of elements has no element past its end.
abbrev no_element : BuildElement
no_element = record {
  name = record { offset = 0; size = 0 };
  payload = record { offset = 0; size = 0 };
  load = 0;
  entry = 0;
  addresses = 0;
  os = 0;
  arch = 0;
  image_type = 0;
  compression = 0;
}

pub loop-image-init : goal.loop-image-init
loop-image-init c = record {
  so_far = subst (AllZip (IsSpecOf c.args.input.now) []) (sym c.new-specs.ensures.items) tt;
  counted = ap length c.new-specs.ensures.items;
  inside = tt;
}

pub loop-image-preserved : goal.loop-image-preserved
loop-image-preserved c =
    let input = c.args.input.now in
    let images = c.args.images.now in
    let index = c.loop-image.image-index in
    let image = get_or images index no_element in
    let within = c.loop-image-test.true in
    let items = c.loop-image.specs.items in
    let pushed : c.push.new.self.items ≡ items ++ c.in-Some.spec ∷ [] = rw c.in-Ok.is at c.push.ensures.items in
    record {
      so_far = subst (λ front. AllZip (IsSpecOf input) front c.push.new.self.items) (sym (take_more images index no_element within))
          (subst (AllZip (IsSpecOf input) (take index images ++ image ∷ [])) (sym pushed)
          (one_spec_added input (take index images) items image c.in-Some.spec c.loop-image.invariant.so_far
          c.in-Some.ensures.spec));
      counted = counted_more items c.push.new.self.items c.in-Some.spec index pushed c.loop-image.invariant.counted;
      inside = one_more_inside (IsSpecInside input) images index no_element within c.loop-image.invariant.inside
          c.in-Some.ensures.spec.inside;
    }

pub returns-in_default-clause-failed : goal.returns-in_default-clause-failed
returns-in_default-clause-failed c = (
  refl,
  subst (IsFirstWrong (IsSpecInside c.args.input.now) c.args.images.now) (sym (c.len.ensures ∙ c.loop-image.specs.ok.0 ∙
      c.loop-image.invariant.counted))
      (wrong_at (IsSpecInside c.args.input.now) c.args.images.now c.loop-image.image-index no_element c.loop-image-test.true
      c.loop-image.invariant.inside c.in_default.ensures.none),
)
