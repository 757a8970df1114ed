use Rattle.std.proofs.Common.{◌≡◌, length, map, take}
use Rattle.std.specs.List.{AllByRecursion}
use Rattle.bi_norm.specs.FitBuilding.{texts_models}
use Rattle.bi_c.specs.PlanBuilding.{AreTextsInside, texts_if_given}
use Rattle.bi_c.proofs.plan_building.texts_of.Given as goal

-- The elements so far are valid, and the texts are theirs.
abbrev pub invariant-loop-element : goal.invariant-loop-element
invariant-loop-element l = record {
  inside : AllByRecursion (AreTextsInside l.input) (take l.element-index l.elements);
  counted : length l.texts.items ≡ l.element-index;
  so_far : texts_models l.texts.items ≡ map (texts_if_given l.input) (take l.element-index l.elements);
}
