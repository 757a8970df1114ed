use Rattle.std.proofs.Common.{◌≡◌, map, take}
use Rattle.bi_norm.specs.FitBuilding.{descriptions_models}
use Rattle.bi_c.specs.PlanBuilding.{description_if_given}
use Rattle.bi_c.proofs.plan_building.descriptions_of.Given as goal

-- The descriptions are those of the elements so far.
abbrev pub invariant-loop-element : goal.invariant-loop-element
invariant-loop-element l =
    descriptions_models l.descriptions.items ≡ map (description_if_given l.input) (take l.element-index l.elements)
