use Rattle.std.proofs.Common.{◌≡◌, List, length, map, take}
use Rattle.bi_base.specs.Slices.{bytes_of}
use Rattle.bi_c.specs.PieceBuilding.{bytes_of_piece}
use Rattle.bi_c.specs.PlanBuilding.{AreConfigurationsOf}
use Rattle.bi_c.specs.declared.region.Region.{Region}
use Rattle.bi_c.proofs.plan_building.configurations_of.Given as goal

-- The configurations are those of the elements so far.
abbrev pub invariant-loop-element : goal.invariant-loop-element
invariant-loop-element l = record {
  counted : length l.configurations.items ≡ l.element-index;
  are : (lists : List Region) → bytes_of l.pieces ≡ map (bytes_of_piece l.input) lists →
      AreConfigurationsOf l.input lists (take l.element-index l.elements) l.configurations.items;
}
