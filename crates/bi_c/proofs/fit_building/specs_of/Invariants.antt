use Rattle.std.proofs.Common.{◌≡◌, length, take}
use Rattle.std.specs.List.{AllByRecursion, AllZip}
use Rattle.bi_c.specs.TreeBuilding.{IsSpecInside, IsSpecOf}
use Rattle.bi_c.proofs.fit_building.specs_of.Given as goal

-- The images so far are those of the elements so far. They are inside the input.
abbrev pub invariant-loop-image : goal.invariant-loop-image
invariant-loop-image l = record {
  so_far : AllZip (IsSpecOf l.input) (take l.image-index l.images) l.specs.items;
  counted : length l.specs.items ≡ l.image-index;
  inside : AllByRecursion (IsSpecInside l.input) (take l.image-index l.images);
}
