use Rattle.std.proofs.Common.{◌≡◌, ◌++◌, drop, length, map, take}
use Rattle.std.specs.List.{AllByRecursion}
use Rattle.bi_base.specs.Slices.{bytes_of}
use Rattle.bi_c.specs.PieceBuilding.{IsPieceInside, bytes_of_piece}
use Rattle.bi_c.proofs.building.pieces.Given as goal

-- The pieces so far and those of the regions that are left are all pieces. The regions so far are inside the input.
abbrev pub invariant-loop-region : goal.invariant-loop-region
invariant-loop-region l =
    let left = drop l.region-index l.regions in
    record {
      so_far : bytes_of l.pieces.items ++ map (bytes_of_piece l.input) left ≡ map (bytes_of_piece l.input) l.regions;
      counted : length l.pieces.items ≡ l.region-index;
      inside : AllByRecursion (IsPieceInside l.input) (take l.region-index l.regions);
    }
