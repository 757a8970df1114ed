use Rattle.std.proofs.Common.{◌≡◌, ◌++◌}
use Rattle.std.specs.Iterator.Adapters.{enumerate_source, enumerate_count}
use Rattle.bi_legacy.specs.PlacedParts.{placed_parts}
use Rattle.bi_show.specs.Layouts.{part_regions}
use Rattle.bi_show.proofs.show.layout.legacy.add_parts.Given as goal

-- The regions of the parts before this one are there, and those of the others follow.
abbrev pub invariant-loop-index : goal.invariant-loop-index
invariant-loop-index l = record {
  can_next : goal.iterator-loop-index.can_next l.index-iterator;
  is_finite : goal.iterator-loop-index.is_finite l.index-iterator;
  so_far : l.regions.items ++ part_regions (enumerate_count l.index-iterator) (enumerate_source l.index-iterator)
      ≡ l.initial.regions.items ++ part_regions 0 (placed_parts l.image.image);
}
