use Rattle.std.proofs.Common.{map}
use Rattle.std.specs.Iterator.Adapters.{enumerate_source, enumerate_count}
use Rattle.bi_legacy.specs.PlacedParts.{placed_parts}
use Rattle.bi_c.specs.LegacyElements.{region_of_part}
use Rattle.bi_c.proofs.ArrayFilling.{IsFilling}
use Rattle.bi_c.proofs.legacy.fill_parts.Given as goal

-- The regions of the parts that are left are still to be written.
abbrev pub invariant-loop-index : goal.invariant-loop-index
invariant-loop-index l = record {
  can_next : goal.iterator-loop-index.can_next l.index-iterator;
  is_finite : goal.iterator-loop-index.is_finite l.index-iterator;
  filling : IsFilling (map region_of_part (placed_parts l.image.image)) (map region_of_part (enumerate_source l.index-iterator))
      (enumerate_count l.index-iterator) l.initial.regions l.regions;
}
