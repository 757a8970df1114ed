use Rattle.std.specs.Iterator.Adapters.{enumerate_source, enumerate_count}
use Rattle.bi_legacy.specs.PlacedParts.{placed_parts}
use Rattle.bi_common.specs.LineTokens.{tokens_of_lines}
use Rattle.bi_report.specs.Listing.{listed_part_lines}
use Rattle.bi_report.proofs.PutInTurn.{IsPutBefore}
use Rattle.bi_report.proofs.list.legacy.put_parts_lines.Given as goal

-- The parts that are left follow those whose lines were put.
abbrev pub invariant-loop-index : goal.invariant-loop-index
invariant-loop-index g l = record {
  can_next : (goal.iterator-loop-index g).can_next l.index-iterator;
  is_finite : (goal.iterator-loop-index g).is_finite l.index-iterator;
  are_put : IsPutBefore g.L.LinePen.puts l.initial.pen l.pen
      (tokens_of_lines (listed_part_lines (enumerate_count l.index-iterator) (enumerate_source l.index-iterator)))
      (tokens_of_lines (listed_part_lines 0 (placed_parts l.image.image)));
}
