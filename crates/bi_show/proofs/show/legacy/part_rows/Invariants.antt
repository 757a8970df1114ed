use Rattle.std.proofs.Common.{◌≡◌, ◌++◌}
use Rattle.std.specs.Iterator.Adapters.{enumerate_source, enumerate_count}
use Rattle.bi_show.specs.LegacyPages.{part_rows, parts_table}
use Rattle.bi_show.specs.Rows.{cells_of_rows}
use Rattle.bi_show.proofs.show.legacy.part_rows.Given as goal

-- The rows of the parts before this one are there, and those of the others follow.
abbrev pub invariant-loop-index : goal.invariant-loop-index
invariant-loop-index l = record {
  can_next : goal.iterator-loop-index.can_next l.index-iterator;
  is_finite : goal.iterator-loop-index.is_finite l.index-iterator;
  so_far : cells_of_rows l.rows.items ++ part_rows (enumerate_count l.index-iterator) (enumerate_source l.index-iterator)
      ≡ parts_table l.image.image;
}
