use Rattle.std.proofs.Common.{◌≡◌, ◌+◌, ◌*◌, ◌≤◌, length, drop}
use Rattle.std.specs.Iterator.Adapters.{enumerate_source, enumerate_count}
use Rattle.bi_base.specs.declared.fault.Fault.{Fault}
use Rattle.bi_base.specs.Cells.{up4}
use Rattle.bi_base.specs.Checks.{IsFirstFault}
use Rattle.bi_legacy.specs.PartTables.{TablePasses, table_fault, table_sizes, part_checks}
use Rattle.bi_legacy.specs.Parts.{parts_end_from}
use Rattle.bi_legacy.specs.PartRanges.{FitWithin, part_ranges}
use Rattle.bi_legacy.proofs.part_table.end_of_parts.Given as goal

-- The ranges that are left decide whether all parts fit, where the last one ends, and what the first fault is.
abbrev pub invariant-loop-index : goal.invariant-loop-index
invariant-loop-index l =
    let sizes = table_sizes l.body in
    let first = 4 * (l.part_count + 1) in
    let index = enumerate_count l.index-iterator in
    record {
      can_next : (goal.iterator-loop-index).can_next l.index-iterator;
      finite : (goal.iterator-loop-index).is_finite l.index-iterator;
      left : enumerate_source l.index-iterator ≡ part_ranges (up4 l.end) (drop index sizes);
      within : l.end ≤ length l.body;
      begun : index ≤ length sizes;
      fit : FitWithin (length l.body) (up4 l.end) (drop index sizes) → FitWithin (length l.body) first sizes;
      end : parts_end_from first sizes ≡ parts_end_from l.end (drop index sizes);
      fault : (fault : Fault) → IsFirstFault (TablePasses l.body) table_fault (part_checks index (up4 l.end) (drop index sizes)) fault
          → IsFirstFault (TablePasses l.body) table_fault (part_checks 0 first sizes) fault;
    }
