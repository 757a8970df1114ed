use Rattle.std.proofs.Common.{◌≤◌, map, drop}
use Rattle.bi_fdt.specs.Views.{node_of}
use Rattle.bi_coverage.specs.ChildNumbers.{HasNumbersFrom}
use Rattle.bi_coverage.proofs.child_numbers.number_names.Given as goal

abbrev pub invariant-loop-index : goal.invariant-loop-index
invariant-loop-index l = record {
  from : l.fn.begin ≤ l.index;
  numbered : HasNumbersFrom l.index (drop l.index (map node_of l.nodes)) l.numbers;
}
