use Rattle.std.proofs.Common.{◌≡◌, max}
use Rattle.std.specs.List.{AllByRecursion}
use Rattle.bi_fdt.specs.Views.{node_of}
use Rattle.bi_coverage.specs.Coverage.{properties_end}
use Rattle.bi_coverage.specs.NodeIndices.{HasTokenIn}
use Rattle.bi_coverage.proofs.strings.names_end.Given as goal

abbrev pub invariant-loop-property : goal.invariant-loop-property
invariant-loop-property l = record {
  so_far : max l.end (properties_end l.file l.property-iterator) ≡ properties_end l.file (node_of l.node).own.properties;
  tokens : AllByRecursion (HasTokenIn l.file) l.property-iterator;
}
