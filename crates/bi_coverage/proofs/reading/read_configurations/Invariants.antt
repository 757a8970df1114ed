use Rattle.std.proofs.Common.{◌≤◌, length, map}
use Rattle.std.specs.Prelude.{◌≡◌, IfSome}
use Rattle.std.specs.Option.{option_map}
use Rattle.bi_blob.specs.Lookups.{siblings_from}
use Rattle.bi_fdt.specs.Views.{node_of, table_of_node}
use Rattle.bi_coverage.specs.Values.{configuration_value}
use Rattle.bi_coverage.proofs.Configurations.{IsReadTo}
use Rattle.bi_coverage.proofs.reading.read_configurations.Given as goal

abbrev pub invariant-loop-next : goal.invariant-loop-next
invariant-loop-next l = record {
  to : IsReadTo l.fit (map configuration_value l.read.items) l.total (siblings_from (option_map node_of l.next));
  within : l.total ≤ l.fn.limits.file;
  same_table : IfSome l.next (λ node. table_of_node node ≡ l.fit.blob.table);
}

abbrev pub decreases-loop-next : goal.decreases-loop-next
decreases-loop-next l = length (siblings_from (option_map node_of l.next))
