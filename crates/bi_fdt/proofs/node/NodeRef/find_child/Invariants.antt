use Rattle.std.proofs.Common.{◌≡◌, length, map}
use Rattle.std.specs.Prelude.{bytes_eq, IfSome}
use Rattle.std.specs.Map.{lookup}
use Rattle.std.specs.Option.{option_map}
use Rattle.bi_blob.specs.Lookups.{node_at, node_named}
use Rattle.bi_fdt.specs.Views.{node_of, table_of_node}
use Rattle.bi_blob.specs.Lookups.{siblings_from}
use Rattle.bi_fdt.proofs.node.NodeRef.find_child.Given as goal

abbrev pub invariant-loop-next : goal.invariant-loop-next
invariant-loop-next l =
    (lookup (λ other. bytes_eq other l.name) (map (λ sibling. (sibling.name, sibling)) (siblings_from (option_map node_of l.next)))
    ≡ node_named (node_of l.self).children l.name)
    × (option_map node_of l.next ≡ node_at (node_of l.self).children l.position)
    × IfSome l.next (λ sibling. table_of_node sibling ≡ table_of_node l.self)

abbrev pub decreases-loop-next : goal.decreases-loop-next
decreases-loop-next l = length (siblings_from (option_map node_of l.next))
