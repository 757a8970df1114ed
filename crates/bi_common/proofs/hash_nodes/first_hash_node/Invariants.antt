use Rattle.std.proofs.Common.{◌≡◌, filter, length}
use Rattle.std.specs.Option.{option_map}
use Rattle.bi_blob.specs.Lookups.{siblings_from}
use Rattle.bi_fdt.specs.Views.{node_of}
use Rattle.bi_fit.specs.Names.{is_hash_name}
use Rattle.bi_common.proofs.hash_nodes.first_hash_node.Given as goal

-- The hash nodes that are left are all.
abbrev pub invariant-loop-next : goal.invariant-loop-next
invariant-loop-next l =
    filter (λ child. is_hash_name child.name) (siblings_from (option_map node_of l.next))
    ≡ filter (λ child. is_hash_name child.name) (siblings_from (option_map node_of l.first))

abbrev pub decreases-loop-next : goal.decreases-loop-next
decreases-loop-next l = length (siblings_from (option_map node_of l.next))
