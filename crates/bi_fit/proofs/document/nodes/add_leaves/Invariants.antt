use Rattle.std.proofs.Common.{◌≡◌, map, drop}
use Rattle.std.specs.List.{AllByRecursion}
use Rattle.bi_blob.specs.Events.{events}
use Rattle.bi_fit.specs.declared.document.nodes.Leaf.{Leaf}
use Rattle.bi_fit.specs.Leaves.{leaf_model}
use Rattle.bi_fit.specs.NormalNodes.{with_events, leaf_nodes}
use Rattle.bi_fit.proofs.NodeEvents.{IsAdding}
use Rattle.bi_fit.proofs.document.nodes.add_leaves.Given as goal

-- The nodes from this one on are left to be added.
abbrev pub invariant-loop-leaf : goal.invariant-loop-leaf
invariant-loop-leaf l = record {
  adding : IsAdding l.doc (with_events l.fn.doc (events (leaf_nodes (map leaf_model l.leaves))))
      (leaf_nodes (map leaf_model (drop l.leaf-index l.leaves)));
  names : AllByRecursion (λ (leaf : Leaf). l.doc.names ≡ leaf.properties.names) (drop l.leaf-index l.leaves);
}
