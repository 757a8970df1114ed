use Rattle.std.proofs.Common.{◌≡◌, drop}
use Rattle.bi_blob.specs.Tree.{node_count}
use Rattle.bi_blob.specs.Events.{events}
use Rattle.bi_fit.specs.NormalNodes.{with_events}
use Rattle.bi_fit.proofs.NodeEvents.{IsAdding}
use Rattle.bi_tree.specs.TreeNodes.{nodes_of_models}
use Rattle.bi_plain.specs.Ranked.{AreRankedNodes, sorted_models}
use Rattle.bi_plain.proofs.writer.nodes.+add_node.Given as goal

abbrev pub invariant-loop-child : goal.invariant-loop-child
invariant-loop-child l =
    IsAdding l.doc (with_events l.initial.doc (events (sorted_models (nodes_of_models l.child-items))))
    (sorted_models (nodes_of_models (drop l.child-index l.child-items)))
    × (l.doc.names ≡ l.initial.doc.names)
    × AreRankedNodes l.doc.names l.ranks (nodes_of_models (drop l.child-index l.child-items))

abbrev pub decreases-add_node : goal.decreases-add_node
decreases-add_node l = node_count l.node.now.children
