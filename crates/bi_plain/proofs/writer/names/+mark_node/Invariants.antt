use Rattle.std.proofs.Common.{◌≡◌, ◌<◌, length, drop}
use Rattle.std.specs.List.{AllByRecursion}
use Rattle.bi_blob.specs.Tree.{node_count}
use Rattle.bi_tree.specs.TreeNodes.{nodes_of_models}
use Rattle.bi_plain.specs.Ranked.{all_numbers, with_marks}
use Rattle.bi_plain.proofs.writer.names.+mark_node.Given as goal

abbrev pub invariant-loop-child : goal.invariant-loop-child
invariant-loop-child l =
    (with_marks (all_numbers (nodes_of_models (drop l.child-index l.child-items))) l.marks
    ≡ with_marks (all_numbers (nodes_of_models l.child-items)) l.initial.marks)
    × AllByRecursion (λ number. number < length l.marks) (all_numbers (nodes_of_models (drop l.child-index l.child-items)))

abbrev pub decreases-mark_node : goal.decreases-mark_node
decreases-mark_node l = node_count l.node.now.children
