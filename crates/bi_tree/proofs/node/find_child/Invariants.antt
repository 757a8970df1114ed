use Rattle.std.proofs.Common.{◌≡◌, ◌+◌, drop}
use Rattle.bi_tree.specs.TreeNodes.{index_named, names_of_models}
use Rattle.bi_tree.proofs.node.find_child.Given as goal

abbrev pub invariant-loop-index : goal.invariant-loop-index
invariant-loop-index l =
    l.index + index_named l.name (names_of_models (drop l.index l.children))
    ≡ index_named l.name (names_of_models l.children)
