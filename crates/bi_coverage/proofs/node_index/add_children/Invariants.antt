use Rattle.std.proofs.Common.{◌≡◌, ◌++◌, map}
use Rattle.bi_fdt.specs.Views.{node_of}
use Rattle.bi_fit.specs.Siblings.{siblings_left}
use Rattle.bi_coverage.proofs.node_index.add_children.Given as goal

abbrev pub invariant-loop-child : goal.invariant-loop-child
invariant-loop-child l =
    map node_of l.nodes.items ++ siblings_left l.child-iterator
    ≡ map node_of l.initial.nodes.items ++ siblings_left l.initial.child-iterator
