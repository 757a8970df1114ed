use Rattle.std.proofs.Common.{◌≡◌, Some, map}
use Rattle.bi_fdt.specs.Views.{node_of}
use Rattle.bi_c.specs.NodeElements.{node_below as found_below}
use Rattle.bi_c.proofs.paths.node_below.Given as goal

-- The names so far select the node.
abbrev pub invariant-loop-name : goal.invariant-loop-name
invariant-loop-name l = found_below (Some (node_of l.root)) (map (λ it. it.now) l.yielded) ≡ Some (node_of l.node)
