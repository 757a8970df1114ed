use Rattle.std.proofs.Common.{◌≡◌, ◌+◌, drop}
use Rattle.bi_base.specs.Slices.{bytes_of}
use Rattle.bi_tree.specs.TreeNodes.{index_named}
use Rattle.bi_tree.proofs.names.find_name.Given as goal

abbrev pub invariant-loop-index : goal.invariant-loop-index
invariant-loop-index l =
    l.index + index_named l.name (bytes_of (drop l.index l.names)) ≡ index_named l.name (bytes_of l.names)
