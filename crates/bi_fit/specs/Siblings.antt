use Rattle.std.specs.Prelude.{List, option_map}
use Rattle.bi_blob.specs.Tree.{FileNode}
use Rattle.bi_blob.specs.Lookups.{Sibling, siblings_from}
use Rattle.bi_fdt.specs.Views.{node_of}
use Rattle.bi_fit.specs.declared.nodes.Siblings.{Siblings}

-- The nodes that are left of some siblings.

-- The nodes that are left.
abbrev pub siblings_left : Siblings → List (Sibling FileNode)
siblings_left left = siblings_from (option_map node_of left.next)
