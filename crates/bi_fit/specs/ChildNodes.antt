use Rattle.std.specs.Prelude.{List, flat_map}
use Rattle.bi_blob.specs.Tree.{FileNode}
use Rattle.bi_blob.specs.Lookups.{Sibling, siblings}

-- The children of nodes of a file.

-- The children of these nodes.
abbrev pub children_of_each : List (Sibling FileNode) → List (Sibling FileNode)
children_of_each nodes = flat_map (λ sibling. siblings sibling.children) nodes
