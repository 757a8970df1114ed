use Rattle.std.proofs.Common.{◌≡◌, ◌∷◌, Option, Some, ap, ◌∙◌, rules}
use Rattle.std.specs.Option.{option_map}
use Rattle.bi_blob.specs.Tree.{Nodes, FileNode}
use Rattle.bi_blob.specs.Lookups.{siblings, node_at}
use Rattle.bi_blob.proofs.Blobs.Lookups.{siblings_from-first}
use Rattle.bi_fdt.specs.declared.node.NodeRef.{NodeRef}
use Rattle.bi_fdt.specs.Views.{node_of}
use Rattle.bi_blob.specs.Lookups.{siblings_from}

-- From the first of some nodes on, all are left, and after a node, those from the next one on.

-- From the first of some nodes on, all are left.
pub from_first : (first : Option NodeRef) (nodes : Nodes FileNode) → option_map node_of first ≡ node_at nodes 0 →
    siblings_from (option_map node_of first) ≡ siblings nodes
from_first first nodes is = ap siblings_from is ∙ siblings_from-first nodes

-- After a node those are left that begin with the next one.
pub from_next : (left next : Option NodeRef) (first : NodeRef) → left ≡ Some first →
    option_map node_of next ≡ node_at (node_of first).later 0 →
    siblings_from (option_map node_of left) ≡ node_of first ∷ siblings_from (option_map node_of next)
from_next left next first is next_is = search (rules, from_first)
