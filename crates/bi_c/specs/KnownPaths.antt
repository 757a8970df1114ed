use Rattle.std.specs.Prelude.{◌≡◌, List, [], ℕ, codes, Option, None, Some}
use Rattle.std.specs.Option.{option_map}
use Rattle.bi_blob.specs.Lookups.{Sibling, root_node}
use Rattle.bi_blob.specs.Tree.{FileNode, Nodes, none, node}
use Rattle.bi_c.specs.NodeElements.{node_at_path}

-- The nodes at some paths of a small tree. A reader can judge the definition of a path by them.

-- A node without properties.
abbrev pub bare_node : FileNode
bare_node = record { place = 0; properties = [] }

-- A node `a`, with two children, `b` and `c`.
abbrev pub three_nodes : Nodes FileNode
three_nodes =
    node (codes "a") bare_node
    (node (codes "b") bare_node none (node (codes "c") bare_node none none)) none

-- The name of the node at a path, of a tree with these nodes below its root.
abbrev pub name_at_path : (path : List ℕ) → Option (List ℕ)
name_at_path path =
    option_map (λ (found : Sibling FileNode). found.name)
    (node_at_path (root_node (record { own = bare_node; children = three_nodes })) path)

-- The names of the nodes at some paths, and paths without a node.
pub record PathsAreKnown : Type 0 where
  pub root : name_at_path (codes "/") ≡ Some []
  pub child : name_at_path (codes "/a") ≡ Some (codes "a")
  pub last : name_at_path (codes "/a/c") ≡ Some (codes "c")
  pub nothing : name_at_path [] ≡ None
  pub other_name : name_at_path (codes "/b") ≡ None
  pub without_slash : name_at_path (codes "a") ≡ None
  pub slash_after_it : name_at_path (codes "/a/") ≡ None
  pub two_slashes : name_at_path (codes "//a") ≡ None
