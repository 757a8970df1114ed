use Rattle.std.specs.Prelude.{◌≡◌, ℕ, ◌+◌, ◌<◌, ◌≤◌, ⊤, List, map, length, Some, None}
use Rattle.std.specs.Prelude.{slice_get, bytes_eq, filter}
use Rattle.std.specs.List.{AllByRecursion, AllZip}
use Rattle.bi_blob.specs.Lookups.{Sibling, root_node, node_named}
use Rattle.bi_blob.specs.Tree.{Nodes, none, node, Root, FileProperty, FileNode, as_nodes}
use Rattle.bi_blob.specs.Tree.{AreProperties, IsTree, tree_without_places}
use Rattle.bi_fdt.specs.Content.{Blob, root_of}
use Rattle.bi_coverage.specs.ChildNumbers.{Children, child_number}
use Rattle.bi_coverage.specs.Coverage.{names_end}
use Rattle.bi_coverage.specs.Numbers.{greatest}
use Rattle.bi_coverage.specs.Paths.{path_text, all_nodes}

-- An index of the nodes of a tree.

-- Among these nodes, the children of a node have these numbers.
pub record HasChildren (nodes : List (Sibling FileNode)) (parent : Sibling FileNode)
    (children : Children) : Type 0 where
  pub absent : (name : List ℕ) → child_number children name ≡ None
      → node_named parent.children name ≡ None
  pub there : (name : List ℕ) (index : ℕ) → child_number children name ≡ Some index
      → (slice_get nodes index ≡ node_named parent.children name) × (index < length nodes)

-- The nodes of a tree have numbers, the root has 0, and these are the children of each node and the
-- ends of the names of its properties.
pub record IsNodeIndex (file : List ℕ) (root : Root FileNode) (children : List Children)
    (ends : List ℕ) : Type 0 where
  pub nodes : List (Sibling FileNode)
  pub is_root : slice_get nodes 0 ≡ Some (root_node root)
  pub have_children : AllZip (HasChildren nodes) nodes children
  pub have_ends : ends ≡ map (λ sibling. names_end file sibling.own) nodes

-- The token of a property is in a file.
abbrev pub HasTokenIn : (file : List ℕ) → FileProperty → Type 0
HasTokenIn file property = property.place + 12 ≤ length file

-- So are those of all properties of these nodes and all nodes below them.
abbrev pub HaveTokensBelow : (file : List ℕ) → Nodes FileNode → Type 0
HaveTokensBelow file none = ⊤
HaveTokensBelow file (node name own children later) =
    AllByRecursion (HasTokenIn file) own.properties
    × HaveTokensBelow file children × HaveTokensBelow file later

-- So are those of all properties of a tree.
abbrev pub HaveTokens : (file : List ℕ) → Root FileNode → Type 0
HaveTokens file root = HaveTokensBelow file (as_nodes root)

-- The nodes of a blob, which has a tree, have these numbers.
pub record IsIndexOf (blob : Blob) (children : List Children) (ends : List ℕ) : Type 0 where
  pub is_index : IsNodeIndex blob.file (root_of blob) children ends
  pub is_tree : IsTree AreProperties (tree_without_places (root_of blob))

-- Where the last name of the properties of the nodes with this path ends.
abbrev pub path_end : (file : List ℕ) → Root FileNode → (path : List ℕ) → ℕ
path_end file root path =
    greatest
    (map (λ located. names_end file located.own)
    (filter (λ located. bytes_eq path (path_text located.names)) (all_nodes root)))
