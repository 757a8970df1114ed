use Rattle.std.specs.Prelude.{ℕ, ◌≡◌, ◌+◌, List, [], ◌∷◌, ◌++◌, map}
use Rattle.bi_base.specs.Limits.{IsInRange}
use Rattle.bi_blob.specs.Tree.{FileNode, FileProperty, Nodes, none, node, as_nodes}
use Rattle.bi_fit.specs.File.{FitMeans}
use Rattle.bi_fit.specs.ImageTree.{ImageTree}
use Rattle.bi_c.specs.Arguments.{bounds}
use Rattle.bi_c.specs.TreeRegions.{HaveNodeBytes, node_name_region, property_name_region}
use Rattle.bi_c.specs.TreeRegions.{value_region}
use Rattle.bi_c.specs.VerdictElements.{nowhere}
use Rattle.bi_c.specs.declared.all_nodes.TreeElement.{TreeElement}

-- All nodes and properties of a flattened image tree, as a call from C returns them (Devicetree
-- Specification, 2.2; the rest is profile of this project).

-- The element of a node that so many nodes contain.
abbrev pub node_in_tree : (above : ℕ) → FileNode → (name : List ℕ) → TreeElement
node_in_tree above own name =
    record { name = node_name_region own name; value = nowhere; depth = above; kind = 1 }

-- The element of a property that so many nodes contain.
abbrev pub property_in_tree : (file : List ℕ) → (above : ℕ) → FileProperty → TreeElement
property_in_tree file above property = record {
  name = property_name_region file property;
  value = value_region property;
  depth = above;
  kind = 2;
}

-- The elements of these nodes, which so many nodes contain: each node with its properties, and then
-- the nodes below it.
abbrev pub tree_elements : (file : List ℕ) → (above : ℕ) → Nodes FileNode → List TreeElement
tree_elements file above none = []
tree_elements file above (node name own children later) =
    node_in_tree above own name
    ∷ (map (property_in_tree file (above + 1)) own.properties
    ++ (tree_elements file (above + 1) children ++ tree_elements file above later))

-- The elements are those of all nodes of the flattened image tree that the file means, from the
-- root on. The file has all their names and values.
pub record AreTreeElements (limit depth : ℕ) (file : List ℕ) (elements : List TreeElement)
    (value : ℕ) : Type 0
  where
    pub limits : IsInRange limit depth
    pub tree : ImageTree
    pub means : FitMeans (bounds limit depth) file tree
    pub are_elements : elements ≡ tree_elements file 0 (as_nodes means.is_file.root)
    pub have_bytes : HaveNodeBytes file (as_nodes means.is_file.root)
    pub no_value : value ≡ 0
