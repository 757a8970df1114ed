use Rattle.std.specs.Prelude.{◌≡◌, ℕ, List, map}
use Rattle.bi_blob.specs.Tree.{Nodes, EachOwn, FileNode, with_each}
use Rattle.bi_blob.specs.Lookups.{Sibling}
use Rattle.bi_fdt.specs.Order.{KeyedProperty}
use Rattle.bi_fit.specs.NormalNodes.{nodes_by_name, properties_by_name}
use Rattle.bi_tree.specs.Properties.{TreePropertyModel}
use Rattle.bi_tree.specs.TreeNodes.{TreeNodeModel}
use Rattle.bi_tree.specs.Trees.{AreNumberedAmong, by_name}
use Rattle.bi_plain.specs.PlainNodes.{AreNumberedNodes, models_by_name}

-- What nodes of a tree that can be changed have, if they are read from a file.

-- Properties whose keys are the numbers of their names.
abbrev pub numbered_properties : List KeyedProperty → List TreePropertyModel
numbered_properties keyed =
    map (λ one. record { name = one.1.name; number = one.0; value = one.1.value }) keyed

-- These are the properties of a node of a file, and give the numbers of their names.
pub record AreReadProperties (names : List (List ℕ)) (own : FileNode)
    (properties : List TreePropertyModel) : Type 0 where
  pub same : by_name properties ≡ properties_by_name own
  pub numbered : AreNumberedAmong names properties

-- These are nodes of a file with all nodes below them, and their properties give the numbers of
-- their names.
pub record AreReadNodes (names : List (List ℕ)) (nodes : Nodes FileNode) (tops : List TreeNodeModel)
    : Type 0 where
  pub same : models_by_name tops ≡ nodes_by_name nodes
  pub numbered : AreNumberedNodes names tops

-- So is this node.
pub record IsReadNode (names : List (List ℕ)) (sibling : Sibling FileNode) (top : TreeNodeModel)
    : Type 0 where
  pub name : top.name ≡ sibling.name
  pub own : AreReadProperties names sibling.own top.own
  pub same : with_each by_name top.children ≡ nodes_by_name sibling.children
  pub numbered : EachOwn (AreNumberedAmong names) top.children
