use Rattle.std.specs.Prelude.{◌≡◌, List, [], ◌∷◌, Option, None, Some, map, option_map, IfSome}
use Rattle.std.specs.Prelude.{MatchOption}
use Rattle.std.specs.Borrow.{Bor}
use Rattle.bi_blob.specs.Tree.{FileNode}
use Rattle.bi_blob.specs.Lookups.{Sibling, node_at, siblings_from}
use Rattle.bi_fdt.specs.declared.node.NodeRef.{NodeRef}
use Rattle.bi_fdt.specs.Views.{node_of, table_of_node}
use Rattle.bi_fit.specs.declared.image.Image.{Image}
use Rattle.bi_fit.specs.declared.nodes.ImagesWithNodes.{ImagesWithNodes}
use Rattle.bi_fit.specs.Content.{ImageModel, image_model}

-- The images that are left, with their nodes.

-- The nodes that are left.
abbrev pub nodes_left : ImagesWithNodes → List (Sibling FileNode)
nodes_left left = siblings_from (option_map node_of left.next)

-- The images that are left.
abbrev pub models_left : ImagesWithNodes → List ImageModel
models_left left = map image_model left.images.now

-- The children of a node are left, with these images.
pub record AreAllLeft (parent : NodeRef) (images : List Image) (left : ImagesWithNodes) : Type 0
  where
    pub child : option_map node_of left.next ≡ node_at (node_of parent).children 0
    pub same_table : IfSome left.next (λ node. table_of_node node ≡ table_of_node parent)
    pub same_images : left.images.now ≡ images

-- The first node and its image were taken of those that were left, and the others are left.
pub record IsFirst (old : ImagesWithNodes) (first : NodeRef × Bor Image) (new : ImagesWithNodes)
    : Type 0 where
  pub node : old.next ≡ Some first.0
  pub sibling : option_map node_of new.next ≡ node_at (node_of first.0).later 0
  pub same_table : IfSome new.next (λ node. table_of_node node ≡ table_of_node first.0)
  pub nodes : nodes_left old ≡ node_of first.0 ∷ nodes_left new
  pub images : old.images.now ≡ first.1.now ∷ new.images.now

-- None was left.
pub record IsNone (old new : ImagesWithNodes) : Type 0 where
  pub node : old.next ≡ None
  pub nodes : nodes_left old ≡ []
  pub images : old.images.now ≡ []
  pub same : new ≡ old

-- The first was taken, or none was left.
abbrev pub GivesNext : ImagesWithNodes → Option (NodeRef × Bor Image) → ImagesWithNodes → Type 0
GivesNext old result new =
    MatchOption result (IsNone old new) (λ first. IsFirst old first new)
