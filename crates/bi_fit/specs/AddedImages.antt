use Rattle.std.specs.Prelude.{◌≡◌, ℕ, ◌≤◌, List, [], map, Option, option_map}
use Rattle.std.specs.List.{AllByRecursion}
use Rattle.std.specs.FinMap.{entries}
use Rattle.bi_blob.specs.Tree.{Nodes, none, node, Property, PropertyMap, EachOwn}
use Rattle.bi_blob.specs.Events.{events}
use Rattle.bi_blob.specs.Layout.{longest_text}
use Rattle.bi_fdt.specs.Views.{node_of}
use Rattle.bi_lay.specs.Contents.{Doc}
use Rattle.bi_fit.specs.declared.document.image_node.ImageChildren.{ImageChildren}
use Rattle.bi_fit.specs.declared.document.image_node.ImageChildren.TheVariants.{OfNode, Leaves}
use Rattle.bi_fit.specs.declared.document.image_node.ImageNode.{ImageNode}
use Rattle.bi_fit.specs.declared.form.Form.{Form}
use Rattle.bi_fit.specs.declared.payload_area.PayloadArea.{PayloadArea}
use Rattle.bi_fit.specs.ImageTree.{without_payload}
use Rattle.bi_fit.specs.NormalNodes.{MayAdd, HasDistinctNames, HasCellSize, next_begin}
use Rattle.bi_fit.specs.NormalNodes.{nodes_by_name, sorted_image_children, leaf_nodes}
use Rattle.bi_fit.specs.Leaves.{leaf_model}
use Rattle.bi_fit.specs.NameOrders.{HasOrder}
use Rattle.bi_fit.specs.TakenDigests.{HaveDigests, after_digests}
use Rattle.bi_fit.specs.Text.{alignment_of, with_payload}

-- Image nodes that are added to a document, from a file or from a specification.

-- The payload of an image node, if it has one.
abbrev pub added_payload : ImageNode → Option (List ℕ)
added_payload image = option_map (λ payload. payload.now) image.payload

-- The children that are added, with the properties of each in byte order.
abbrev pub added_children : ImageChildren → Nodes (List Property)
added_children (OfNode parent) =
    sorted_image_children parent.hashed parent.digests.now (node_of parent.node).children
added_children (Leaves nodes) = leaf_nodes (map leaf_model nodes.now)

-- The digests after those of the hash nodes of a file. There are none if the children are given.
abbrev pub digests_left : ImageChildren → List ℕ
digests_left (OfNode parent) =
    after_digests parent.hashed parent.digests.now (nodes_by_name (node_of parent.node).children)
digests_left (Leaves nodes) = []

-- The children may be added to a document with these names. The order of a file, or the properties
-- of the given nodes, are by these names. There are digests for the hash nodes of the file, and no
-- node of it has two properties with the same name.
abbrev pub AreAddable : List (List ℕ) → ImageChildren → Type 0
AreAddable names (OfNode parent) =
    HasOrder names parent.order.now parent.node
    × HaveDigests parent.hashed parent.digests.now (nodes_by_name (node_of parent.node).children)
    × EachOwn HasDistinctNames (node_of parent.node).children
AreAddable names (Leaves nodes) = AllByRecursion (λ leaf. names ≡ leaf.properties.names) nodes.now

-- The properties that are added, with those that give the payload. `begin` is the offset of an
-- external payload from the end of the blob.
abbrev pub added_properties : Form → (begin : ℕ) → ImageNode → PropertyMap
added_properties form begin image =
    with_payload (alignment_of form) begin (added_payload image)
    (without_payload image.properties.by_name)

-- The image node that is added, without its siblings.
abbrev pub added_image : Form → (begin : ℕ) → ImageNode → Nodes (List Property)
added_image form begin image =
    node image.name.now (entries (added_properties form begin image))
    (added_children image.children) none

-- An image node may be added to a document, with its payload after those of the area.
pub record IsAddable (document : Doc) (area : PayloadArea) (image : ImageNode) : Type 0 where
  pub names : document.names ≡ image.properties.names
  pub small : area.end ≤ longest_text
  pub sized : HasCellSize area.form (added_payload image)
  pub children : AreAddable document.names image.children
  pub may : MayAdd document
      (events (added_image area.form (next_begin area.form area.end) image))
