use Rattle.std.proofs.Common.{◌≡◌, ℕ, Bool, true, false, cond, List, [], ◌∷◌, Option, bytes_eq, refl, ap₂}
use Rattle.std.specs.Option.{option_map}
use Rattle.bi_blob.specs.Tree.{Nodes, none, node, PropertyMap, with_each}
use Rattle.bi_fit.specs.Names.{images_name}
use Rattle.bi_describe.specs.ComparedNodes.{ComparedNode, compared_children, compared_images, nodes_to_compare, described_node}
use Rattle.bi_describe.specs.ComparedNodes.{plain_compared}
use Rattle.bi_describe.specs.Descriptions.{DescribedNode, OfImage, described_children, described_images, described_nodes}
use Rattle.bi_describe.specs.Descriptions.{digest_of_payload, plain_node}

-- The nodes of a tree as they are compared are described as in a description.

-- Nodes as a description shows them.
abbrev pub as_described : Nodes ComparedNode → Nodes DescribedNode
as_described nodes = with_each described_node nodes

pub plain_described : (nodes : Nodes PropertyMap) → as_described (with_each plain_compared nodes) ≡ with_each plain_node nodes
plain_described none = refl
plain_described (node name own children later) =
    ap₂ (node name (plain_node own)) (plain_described children) (plain_described later)

images_described : (nodes : Nodes PropertyMap) (payloads : List (Option (List ℕ))) →
    as_described (compared_images nodes payloads) ≡ described_images nodes payloads
images_described none payloads = refl
images_described (node name own children later) [] = refl
images_described (node name own children later) (payload ∷ payloads) =
    ap₂ (node name (record { properties = own; payload = OfImage (option_map digest_of_payload payload) })) (plain_described children)
    (images_described later payloads)

children_described : (name : List ℕ) (children : Nodes PropertyMap) (payloads : List (Option (List ℕ))) →
    as_described (compared_children name children payloads) ≡ described_children name children payloads
children_described name children payloads = by (bytes_eq name images_name)
  where
    by : (b : Bool) → as_described (cond b (compared_images children payloads) (with_each plain_compared children))
        ≡ cond b (described_images children payloads) (with_each plain_node children)
    by true = images_described children payloads
    by false = plain_described children

pub nodes_described : (nodes : Nodes PropertyMap) (payloads : List (Option (List ℕ))) →
    as_described (nodes_to_compare nodes payloads) ≡ described_nodes nodes payloads
nodes_described none payloads = refl
nodes_described (node name own children later) payloads =
    ap₂ (node name (plain_node own)) (children_described name children payloads) (nodes_described later payloads)
