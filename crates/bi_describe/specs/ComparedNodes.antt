use Rattle.std.specs.Prelude.{ℕ, List, ◌∷◌, Option, option_map, bytes_eq, if◌then◌else◌}
use Rattle.bi_blob.specs.Tree.{Nodes, none, node, PropertyMap, with_each}
use Rattle.bi_fit.specs.Names.{images_name}
use Rattle.bi_describe.specs.Descriptions.{DescribedNode, NodePayload, NotAnImage, OfImage}
use Rattle.bi_describe.specs.Descriptions.{digest_of_payload}

-- The nodes of a flattened image tree as they are compared: image nodes have the bytes of their
-- payloads, of which a description has only the size and the SHA-256.

-- Whether a node is an image node, and the bytes of the payload of an image node, if it has one.
pub data ComparedPayload : Type 0 where
  NoImage : ComparedPayload
  ImageWith : (payload : Option (List ℕ)) → ComparedPayload

-- What a node has itself.
pub record ComparedNode : Type 0 where
  pub properties : PropertyMap
  pub payload : ComparedPayload

-- A node that is not an image node.
abbrev pub plain_compared : PropertyMap → ComparedNode
plain_compared properties = record { properties = properties; payload = NoImage }

-- The image nodes, each with its payload, if it has one.
abbrev pub compared_images : Nodes PropertyMap → List (Option (List ℕ)) → Nodes ComparedNode
compared_images (node name own children later) (payload ∷ payloads) =
    node name (record { properties = own; payload = ImageWith payload })
    (with_each plain_compared children) (compared_images later payloads)
compared_images nodes payloads = none

-- The children of a child of the root: the image nodes if its name is `images`.
abbrev pub compared_children : (name : List ℕ) → Nodes PropertyMap → List (Option (List ℕ))
    → Nodes ComparedNode
compared_children name children payloads =
    if bytes_eq name images_name then compared_images children payloads
    else with_each plain_compared children

-- The children of the root with all nodes below them.
abbrev pub nodes_to_compare : Nodes PropertyMap → List (Option (List ℕ)) → Nodes ComparedNode
nodes_to_compare none payloads = none
nodes_to_compare (node name own children later) payloads =
    node name (plain_compared own) (compared_children name children payloads)
    (nodes_to_compare later payloads)

-- The payload as a description shows it.
abbrev pub described_payload : ComparedPayload → NodePayload
described_payload NoImage = NotAnImage
described_payload (ImageWith payload) = OfImage (option_map digest_of_payload payload)

-- The node as a description shows it.
abbrev pub described_node : ComparedNode → DescribedNode
described_node own =
    record { properties = own.properties; payload = described_payload own.payload }
