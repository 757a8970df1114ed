use Rattle.std.specs.Prelude.{ℕ, ◌+◌, List, [], ◌∷◌, ◌++◌, Option, Some, None, length, map}
use Rattle.std.specs.Prelude.{flat_map, codes, bytes_eq, option_map, if◌then◌else◌}
use Rattle.std.specs.FinMap.{entries}
use Rattle.std.specs.List.{join_with_byte}
use Rattle.bi_blob.specs.Tree.{Nodes, none, node, Property, PropertyMap, with_each}
use Rattle.bi_fit.specs.ImageTree.{ImageTree}
use Rattle.bi_fit.specs.Names.{images_name}
use Rattle.bi_hash.specs.declared.algo.Algo.TheVariants.{Sha256}
use Rattle.bi_hash.specs.Digests.{digest_of}
use Rattle.bi_legacy.specs.Meaning.{LegacyImage}
use Rattle.bi_norm.specs.Meaning.{Meaning, OfLegacy, OfFit}
use Rattle.bi_common.specs.CommonLines.{header_lines, reservation_line}
use Rattle.bi_common.specs.Lines.{Line, Text, Name, Decimal, Digits, Path, Value, field_texts}
use Rattle.bi_common.specs.Lines.{text_of_lines}

-- The description of what a boot image means: lines that depend on the meaning alone, and not on
-- the layout, the form, padding, versions or the order of properties (profile of this project).

-- A payload, or a part of a legacy image, as a description shows it.
pub record PayloadDigest : Type 0 where
  pub size : ℕ
  pub sha256 : List ℕ

abbrev pub digest_of_payload : List ℕ → PayloadDigest
digest_of_payload payload =
    record { size = length payload; sha256 = digest_of Sha256 payload }

-- The words for its size and its SHA-256.
abbrev pub digest_words : PayloadDigest → Line
digest_words digest =
    Text (codes "size") ∷ Decimal digest.size ∷ Text (codes "sha256") ∷ Digits digest.sha256 ∷ []

-- The line of part `index`.
abbrev pub part_line : (index : ℕ) → PayloadDigest → Line
part_line index part = Text (codes "part") ∷ Decimal index ∷ digest_words part

-- The lines of these parts, the first of which is part `index`.
abbrev pub part_lines : (index : ℕ) → List PayloadDigest → List Line
part_lines index [] = []
part_lines index (part ∷ later) = part_line index part ∷ part_lines (index + 1) later

-- The lines of a legacy image.
abbrev pub legacy_lines : LegacyImage → List Line
legacy_lines image = header_lines image ++ part_lines 0 (map digest_of_payload image.parts)

-- Whether a node is an image node, and the payload of an image node, if it has one.
pub data NodePayload : Type 0 where
  NotAnImage : NodePayload
  OfImage : (payload : Option PayloadDigest) → NodePayload

-- What the lines of a node have besides its path.
pub record DescribedNode : Type 0 where
  pub properties : PropertyMap
  pub payload : NodePayload

-- A node that is not an image node.
abbrev pub plain_node : PropertyMap → DescribedNode
plain_node properties = record { properties = properties; payload = NotAnImage }

-- The image nodes, each with its payload, if it has one.
abbrev pub described_images : Nodes PropertyMap → List (Option (List ℕ)) → Nodes DescribedNode
described_images (node name own children later) (payload ∷ payloads) =
    node name
    (record { properties = own; payload = OfImage (option_map digest_of_payload payload) })
    (with_each plain_node children) (described_images later payloads)
described_images nodes payloads = none

-- The children of a child of the root: the image nodes if its name is `images`.
abbrev pub described_children : (name : List ℕ) → Nodes PropertyMap → List (Option (List ℕ))
    → Nodes DescribedNode
described_children name children payloads =
    if bytes_eq name images_name then described_images children payloads
    else with_each plain_node children

-- The children of the root with all nodes below them.
abbrev pub described_nodes : Nodes PropertyMap → List (Option (List ℕ)) → Nodes DescribedNode
described_nodes none payloads = none
described_nodes (node name own children later) payloads =
    node name (plain_node own) (described_children name children payloads)
    (described_nodes later payloads)

-- The line of a node. A node is named by the names of the nodes on the way to it.
abbrev pub node_line : (names : List (List ℕ)) → Line
node_line names = Text (codes "node") ∷ Path names ∷ []

-- The line of a property.
abbrev pub property_line : (names : List (List ℕ)) → Property → Line
property_line names property =
    Text (codes "property") ∷ Path names ∷ Name property.0 ∷ Value property.1 ∷ []

-- The words for the payload of an image node, if it has one.
abbrev pub payload_words : Option PayloadDigest → Line
payload_words None = Text (codes "none") ∷ []
payload_words (Some digest) = digest_words digest

-- The line of the payload of an image node. Any other node has none.
abbrev pub payload_lines : (names : List (List ℕ)) → NodePayload → List Line
payload_lines names NotAnImage = []
payload_lines names (OfImage payload) =
    (Text (codes "payload") ∷ Path names ∷ payload_words payload) ∷ []

-- The lines of a node without those of its children: its properties are in byte order of their
-- names.
abbrev pub own_lines : (names : List (List ℕ)) → DescribedNode → List Line
own_lines names own =
    node_line names
    ∷ (payload_lines names own.payload ++ map (property_line names) (entries own.properties))

-- The lines of nodes, each before those of its children. `above` are the names on the way from the
-- root to the parent of the nodes.
abbrev pub node_lines : (above : List (List ℕ)) → Nodes DescribedNode → List Line
node_lines above none = []
node_lines above (node name own children later) =
    own_lines (above ++ name ∷ []) own
    ++ (node_lines (above ++ name ∷ []) children ++ node_lines above later)

-- The lines of the nodes of a flattened image tree, the root first.
abbrev pub tree_lines : ImageTree → List Line
tree_lines tree =
    own_lines [] (plain_node tree.root.own)
    ++ node_lines [] (described_nodes tree.root.children tree.payloads)

-- The first two lines of a flattened image tree.
abbrev pub head_lines : (cpu : ℕ) → List Line
head_lines cpu =
    (Text (codes "kind") ∷ Text (codes "fit") ∷ []) ∷ (Text (codes "boot-cpu") ∷ Decimal cpu ∷ [])
    ∷ []

-- The lines of a flattened image tree.
abbrev pub fit_lines : ImageTree → List Line
fit_lines tree =
    head_lines tree.cpu ++ (map reservation_line tree.reservations ++ tree_lines tree)

-- The lines of the description of a meaning.
abbrev pub description_lines : Meaning → List Line
description_lines (OfLegacy image) = legacy_lines image
description_lines (OfFit tree) = fit_lines tree

-- The description of a meaning: its lines, each ended by a newline.
abbrev pub description : Meaning → List ℕ
description meaning = text_of_lines (description_lines meaning)

-- The texts of its lines, each without the newline.
abbrev pub description_texts : Meaning → List (List ℕ)
description_texts meaning =
    map (λ line. join_with_byte 32 (flat_map field_texts line)) (description_lines meaning)
