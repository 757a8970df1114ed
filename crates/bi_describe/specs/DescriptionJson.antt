use Rattle.std.specs.Prelude.{ℕ, List, [], ◌∷◌, ◌++◌, Option, None, Some, map, codes}
use Rattle.std.specs.Prelude.{if◌then◌else◌}
use Rattle.std.specs.FinMap.{entries}
use Rattle.bi_blob.specs.Tree.{Nodes, none, node, Property}
use Rattle.bi_fit.specs.ImageTree.{ImageTree}
use Rattle.bi_fit.specs.Judgement.{listed_names}
use Rattle.bi_legacy.specs.Meaning.{LegacyImage}
use Rattle.bi_norm.specs.Meaning.{Meaning, OfLegacy, OfFit}
use Rattle.bi_common.specs.Json.{Json, Member, json_string, json_number, json_null}
use Rattle.bi_common.specs.Json.{json_array, json_object, json_line}
use Rattle.bi_common.specs.CommonLines.{header_members, name_member, reservations_member}
use Rattle.bi_common.specs.ValueTexts.{are_quotable_texts, hexadecimal_digits}
use Rattle.bi_describe.specs.Descriptions.{PayloadDigest, digest_of_payload, NodePayload}
use Rattle.bi_describe.specs.Descriptions.{NotAnImage, OfImage, DescribedNode, plain_node}
use Rattle.bi_describe.specs.Descriptions.{described_nodes}

-- The JSON that `describe` writes: it depends on the meaning alone (profile of this project).

-- The members for the size and the SHA-256 of a payload.
abbrev pub digest_members : PayloadDigest → List Member
digest_members digest =
    (codes "size", json_number digest.size)
    ∷ (codes "sha256", json_string (hexadecimal_digits digest.sha256)) ∷ []

-- A payload, or a part of a legacy image: its size and its SHA-256, and these members after them.
abbrev pub digest_object_with : (later : List Member) → PayloadDigest → Json
digest_object_with later digest = json_object (digest_members digest ++ later)

abbrev pub digest_object : PayloadDigest → Json
digest_object digest = digest_object_with [] digest

-- A legacy image whose parts have these objects.
abbrev pub legacy_object_with : (parts : List Json) → LegacyImage → Json
legacy_object_with parts image =
    json_object (header_members image ++ (codes "parts", json_array parts) ∷ [])

abbrev pub legacy_object : LegacyImage → Json
legacy_object image =
    legacy_object_with (map (λ part. digest_object (digest_of_payload part)) image.parts) image

-- The member for the value of a property: its texts, if it is one or more texts, or else its
-- bytes.
abbrev pub value_member : List ℕ → Member
value_member value =
    if are_quotable_texts value
    then (codes "strings", json_array (map json_string (listed_names value)))
    else (codes "hex", json_string (hexadecimal_digits value))

-- A property.
abbrev pub property_object : Property → Json
property_object property =
    json_object (name_member (codes "name") property.0 ∷ value_member property.1 ∷ [])

-- The payload of an image, if it has one, with these members after its SHA-256.
abbrev pub payload_or_null_with : (later : List Member) → Option PayloadDigest → Json
payload_or_null_with later None = json_null
payload_or_null_with later (Some digest) = digest_object_with later digest

abbrev pub payload_or_null : Option PayloadDigest → Json
payload_or_null payload = payload_or_null_with [] payload

-- The member for the payload of an image node. Any other node has none.
abbrev pub payload_members_with : (later : List Member) → NodePayload → List Member
payload_members_with later NotAnImage = []
payload_members_with later (OfImage payload) =
    (codes "payload", payload_or_null_with later payload) ∷ []

abbrev pub payload_members : NodePayload → List Member
payload_members payload = payload_members_with [] payload

-- The members of a node after its name, if it has children with these values. Its properties are in
-- byte order of their names.
abbrev pub node_members_with : (later : List Member) → DescribedNode → (children : List Json)
    → List Member
node_members_with later own children =
    payload_members_with later own.payload
    ++ (codes "properties", json_array (map property_object (entries own.properties)))
    ∷ (codes "children", json_array children) ∷ []

abbrev pub node_members : DescribedNode → (children : List Json) → List Member
node_members own children = node_members_with [] own children

-- These nodes, each with those below it. By the name of an image: the members after the SHA-256 of
-- its payload.
abbrev pub node_objects_with : (inside : List ℕ → List Member) → Nodes DescribedNode → List Json
node_objects_with inside none = []
node_objects_with inside (node name own children later) =
    json_object
    (name_member (codes "name") name
    ∷ node_members_with (inside name) own (node_objects_with inside children))
    ∷ node_objects_with inside later

abbrev pub node_objects : Nodes DescribedNode → List Json
node_objects nodes = node_objects_with (λ name. []) nodes

-- A flattened image tree, with these members after the SHA-256 of a payload.
abbrev pub fit_object_with : (inside : List ℕ → List Member) → ImageTree → Json
fit_object_with inside tree =
    json_object
    ((codes "kind", json_string (codes "fit"))
    ∷ (codes "boot_cpu", json_number tree.cpu)
    ∷ reservations_member tree.reservations
    ∷ (
      codes "root",
      json_object
          (node_members (plain_node tree.root.own)
          (node_objects_with inside (described_nodes tree.root.children tree.payloads))),
    ) ∷ [])

abbrev pub fit_object : ImageTree → Json
fit_object tree = fit_object_with (λ name. []) tree

-- What a boot image means.
abbrev pub meaning_object : Meaning → Json
meaning_object (OfLegacy image) = legacy_object image
meaning_object (OfFit tree) = fit_object tree

-- The text of the description of a meaning in JSON.
abbrev pub description_json : Meaning → List ℕ
description_json meaning = json_line (meaning_object meaning)
