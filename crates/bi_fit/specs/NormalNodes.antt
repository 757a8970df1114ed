use Rattle.std.specs.Prelude.{◌≡◌, ℕ, ◌<◌, ◌≤◌, ◌^◌, ⊤, Bool, List, [], ◌∷◌, ◌++◌, map, length}
use Rattle.std.specs.Prelude.{Option, Some, None, bytes_eq, if◌then◌else◌}
use Rattle.std.specs.FinMap.{from_entries, entries}
use Rattle.bi_base.specs.Cells.{up_to}
use Rattle.bi_blob.specs.Tree.{Nodes, none, node, Property, PropertyMap, FileNode, AreDistinct}
use Rattle.bi_blob.specs.Tree.{properties_of, with_each}
use Rattle.bi_blob.specs.Lookups.{Sibling, siblings}
use Rattle.bi_blob.specs.Blob.{Reservation}
use Rattle.bi_blob.specs.Events.{Event, NodeStart, NodeProperty}
use Rattle.bi_blob.specs.Layout.{longest_text}
use Rattle.bi_blob.specs.Following.{AllFollow, MayFollowInText, stage_of_events}
use Rattle.bi_lay.specs.Contents.{Doc}
use Rattle.bi_fit.specs.declared.changes.Changes.{Changes}
use Rattle.bi_fit.specs.declared.form.Form.{Form}
use Rattle.bi_fit.specs.declared.form.Form.TheVariants.{Embedded}
use Rattle.bi_fit.specs.declared.image.Image.{Image}
use Rattle.bi_fit.specs.Names.{images_name}
use Rattle.bi_fit.specs.ImageTree.{without_payload, without_payloads}
use Rattle.bi_fit.specs.Text.{alignment_of, blob_alignment, with_payload, with_payloads}
use Rattle.bi_fit.specs.Text.{end_after, payloads_end}
use Rattle.bi_fit.specs.Content.{image_model}
use Rattle.bi_fit.specs.Updating.{with_time}
use Rattle.bi_fit.specs.TakenDigests.{HaveImageDigests, with_digests_from}
use Rattle.bi_fit.specs.TakenDigests.{images_with_digests_from}

-- What is added to the document of the normal text of an updated tree, node by node of the file.

-- A document with more events.
abbrev pub with_events : Doc → List Event → Doc
with_events document events = record document { events = document.events ++ events }

-- These events may be added to a document, one after the other.
abbrev pub MayAdd : Doc → List Event → Type 0
MayAdd document events = AllFollow MayFollowInText (stage_of_events document.events) events

-- No two properties of a node have the same name.
abbrev pub HasDistinctNames : FileNode → Type 0
HasDistinctNames own = AreDistinct (map (λ property. property.0) (properties_of own))

-- A node without its siblings.
abbrev pub alone : {Own : Type 0} → Sibling Own → Nodes Own
alone sibling = node sibling.name sibling.own sibling.children none

-- The properties of a node by name.
abbrev pub properties_by_name : FileNode → PropertyMap
properties_by_name own = from_entries (properties_of own)

-- These nodes and all nodes below them, with the properties of each by name.
abbrev pub nodes_by_name : Nodes FileNode → Nodes PropertyMap
nodes_by_name nodes = with_each from_entries (with_each properties_of nodes)

-- Nodes with the properties of each in byte order.
abbrev pub sorted_nodes : Nodes FileNode → Nodes (List Property)
sorted_nodes nodes = with_each entries (nodes_by_name nodes)

-- The events with which a node begins: its start and its properties, in byte order.
abbrev pub begin_events : List ℕ → PropertyMap → List Event
begin_events name properties = NodeStart name ∷ map NodeProperty (entries properties)

-- A node with the given name, these properties and no children, without its siblings.
abbrev pub leaf : List ℕ → PropertyMap → Nodes (List Property)
leaf name properties = node name (entries properties) none none

-- Nodes without children: the name and the properties of each.
abbrev pub leaf_nodes : List (List ℕ × PropertyMap) → Nodes (List Property)
leaf_nodes [] = none
leaf_nodes (first ∷ later) = node first.0 (entries first.1) none (leaf_nodes later)

-- The payload of each of these images, if it has one.
abbrev pub payloads_of : List Image → List (Option (List ℕ))
payloads_of images = map (λ image. image.payload) (map image_model images)

-- The properties of an image node by name, with those that give its payload.
abbrev pub image_properties : Form → (begin : ℕ) → Option (List ℕ) → FileNode → PropertyMap
image_properties form begin payload own =
    with_payload (alignment_of form) begin payload (without_payload (properties_by_name own))

-- The children of an image node, with the properties of each in byte order.
abbrev pub sorted_image_children : (hashed : Bool) → (digests : List ℕ) → Nodes FileNode
    → Nodes (List Property)
sorted_image_children hashed digests nodes =
    with_each entries (with_digests_from hashed digests (nodes_by_name nodes))

-- Image nodes with the properties of each in byte order.
abbrev pub sorted_images : (hashes : Bool) → Form → (end : ℕ) → List (Option (List ℕ))
    → (digests : List ℕ) → Nodes FileNode → Nodes (List Property)
sorted_images hashes form end payloads digests nodes =
    with_each entries
    (with_payloads (alignment_of form) end payloads
    (images_with_digests_from hashes payloads digests (without_payloads (nodes_by_name nodes))))

-- The node that has the image nodes as children, without its siblings.
abbrev pub sorted_images_node : (hashes : Bool) → Form → List (Option (List ℕ))
    → (digests : List ℕ) → Sibling FileNode → Nodes (List Property)
sorted_images_node hashes form payloads digests sibling =
    node sibling.name (entries (properties_by_name sibling.own))
    (sorted_images hashes form 0 payloads digests sibling.children) none

-- The size of a payload fits a cell, if the form has it in one.
abbrev pub HasCellSize : Form → Option (List ℕ) → Type 0
HasCellSize Embedded payload = ⊤
HasCellSize form None = ⊤
HasCellSize form (Some payload) = length payload < 2 ^ 32

-- Where the next payload begins, if those before it end at `end`. That matters only for external
-- payloads.
abbrev pub next_begin : Form → (end : ℕ) → ℕ
next_begin form end = up_to (blob_alignment (alignment_of form)) end

-- Where the payloads end once there is one more, if they ended at `end` before it. That matters
-- only for external payloads.
abbrev pub next_end : Form → (end : ℕ) → Option (List ℕ) → ℕ
next_end Embedded end payload = end
next_end form end payload = end_after (blob_alignment (alignment_of form)) end payload

-- The payloads end within the longest text, if the form has them after the blob.
abbrev pub AreWithin : Form → (end : ℕ) → List (Option (List ℕ)) → Type 0
AreWithin Embedded end payloads = ⊤
AreWithin form end payloads =
    payloads_end (blob_alignment (alignment_of form)) end payloads ≤ longest_text

-- These are the nodes of these images, and the bytes hold the digests of their hash nodes.
pub record AreImageNodes (hashes : Bool) (images : List Image) (digests : List ℕ)
    (nodes : Nodes FileNode) : Type 0 where
  pub same_count : length (siblings nodes) ≡ length images
  pub has_digests : HaveImageDigests hashes (payloads_of images) digests (nodes_by_name nodes)

-- This holds for the children of each of these nodes that has the name `images`.
abbrev pub HaveImageNodes : (Nodes FileNode → Type 0) → Nodes FileNode → Type 0
HaveImageNodes AreImages none = ⊤
HaveImageNodes AreImages (node name own children later) =
    (name ≡ images_name → AreImages children) × HaveImageNodes AreImages later

-- The children of a child of the root, with the properties of each in byte order: they are image
-- nodes, if the child has the name `images`.
abbrev pub sorted_below : (hashes : Bool) → Form → List (Option (List ℕ)) → (digests : List ℕ)
    → (name : List ℕ) → Nodes FileNode → Nodes (List Property)
sorted_below hashes form payloads digests name children =
    if bytes_eq name images_name then sorted_images hashes form 0 payloads digests children
    else sorted_nodes children

-- The children of the root with the properties of each in byte order.
abbrev pub sorted_root_children : (hashes : Bool) → Form → List (Option (List ℕ))
    → (digests : List ℕ) → Nodes FileNode → Nodes (List Property)
sorted_root_children hashes form payloads digests none = none
sorted_root_children hashes form payloads digests (node name own children later) =
    node name (entries (properties_by_name own))
    (sorted_below hashes form payloads digests name children)
    (sorted_root_children hashes form payloads digests later)

-- The root as a list of one node, with the properties of each node in byte order.
abbrev pub sorted_root : Changes → Form → List (Option (List ℕ)) → (digests : List ℕ)
    → Sibling FileNode → Nodes (List Property)
sorted_root changes form payloads digests root =
    node root.name (entries (with_time changes.time (properties_by_name root.own)))
    (sorted_root_children changes.hashes form payloads digests root.children) none

-- A document with more memory reservations.
abbrev pub with_reservations : Doc → List Reservation → Doc
with_reservations document reservations =
    record document { reservations = document.reservations ++ reservations }
