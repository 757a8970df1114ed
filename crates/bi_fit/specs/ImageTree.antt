use Rattle.std.specs.Prelude.{◌≡◌, ℕ, ◌^◌, ◌<◌, true, not, List, [], ◌∷◌, Option, Some, None}
use Rattle.std.specs.Prelude.{option_map, bytes_eq, if◌then◌else◌, IfSome, ⊤}
use Rattle.std.specs.List.{AllByRecursion, AllZip}
use Rattle.std.specs.FinMap.{get, retain_keys}
use Rattle.bi_base.specs.Cells.{AreBytes}
use Rattle.bi_blob.specs.Tree.{Nodes, none, node, Root, PropertyMap, IsTree, IsPropertyName}
use Rattle.bi_blob.specs.Lookups.{node_named}
use Rattle.bi_blob.specs.Blob.{Reservation, IsReservation}
use Rattle.bi_fit.specs.Names.{images_name, is_payload_name}

-- What a flattened image tree means (Flattened Image Tree Specification): the boot processor, the
-- memory reservations and the tree of a devicetree blob, and the payload of each image node, or
-- that it has none. The four properties that hold a payload or name its region are not in the tree:
-- where a file has its payloads is not part of what it means (profile of this project).
pub record ImageTree : Type 0 where
  pub cpu : ℕ
  pub reservations : List Reservation
  pub root : Root PropertyMap
  pub payloads : List (Option (List ℕ))

-- The children of the first of these nodes with the given name, if one has it.
abbrev pub children_of : {Own : Type 0} → List ℕ → Nodes Own → Option (Nodes Own)
children_of wanted nodes = option_map (λ found. found.children) (node_named nodes wanted)

-- The same nodes, with other children in the first of them with the given name.
abbrev pub with_children_of : {Own : Type 0} → List ℕ → (Nodes Own → Nodes Own) → Nodes Own
    → Nodes Own
with_children_of wanted change none = none
with_children_of wanted change (node name own children later) =
    if bytes_eq name wanted then node name own (change children) later
    else node name own children (with_children_of wanted change later)

-- What each of these nodes has itself, in order. The nodes below them are left out.
abbrev pub each_own : {Own : Type 0} → Nodes Own → List Own
each_own none = []
each_own (node name own children later) = own ∷ each_own later

-- The image nodes of a tree: the children of the root's child `images`. There are none if the root
-- has no such child, which is not the same as a child without children.
abbrev pub image_nodes : {Own : Type 0} → Root Own → Option (Nodes Own)
image_nodes root = children_of images_name root.children

-- The nodes of a list. There may be no list.
abbrev pub nodes_or_none : {Own : Type 0} → Option (Nodes Own) → Nodes Own
nodes_or_none None = none
nodes_or_none (Some nodes) = nodes

-- The same tree, with other image nodes.
abbrev pub with_image_nodes : {Own : Type 0} → (Nodes Own → Nodes Own) → Root Own → Root Own
with_image_nodes change root =
    record { own = root.own; children = with_children_of images_name change root.children }

-- The properties of an image node, except the four that hold a payload or name its region.
abbrev pub without_payload : PropertyMap → PropertyMap
without_payload properties = retain_keys properties (λ name. not (is_payload_name name))

-- The same nodes, each without these properties. The nodes below them keep theirs: the names have a
-- meaning only in image nodes (profile of this project).
abbrev pub without_payloads : Nodes PropertyMap → Nodes PropertyMap
without_payloads none = none
without_payloads (node name own children later) =
    node name (without_payload own) children (without_payloads later)

-- A tree with image nodes without these properties.
abbrev pub tree_without_payloads : Root PropertyMap → Root PropertyMap
tree_without_payloads root = with_image_nodes without_payloads root

-- A property that a blob can hold.
pub record IsProperty (name value : List ℕ) : Type 0 where
  pub is_name : IsPropertyName name
  pub name_bytes : AreBytes name
  pub value_bytes : AreBytes value

-- Properties by name that a node can have.
abbrev pub ArePropertiesByName : PropertyMap → Type 0
ArePropertiesByName properties = (name value : List ℕ) → get properties name ≡ Some value
    → IsProperty name value

-- The names of these nodes and of all below them are bytes.
abbrev pub HaveByteNames : {Own : Type 0} → Nodes Own → Type 0
HaveByteNames none = ⊤
HaveByteNames (node name own children later) =
    AreBytes name × HaveByteNames children × HaveByteNames later

-- An image node has none of the four properties, and its payload, if it has one, is bytes.
pub record IsApart (properties : PropertyMap) (payload : Option (List ℕ)) : Type 0 where
  pub no_payload_name : (name : List ℕ) → is_payload_name name ≡ true → get properties name ≡ None
  pub bytes : IfSome payload AreBytes

-- What an image tree must be so that a file can mean it, if the file is not longer than its limit
-- and the tree not deeper than the limit of its depth: numbers are in their ranges, names are
-- names, names and values are bytes, there is a child `images`, and each image node has one payload
-- or none, apart from its properties. The depth is how many nodes are inside one another at most,
-- the root included (`depth_of`).
pub record IsImageTree (tree : ImageTree) : Type 0 where
  pub cpu_fits : tree.cpu < 2 ^ 32
  pub are_reservations : AllByRecursion IsReservation tree.reservations
  pub is_tree : IsTree ArePropertiesByName tree.root
  pub name_bytes : HaveByteNames tree.root.children
  pub images : Nodes PropertyMap
  pub has_images : image_nodes tree.root ≡ Some images
  pub apart : AllZip IsApart (each_own images) tree.payloads
