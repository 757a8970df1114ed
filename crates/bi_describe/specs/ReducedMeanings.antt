use Rattle.std.specs.Prelude.{◌≡◌, ℕ, ◌+◌, map, not, List, [], ◌∷◌, ◌++◌, codes, drop, take}
use Rattle.std.specs.Prelude.{Option, Some, None, flat_map, if◌then◌else◌}
use Rattle.std.specs.FinMap.{retain_keys}
use Rattle.bi_blob.specs.Blob.{Reservation}
use Rattle.bi_blob.specs.Tree.{Nodes, none, node, PropertyMap, Root, with_each}
use Rattle.bi_fit.specs.ImageTree.{ImageTree}
use Rattle.bi_legacy.specs.Meaning.{LegacyImage}
use Rattle.bi_norm.specs.Meaning.{Meaning, OfLegacy, OfFit}
use Rattle.bi_common.specs.CommonLines.{header_lines, reservation_line}
use Rattle.bi_common.specs.Lines.{Line, Text, Decimal}
use Rattle.bi_describe.specs.ComparedNodes.{ComparedNode, nodes_to_compare, described_node}
use Rattle.bi_describe.specs.ComparedNodes.{plain_compared}
use Rattle.bi_describe.specs.Descriptions.{digest_of_payload, head_lines, node_lines, own_lines}
use Rattle.bi_describe.specs.Descriptions.{part_line}
use Rattle.bi_describe.specs.Ignoring.{Ignored, is_node_ignored, is_part_ignored}
use Rattle.bi_describe.specs.Ignoring.{is_property_ignored, is_time_ignored}

-- What is compared of a meaning once something is left out of it (profile of this project).

-- ---- trees

-- The properties of the node with these names that stay.
abbrev pub kept_properties : List Ignored → (names : List (List ℕ)) → PropertyMap → PropertyMap
kept_properties words names properties =
    retain_keys properties (λ name. not (is_property_ignored words names name))

-- What stays of the node with these names itself. Its payload stays.
abbrev pub kept_own : List Ignored → (names : List (List ℕ)) → ComparedNode → ComparedNode
kept_own words names own =
    record { properties = kept_properties words names own.properties; payload = own.payload }

-- The nodes that stay: those that are not left out, and are not below one that is. `above` are the
-- names on the way from the root to the parent of the nodes.
abbrev pub kept_nodes : List Ignored → (above : List (List ℕ)) → Nodes ComparedNode
    → Nodes ComparedNode
kept_nodes words above none = none
kept_nodes words above (node name own children later) =
    let names : List (List ℕ) = above ++ name ∷ [] in
    if is_node_ignored words names then kept_nodes words above later
    else node name (kept_own words names own) (kept_nodes words names children)
    (kept_nodes words above later)

-- What stays of a tree. If its root is left out, that is nothing.
abbrev pub kept_root : List Ignored → Root ComparedNode → Option (Root ComparedNode)
kept_root words root =
    if is_node_ignored words [] then None
    else Some (record {
      own = kept_own words [] root.own;
      children = kept_nodes words [] root.children;
    })

-- The root of a tree with the payloads of its images.
abbrev pub compared_root : Root PropertyMap → List (Option (List ℕ)) → Root ComparedNode
compared_root root payloads =
    record {
      own = plain_compared root.own;
      children = nodes_to_compare root.children payloads;
    }

-- ---- legacy images

-- A legacy image with these fields, but with the time 0 and without parts.
abbrev pub fields_alone : LegacyImage → LegacyImage
fields_alone image = record {
  time = 0;
  load = image.load;
  entry = image.entry;
  os = image.os;
  arch = image.arch;
  image_type = image.image_type;
  compression = image.compression;
  name = image.name;
  parts = [];
}

-- Parts with their indices, the first of which is this.
abbrev pub numbered_parts : (index : ℕ) → List (List ℕ) → List (ℕ × List ℕ)
numbered_parts index [] = []
numbered_parts index (part ∷ later) = (index, part) ∷ numbered_parts (index + 1) later

-- A part, if it stays. It keeps its index.
abbrev pub kept_part : List Ignored → ℕ × List ℕ → List (ℕ × List ℕ)
kept_part words part = if is_part_ignored words part.0 then [] else part ∷ []

-- The time, if it stays.
abbrev pub kept_time : List Ignored → (time : ℕ) → Option ℕ
kept_time words time = if is_time_ignored words then None else Some time

-- ---- meanings

-- What stays of a legacy image: its fields but for the time, the time, and parts with their
-- indices.
pub record ReducedLegacy : Type 0 where
  pub fields : LegacyImage
  pub time : Option ℕ
  pub parts : List (ℕ × List ℕ)

-- What stays of a flattened image tree.
pub record ReducedTree : Type 0 where
  pub cpu : ℕ
  pub reservations : List Reservation
  pub root : Option (Root ComparedNode)

pub data ReducedMeaning : Type 0 where
  OfReducedLegacy : ReducedLegacy → ReducedMeaning
  OfReducedTree : ReducedTree → ReducedMeaning

-- What stays of a legacy image, and of a flattened image tree, once what these words leave out is
-- taken out of it.
abbrev pub reduced_legacy : List Ignored → LegacyImage → ReducedLegacy
reduced_legacy words image = record {
  fields = fields_alone image;
  time = kept_time words image.time;
  parts = flat_map (kept_part words) (numbered_parts 0 image.parts);
}

abbrev pub reduced_tree : List Ignored → ImageTree → ReducedTree
reduced_tree words tree = record {
  cpu = tree.cpu;
  reservations = tree.reservations;
  root = kept_root words (compared_root tree.root tree.payloads);
}

-- What stays of a meaning.
abbrev pub meaning_without : List Ignored → Meaning → ReducedMeaning
meaning_without words (OfLegacy image) = OfReducedLegacy (reduced_legacy words image)
meaning_without words (OfFit tree) = OfReducedTree (reduced_tree words tree)

-- Two meanings are the same once what the words leave out is taken out of both. Meanings of
-- different kinds never are.
abbrev pub AreSameWithout : List Ignored → (one other : Meaning) → Type 0
AreSameWithout words one other = meaning_without words one ≡ meaning_without words other

-- ---- lines

-- The lines of a tree, the root first. There are none if the root is left out.
abbrev pub reduced_root_lines : Option (Root ComparedNode) → List Line
reduced_root_lines None = []
reduced_root_lines (Some root) =
    own_lines [] (described_node root.own)
    ++ node_lines [] (with_each described_node root.children)

-- The line for the time, if it stays.
abbrev pub time_lines : Option ℕ → List Line
time_lines None = []
time_lines (Some time) = (Text (codes "time") ∷ Decimal time ∷ []) ∷ []

-- The lines of a header with this line, or none, for its time: that is the third line.
abbrev pub reduced_header_lines : LegacyImage → (time : Option ℕ) → List Line
reduced_header_lines image time =
    take 2 (header_lines image) ++ (time_lines time ++ drop 3 (header_lines image))

-- The lines of parts.
abbrev pub reduced_part_lines : List (ℕ × List ℕ) → List Line
reduced_part_lines parts = map (λ part. part_line part.0 (digest_of_payload part.1)) parts

-- The lines of what stays of a legacy image, and of a flattened image tree.
abbrev pub reduced_legacy_lines : ReducedLegacy → List Line
reduced_legacy_lines image =
    reduced_header_lines image.fields image.time ++ reduced_part_lines image.parts

abbrev pub reduced_tree_lines : ReducedTree → List Line
reduced_tree_lines tree =
    head_lines tree.cpu
    ++ (map reservation_line tree.reservations ++ reduced_root_lines tree.root)

-- The lines of what stays: those of the description that stay.
abbrev pub reduced_lines : ReducedMeaning → List Line
reduced_lines (OfReducedLegacy image) = reduced_legacy_lines image
reduced_lines (OfReducedTree tree) = reduced_tree_lines tree
