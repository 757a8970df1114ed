use Rattle.std.proofs.Common.{◌≡◌, ◌≢◌, ◌↔◌, ℕ, ◌+◌, Bool, true, false, cond, List, [], ◌∷◌, ◌++◌, Option, Some, None, bytes_eq, flat_map}
use Rattle.std.proofs.Common.{map, refl, sym, ap, ap₂, ◌∙◌}
use Rattle.std.proofs.Common.{append-nil, subst, true≢false}
use Rattle.std.specs.FinMap.{get, get-retain_keys}
use Rattle.std.specs.List.{AllByRecursion, AllZip}
use Rattle.std.proofs.lemmas.Bool.{cond-true, cond-false}
use Rattle.bi_base.specs.Limits.{Limits}
use Rattle.bi_base.proofs.EqualBytes.{same_bytes}
use Rattle.bi_blob.specs.Tree.{Nodes, none, node, names, PropertyMap, Root, with_each}
use Rattle.bi_fit.specs.ImageTree.{ArePropertiesByName, ImageTree, IsApart, IsImageTree, children_of, each_own}
use Rattle.bi_fit.specs.Names.{images_name}
use Rattle.bi_fit.proofs.Meanings.{same_in_some}
use Rattle.bi_fit.proofs.PayloadProperties.{same}
use Rattle.bi_fit.proofs.TextLaws.{file_means_image_tree}
use Rattle.bi_legacy.specs.Meaning.{LegacyImage}
use Rattle.bi_norm.specs.Meaning.{Meaning, Means, OfLegacy, OfFit}
use Rattle.bi_common.specs.Lines.{Line}
use Rattle.bi_common.specs.CommonLines.{header_lines, reservation_line}
use Rattle.bi_describe.specs.ComparedNodes.{ComparedNode, ComparedPayload, NoImage, ImageWith, compared_children, compared_images}
use Rattle.bi_describe.specs.ComparedNodes.{nodes_to_compare}
use Rattle.bi_describe.specs.ComparedNodes.{plain_compared}
use Rattle.bi_describe.specs.Comparing.{comparison, comparison_by_lines}
use Rattle.bi_describe.specs.ComparingWithout.{comparison_without}
use Rattle.bi_describe.specs.Descriptions.{description_lines, digest_of_payload, head_lines, node_lines, own_lines, part_line, part_lines}
use Rattle.bi_describe.specs.Descriptions.{plain_node}
use Rattle.bi_describe.specs.IgnoringLaws.{AreComparedWhole, NothingLeftOutCompares}
use Rattle.bi_describe.specs.ReducedMeanings.{AreSameWithout, OfReducedLegacy, OfReducedTree, ReducedLegacy, ReducedMeaning, ReducedTree}
use Rattle.bi_describe.specs.ReducedMeanings.{compared_root, kept_nodes, kept_own, kept_part, kept_properties, kept_root, numbered_parts}
use Rattle.bi_describe.specs.ReducedMeanings.{meaning_without}
use Rattle.bi_describe.specs.ReducedMeanings.{reduced_lines, reduced_part_lines, reduced_root_lines, reduced_tree_lines}
use Rattle.bi_describe.proofs.ComparedTrees.{as_described, nodes_described}
use Rattle.bi_describe.proofs.KeptImageFacts.{legacy_as_meanings, trees_as_meanings}
use Rattle.bi_describe.proofs.KeptProperties.{same_kept}
use Rattle.bi_describe.proofs.ReadableDescriptions.SameTrees.{images_of_image_tree}
use Rattle.bi_describe.proofs.ReadableDescriptions.DescribedNodes.{HasImages, ImagesIn, InFirst, InLater, images_among, same_described}

-- Without words all of a meaning stays.

-- ---- trees

properties_stay : (names : List (List ℕ)) (properties : PropertyMap) → kept_properties [] names properties ≡ properties
properties_stay names properties =
    same _ _ (λ name. get-retain_keys properties (λ name. true) name (same_kept (λ name. true) name))

nodes_stay : (above : List (List ℕ)) (nodes : Nodes ComparedNode) → kept_nodes [] above nodes ≡ nodes
nodes_stay above none = refl
nodes_stay above (node name own children later) =
    let own_stays : kept_own [] (above ++ name ∷ []) own ≡ own = (λ i. record {
      properties = properties_stay (above ++ name ∷ []) own.properties i;
      payload = own.payload;
    }) in
    let below = nodes_stay (above ++ name ∷ []) children in
    let after = nodes_stay above later in
    (λ i. node name (own_stays i) (below i) (after i))

pub whole_root_stays : (root : Root ComparedNode) → kept_root [] root ≡ Some root
whole_root_stays root = (λ i. Some (record {
  own = record { properties = properties_stay [] root.own.properties i; payload = root.own.payload };
  children = nodes_stay [] root.children i;
}))

-- The payloads of nodes, in their order.
abbrev own_payloads : ComparedPayload → List (Option (List ℕ))
own_payloads NoImage = []
own_payloads (ImageWith payload) = payload ∷ []

abbrev payloads_of : Nodes ComparedNode → List (Option (List ℕ))
payloads_of none = []
payloads_of (node name own children later) = own_payloads own.payload ++ (payloads_of children ++ payloads_of later)

plain_payloads : (nodes : Nodes PropertyMap) → payloads_of (with_each plain_compared nodes) ≡ []
plain_payloads none = refl
plain_payloads (node name own children later) =
    ap₂ (λ (below after : List (Option (List ℕ))). below ++ after) (plain_payloads children) (plain_payloads later)

image_payloads : (nodes : Nodes PropertyMap) (payloads : List (Option (List ℕ))) → AllZip IsApart (each_own nodes) payloads →
    payloads_of (compared_images nodes payloads) ≡ payloads
image_payloads none [] apart = refl
image_payloads none (payload ∷ payloads) apart = absurd apart
image_payloads (node name own children later) [] apart = absurd apart
image_payloads (node name own children later) (payload ∷ payloads) apart =
    ap (λ (all : List (Option (List ℕ))). payload ∷ all)
    (ap₂ (λ (below after : List (Option (List ℕ))). below ++ after) (plain_payloads children) (image_payloads later payloads apart.1))

-- Nodes none of which has the image nodes as its children.
others_plain : (nodes : Nodes PropertyMap) (payloads : List (Option (List ℕ))) →
    AllByRecursion (λ name. name ≢ images_name) (names nodes) → payloads_of (nodes_to_compare nodes payloads) ≡ []
others_plain none payloads others = refl
others_plain (node name own children later) payloads others =
    ap₂ (λ (below after : List (Option (List ℕ))). below ++ after) (by (bytes_eq name images_name) refl)
    (others_plain later payloads others.1)
  where
    by : (b : Bool) → bytes_eq name images_name ≡ b → payloads_of (compared_children name children payloads) ≡ []
    by true is = absurd (others.0 (same_bytes name images_name is))
    by false is = rw is (plain_payloads children)

node_payloads : (nodes : Nodes PropertyMap) (payloads : List (Option (List ℕ))) → HasImages ArePropertiesByName nodes payloads →
    payloads_of (nodes_to_compare nodes payloads) ≡ payloads
node_payloads none payloads has = let nothing : None ≡ Some has.images = has.has_images in absurd cc
node_payloads (node name own children later) payloads has =
    by (images_among ArePropertiesByName name own children later payloads has) (node_payloads later payloads)
  where
    by : ImagesIn ArePropertiesByName name own children later payloads →
        (HasImages ArePropertiesByName later payloads → payloads_of (nodes_to_compare later payloads) ≡ payloads) →
        payloads_of (nodes_to_compare (node name own children later) payloads) ≡ payloads
    by (InFirst is apart no_more) rest =
        rw is (ap₂ (λ (below after : List (Option (List ℕ))). below ++ after) (image_payloads children payloads apart)
        (others_plain later payloads no_more) ∙ append-nil payloads)
    by (InLater is more) rest =
        rw is (ap₂ (λ (below after : List (Option (List ℕ))). below ++ after) (plain_payloads children) (rest more))

-- Trees are read back from what is compared of them.
same_trees : (one other : ImageTree) → IsImageTree one → IsImageTree other → one.cpu ≡ other.cpu → one.reservations ≡ other.reservations →
    compared_root one.root one.payloads ≡ compared_root other.root other.payloads → one ≡ other
same_trees one other is also cpus reservations roots =
    let own : one.root.own ≡ other.root.own = ap (λ (root : Root ComparedNode). root.own.properties) roots in
    let nodes = ap (λ (root : Root ComparedNode). root.children) roots in
    let described = sym (nodes_described one.root.children one.payloads) ∙ ap as_described nodes
    ∙ nodes_described other.root.children other.payloads in
    let children = (same_described ArePropertiesByName one.root.children other.root.children one.payloads other.payloads
    (images_of_image_tree one is) (images_of_image_tree other also) described).0 in
    let payloads : one.payloads ≡ other.payloads =
    sym (node_payloads one.root.children one.payloads (images_of_image_tree one is)) ∙ ap payloads_of nodes
    ∙ node_payloads other.root.children other.payloads (images_of_image_tree other also) in
    (λ i. record {
      cpu = cpus i;
      reservations = reservations i;
      root = record { own = own i; children = children i };
      payloads = payloads i;
    })

-- ---- legacy images

parts_stay : (parts : List (ℕ × List ℕ)) → flat_map (kept_part []) parts ≡ parts
parts_stay [] = refl
parts_stay (part ∷ later) = ap (λ (parts : List (ℕ × List ℕ)). part ∷ parts) (parts_stay later)

numbers_off : (index : ℕ) (parts : List (List ℕ)) → map (λ (part : ℕ × List ℕ). part.1) (numbered_parts index parts) ≡ parts
numbers_off index [] = refl
numbers_off index (part ∷ later) = ap (λ (parts : List (List ℕ)). part ∷ parts) (numbers_off (index + 1) later)

parts_lined : (index : ℕ) (parts : List (List ℕ)) →
    reduced_part_lines (numbered_parts index parts) ≡ part_lines index (map digest_of_payload parts)
parts_lined index [] = refl
parts_lined index (part ∷ later) = ap (λ (lines : List Line). part_line index (digest_of_payload part) ∷ lines)
    (parts_lined (index + 1) later)

-- All of a legacy image.
abbrev whole_legacy : LegacyImage → ReducedLegacy
whole_legacy image = record {
  fields = record image { time = 0; parts = [] };
  time = Some image.time;
  parts = numbered_parts 0 image.parts;
}

legacy_stays : (image : LegacyImage) → meaning_without [] (OfLegacy image) ≡ OfReducedLegacy (whole_legacy image)
legacy_stays image =
    ap (λ parts. OfReducedLegacy (record (whole_legacy image) { parts = parts })) (parts_stay (numbered_parts 0 image.parts))

same_legacy : (one other : LegacyImage) → whole_legacy one ≡ whole_legacy other → one ≡ other
same_legacy one other same =
    let time = same_in_some one.time other.time (ap (λ (image : ReducedLegacy). image.time) same) in
    let parts : one.parts ≡ other.parts = sym (numbers_off 0 one.parts)
    ∙ ap (λ (image : ReducedLegacy). map (λ (part : ℕ × List ℕ). part.1) image.parts) same ∙ numbers_off 0 other.parts in
    (λ i. record {
      time = time i;
      load = (same i).fields.load;
      entry = (same i).fields.entry;
      os = (same i).fields.os;
      arch = (same i).fields.arch;
      image_type = (same i).fields.image_type;
      compression = (same i).fields.compression;
      name = (same i).fields.name;
      parts = parts i;
    })

-- ---- meanings

-- All of a tree.
abbrev whole_tree : ImageTree → ReducedTree
whole_tree tree =
    record { cpu = tree.cpu; reservations = tree.reservations; root = Some (compared_root tree.root tree.payloads) }

tree_stays : (tree : ImageTree) → meaning_without [] (OfFit tree) ≡ OfReducedTree (whole_tree tree)
tree_stays tree =
    ap (λ root. OfReducedTree (record (whole_tree tree) { root = root })) (whole_root_stays (compared_root tree.root tree.payloads))

-- The lines are those of the description.
pub all_lines : (meaning : Meaning) → reduced_lines (meaning_without [] meaning) ≡ description_lines meaning
all_lines (OfLegacy image) =
    ap reduced_lines (legacy_stays image) ∙ ap (λ (lines : List Line). header_lines image ++ lines) (parts_lined 0 image.parts)
all_lines (OfFit tree) =
    ap reduced_lines (tree_stays tree)
    ∙ ap (λ nodes. head_lines tree.cpu ++ (map reservation_line tree.reservations
    ++ (own_lines [] (plain_node tree.root.own) ++ node_lines [] nodes))) (nodes_described tree.root.children tree.payloads)

-- A meaning is read back from what stays of it.
abbrev IsWhole : Meaning → Type 0
IsWhole (OfLegacy image) = ℕ
IsWhole (OfFit tree) = IsImageTree tree

whole_apart : (one : LegacyImage) (other : ImageTree) → meaning_without [] (OfLegacy one) ≡ meaning_without [] (OfFit other) → ⊥
whole_apart one other same =
    let apart : OfReducedLegacy (whole_legacy one) ≡ OfReducedTree (whole_tree other) = sym (legacy_stays one) ∙ same ∙ tree_stays other in
    absurd cc

same_whole : (one other : Meaning) → IsWhole one → IsWhole other → AreSameWithout [] one other → one ≡ other
same_whole (OfLegacy one) (OfLegacy other) is also same =
    ap OfLegacy (same_legacy one other ((legacy_as_meanings (whole_legacy one) (whole_legacy other)).1
    (sym (legacy_stays one) ∙ same ∙ legacy_stays other)))
same_whole (OfLegacy one) (OfFit other) is also same = absurd (whole_apart one other same)
same_whole (OfFit one) (OfLegacy other) is also same = absurd (whole_apart other one (sym same))
same_whole (OfFit one) (OfFit other) is also same =
    let trees = (trees_as_meanings (whole_tree one) (whole_tree other)).1 (sym (tree_stays one) ∙ same ∙ tree_stays other) in
    ap OfFit (same_trees one other is also (ap (λ (tree : ReducedTree). tree.cpu) trees)
    (ap (λ (tree : ReducedTree). tree.reservations) trees)
    (same_in_some (compared_root one.root one.payloads) (compared_root other.root other.payloads)
    (ap (λ (tree : ReducedTree). tree.root) trees)))

-- What differs is what differs between the descriptions.
same_differences : (one other : Meaning) → comparison_without [] one other ≡ comparison one other
same_differences one other = ap₂ (comparison_by_lines one other) (all_lines one) (all_lines other)

is_whole : (limits : Limits) (file : List ℕ) (meaning : Meaning) → Means limits file meaning → IsWhole meaning
is_whole limits file (OfLegacy image) means = 0
is_whole limits file (OfFit tree) means = file_means_image_tree file tree means.is_file

pub nothing_left_out_compares : NothingLeftOutCompares
nothing_left_out_compares limits other_limits file other_file one other means other_means = record {
  is_same = (
    same_whole one other (is_whole limits file one means) (is_whole other_limits other_file other other_means),
    ap (meaning_without []),
  );
  differences = same_differences one other;
}
