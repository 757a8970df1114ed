use Rattle.std.proofs.Common.{◌≡◌, ℕ, ◌+◌, ◌<◌, ◌≤◌, ◌-◌, true, false, ◌&&◌, List, [], ◌∷◌, length}
use Rattle.std.proofs.Common.{refl, sym, ap, subst, ◌∙◌, arith}
use Rattle.std.specs.FinMap.{empty}
use Rattle.std.specs.List.{AllByRecursion}
use Rattle.std.proofs.lemmas.Slice.Eq.{bytes_eq-Decides}
use Rattle.bi_base.specs.Cells.{AreBytes, cell}
use Rattle.bi_base.specs.Limits.{Limits}
use Rattle.bi_base.proofs.ByteLists.{AreBytes-cell}
use Rattle.bi_base.proofs.ListMembers.{each-append, each-filter}
use Rattle.bi_blob.specs.Tree.{Root, PropertyMap, depth}
use Rattle.bi_fit.specs.ImageTree.{ArePropertiesByName, IsProperty}
use Rattle.bi_fit.specs.Names.{data_name, images_name, is_payload_name, timestamp_name}
use Rattle.bi_fit.proofs.TreeContents.{properties-put, tested_property}
use Rattle.bi_fit.proofs.TreeShapes.{AreNodes-children_of, AreNodes-with_children_of, bytes-with_children_of, depth-with_children_of}
use Rattle.bi_fit.proofs.Trees.{children_of-with_children_of}
use Rattle.bi_tree.specs.Changes.{with_node_at}
use Rattle.bi_tree.specs.Trees.{with_own_value, without_own_value}
use Rattle.bi_plain.specs.Plain.{HasOnlyData, IsPlainTree, plain_root}
use Rattle.bi_plain.proofs.PlainTrees.{each_image_tree_has_plain_tree, each_plain_tree_is_of_image_tree}
use Rattle.bi_edit.specs.declared.edit.Edit.{Edit}
use Rattle.bi_edit.specs.declared.edit.Edit.TheVariants.{RemoveNode, RemoveProperty, SetProperty}
use Rattle.bi_edit.specs.declared.edit.Edit.TheVariants.{SetField, SetPayload, SetTime, SetDigests}
use Rattle.bi_edit.specs.EditLaws.{EditsKeepImageTrees, EditsKeepPlainTrees, IsEditOfBytes}
use Rattle.bi_edit.specs.Edits.{IsTooDeep, edited_root, edits_of_turn, in_edit_order, root_after, with_payload_digests}
use Rattle.bi_edit.specs.Places.{IsPropertyNameOfBytes, image_path, is_image_path}
use Rattle.bi_edit.proofs.KeptDepths.{bound_at, bound_with, bound_without_at}
use Rattle.bi_edit.proofs.KeptDigests.{bytes_with_payload_digests, depth_with_payload_digests, nodes_with_payload_digests}
use Rattle.bi_edit.proofs.KeptDigests.{own_with_payload_digests}
use Rattle.bi_edit.proofs.KeptImages.{HasPlainImages, plain_images_at, plain_images_with, images_without_at, only-put, only-put_data}
use Rattle.bi_edit.proofs.KeptImages.{only-remove}
use Rattle.bi_edit.proofs.KeptNodes.{IsGood, KeepsGood, good_at_path, good_with_path, good_without_path, properties-remove}

-- Edits of a plain tree make a plain tree.

good_tree : (root : Root PropertyMap) → IsPlainTree root → IsGood root
good_tree root is = record { own = is.is_tree.is_own; nodes = is.is_tree.children; bytes = is.name_bytes }

tree_images : (root : Root PropertyMap) → IsPlainTree root → HasPlainImages root.children
tree_images root is = record { images = is.images; found = is.has_images; only = is.embedded }

plain_tree : (root : Root PropertyMap) → IsGood root → HasPlainImages root.children → IsPlainTree root
plain_tree root good has = record {
  is_tree = record { is_own = good.own; children = good.nodes };
  name_bytes = good.bytes;
  images = has.images;
  has_images = has.found;
  embedded = has.only;
}

-- ---- changes of one node

put_good : (name value : List ℕ) → IsProperty name value → KeepsGood (with_own_value name value)
put_good name value is root good =
    record { own = properties-put root.own name value good.own is; nodes = good.nodes; bytes = good.bytes }

remove_good : (name : List ℕ) → KeepsGood (without_own_value name)
remove_good name root good = record { own = properties-remove root.own name good.own; nodes = good.nodes; bytes = good.bytes }

-- A path that is that of an image node, and a name that is none of the four.
no_payload_name : (path : List (List ℕ)) (name : List ℕ) → is_image_path path && is_payload_name name ≡ false → (first image : List ℕ) →
    path ≡ first ∷ image ∷ [] → first ≡ images_name → is_payload_name name ≡ false
no_payload_name path name not_both first image is images =
    let here : is_image_path path ≡ true = ap is_image_path is ∙ (bytes_eq-Decides first images_name).1 images in
    sym (ap (λ b. b && is_payload_name name) here) ∙ not_both

property_of_name : (name value : List ℕ) → IsPropertyNameOfBytes name → AreBytes value → IsProperty name value
property_of_name name value is bytes = record { is_name = is.is_name; name_bytes = is.bytes; value_bytes = bytes }

-- ---- an edit

-- It keeps the tree plain.
edit_keeps : (root : Root PropertyMap) (edit : Edit) → IsPlainTree root → IsEditOfBytes edit → IsPlainTree (edited_root root edit)
edit_keeps root (RemoveNode path) is of =
    plain_tree _ (good_without_path path root (good_tree root is)) (images_without_at path of.not_images root (tree_images root is))
edit_keeps root (RemoveProperty place) is of =
    plain_tree _ (good_at_path place.path (without_own_value place.name) (remove_good place.name) root (good_tree root is))
    (plain_images_at place.path (without_own_value place.name) (λ below. refl)
    (λ name image is_path is_images below only. only-remove below.own place.name only) root (tree_images root is))
edit_keeps root (SetProperty place value) is (of, bytes) =
    plain_tree _
    (good_at_path place.path (with_own_value place.name value.items)
    (put_good place.name value.items (property_of_name place.name value.items of.is_name bytes))
    (with_node_at empty place.path root) (good_with_path place.path of.is_path.are_names root (good_tree root is)))
    (plain_images_at place.path (with_own_value place.name value.items) (λ below. refl)
    (λ name image is_path is_images below only. only-put below.own place.name value.items
    (no_payload_name place.path place.name of.no_payload name image is_path is_images) only)
    (with_node_at empty place.path root) (plain_images_with place.path root (tree_images root is)))
edit_keeps root (SetField value) is of = is
edit_keeps root (SetPayload image payload) is (of, bytes) =
    plain_tree _
    (good_at_path (image_path image) (with_own_value data_name payload.now)
    (put_good data_name payload.now (tested_property _ _ payload.now refl bytes)) root (good_tree root is))
    (plain_images_at (image_path image) (with_own_value data_name payload.now) (λ below. refl)
    (λ name image is_path is_images below only. only-put_data below.own payload.now only) root (tree_images root is))
edit_keeps root (SetTime time) is of =
    plain_tree _ (put_good timestamp_name (cell time) (tested_property _ _ (cell time) refl (AreBytes-cell time)) root (good_tree root is))
    (tree_images root is)
edit_keeps root SetDigests is of = record {
  is_tree = record {
    is_own = is.is_tree.is_own;
    children = AreNodes-with_children_of images_name with_payload_digests ArePropertiesByName root.children is.images is.has_images
        (nodes_with_payload_digests is.images
        (AreNodes-children_of ArePropertiesByName images_name root.children is.images is.has_images is.is_tree.children))
        is.is_tree.children;
  };
  name_bytes = bytes-with_children_of images_name with_payload_digests bytes_with_payload_digests root.children is.name_bytes;
  images = with_payload_digests is.images;
  has_images = children_of-with_children_of images_name with_payload_digests root.children is.images is.has_images;
  embedded = subst (AllByRecursion HasOnlyData) (sym (own_with_payload_digests is.images)) is.embedded;
}

-- It makes the tree no deeper than a limit, unless it adds nodes that are.
abbrev IsShallow : ℕ → Root PropertyMap → Type 0
IsShallow most root = depth root.children + 1 ≤ most

edit_shallow : (limits : Limits) (root : Root PropertyMap) (edit : Edit) → IsShallow limits.depth root → ¬ (IsTooDeep limits edit) →
    IsShallow limits.depth (edited_root root edit)
edit_shallow limits root (RemoveNode path) shallow fits =
    let least = bound_without_at path (limits.depth - 1) root (omega (arith, shallow)) in omega (arith, least, shallow)
edit_shallow limits root (RemoveProperty place) shallow fits =
    let least = bound_at place.path (without_own_value place.name) (λ below. refl) (limits.depth - 1) root (omega (arith, shallow)) in
    omega (arith, least, shallow)
edit_shallow limits root (SetProperty place value) shallow fits =
    let short : length place.path < limits.depth = omega (arith, fits) in
    let added = bound_with place.path (limits.depth - 1) (omega (arith, short)) root (omega (arith, shallow)) in
    let least = bound_at place.path (with_own_value place.name value.items) (λ below. refl) (limits.depth - 1)
    (with_node_at empty place.path root) added in
    omega (arith, least, shallow)
edit_shallow limits root (SetField value) shallow fits = shallow
edit_shallow limits root (SetPayload image payload) shallow fits =
    let least = bound_at (image_path image) (with_own_value data_name payload.now) (λ below. refl) (limits.depth - 1) root
    (omega (arith, shallow)) in
    omega (arith, least, shallow)
edit_shallow limits root (SetTime time) shallow fits = shallow
edit_shallow limits root SetDigests shallow fits =
    subst (λ n. n + 1 ≤ limits.depth)
    (sym (depth-with_children_of images_name with_payload_digests depth_with_payload_digests root.children)) shallow

-- ---- edits one after the other

pub edits_keep : (root : Root PropertyMap) (edits : List Edit) → IsPlainTree root → AllByRecursion IsEditOfBytes edits →
    IsPlainTree (root_after root edits)
edits_keep root [] is of = is
edits_keep root (edit ∷ later) is of = edits_keep (edited_root root edit) later (edit_keeps root edit is of.0) of.1

edits_shallow : (limits : Limits) (root : Root PropertyMap) (edits : List Edit) → IsShallow limits.depth root →
    AllByRecursion (λ edit. ¬ (IsTooDeep limits edit)) edits → IsShallow limits.depth (root_after root edits)
edits_shallow limits root [] shallow fit = shallow
edits_shallow limits root (edit ∷ later) shallow fit =
    edits_shallow limits (edited_root root edit) later (edit_shallow limits root edit shallow fit.0) fit.1

pub edits_keep_plain_trees : EditsKeepPlainTrees
edits_keep_plain_trees root edits is of = record {
  is_plain = edits_keep root edits is of;
  shallow = λ limits shallow fit.
      let after = edits_shallow limits root edits (omega (arith, shallow)) fit in omega (arith, after);
}

-- What holds of each edit holds of each in the order of turns.
turn_each : (P : Edit → Type 0) (edits : List Edit) (turn : ℕ) → AllByRecursion P edits → AllByRecursion P (edits_of_turn turn edits)
turn_each P edits turn all = each-filter P _ edits all

pub order_each : (P : Edit → Type 0) (edits : List Edit) → AllByRecursion P edits → AllByRecursion P (in_edit_order edits)
order_each P edits all =
    each-append P _ _ (turn_each P edits 0 all)
    (each-append P _ _ (turn_each P edits 1 all)
    (each-append P _ _ (turn_each P edits 2 all)
    (each-append P _ _ (turn_each P edits 3 all)
    (each-append P _ _ (turn_each P edits 4 all) tt))))

pub edits_keep_image_trees : EditsKeepImageTrees
edits_keep_image_trees tree edits is of =
    let has = each_image_tree_has_plain_tree tree is in
    let back = each_plain_tree_is_of_image_tree (root_after (plain_root tree) (in_edit_order edits)) tree
    (edits_keep (plain_root tree) (in_edit_order edits) has.is_plain (order_each IsEditOfBytes edits of)) is in
    record { is_tree = back.is_tree; same = back.same }
