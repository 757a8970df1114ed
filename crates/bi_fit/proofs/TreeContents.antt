use Rattle.std.proofs.Common.{◌≡◌, ℕ, ◌<◌, ◌^◌, Bool, true, false, cond, not, List, [], ◌∷◌, ◌++◌, map, length, Option, Some, None}
use Rattle.std.proofs.Common.{bytes_eq, refl, sym, ap, subst, ◌∙◌, nat_cmp}
use Rattle.std.specs.Prelude.{◌&&◌, ◌==◌, ltb, IfSome}
use Rattle.std.specs.List.{AllByRecursion, AllZip, list_all}
use Rattle.std.specs.Cmp.Lexicographic.{slice_cmp}
use Rattle.std.specs.FinMap.{get, insert, empty, entries, from_entries, entries_sorted, get-empty, get-from_entries}
use Rattle.std.proofs.lemmas.Cmp.{nat_list_cmp_total}
use Rattle.std.proofs.lemmas.Bool.{and_parts, not-true, eqb-false, ltb-true}
use Rattle.std.proofs.lemmas.Slice.Eq.{bytes_eq-Decides}
use Rattle.bi_base.specs.Cells.{cell, up_to, AreBytes}
use Rattle.bi_base.proofs.ByteLists.{AreBytes-none, AreBytes-cons, AreBytes-cell}
use Rattle.bi_base.proofs.ListMembers.{each-append, each-map, each-weaker}
use Rattle.bi_blob.specs.Tree.{Nodes, none, node, Root, Property, PropertyMap, HasNoZero, IsPropertyName, IsNew, AreProperties, AreNodes}
use Rattle.bi_blob.specs.Tree.{IsTree, with_each}
use Rattle.bi_blob.specs.Events.{NodeProperty, NodeEnd, events}
use Rattle.bi_blob.specs.Blob.{Reservation, IsReservation}
use Rattle.bi_blob.specs.Layout.{AreEventBytes, IsContent, in_byte_order}
use Rattle.bi_blob.proofs.Texts.PropertyOrder.{ordered_distinct, each-entries, found-each}
use Rattle.bi_fit.specs.declared.form.Form.{Form}
use Rattle.bi_fit.specs.Names.{is_payload_name, data_name, data_offset_name, data_size_name, images_name}
use Rattle.bi_fit.specs.ImageTree.{ImageTree, each_own, with_image_nodes, without_payload, without_payloads, IsProperty}
use Rattle.bi_fit.specs.ImageTree.{ArePropertiesByName, HaveByteNames, IsApart, IsImageTree}
use Rattle.bi_fit.specs.Text.{alignment_of, blob_alignment, with_payload, with_payloads, end_after, normal_tree}
use Rattle.bi_fit.proofs.Meanings.{same_in_some}
use Rattle.bi_fit.proofs.PayloadProperties.{get-put, get-put_other, get-without}
use Rattle.bi_fit.proofs.TreeShapes.{names-with_payloads, bytes-with_payloads, names-without_payloads, AreNodes-with_each, bytes-with_each}
use Rattle.bi_fit.proofs.TreeShapes.{AreNodes-with_children_of, bytes-with_children_of, AreNodes-children_of}

-- What an image tree has can be laid out.

-- A test that a byte may be in a name.
abbrev pub may_be_in_name : ℕ → Bool
may_be_in_name byte = not (byte == 0) && ltb byte 256

-- Bytes that pass the test are bytes, and none of them is zero.
pub tested_name : (name : List ℕ) → list_all may_be_in_name name ≡ true → AreBytes name × HasNoZero name
tested_name [] passes = (AreBytes-none, tt)
tested_name (byte ∷ later) passes =
    let both = and_parts (may_be_in_name byte) (list_all may_be_in_name later) passes in
    let first = and_parts (not (byte == 0)) (ltb byte 256) both.0 in
    let rest = tested_name later both.1 in
    (AreBytes-cons byte later (ltb-true byte 256 first.1) rest.0, (eqb-false byte 0 (not-true (byte == 0) first.0), rest.1))

-- A property whose name passes the test can be in a blob.
pub tested_property : (byte : ℕ) (later value : List ℕ) → list_all may_be_in_name (byte ∷ later) ≡ true → AreBytes value →
    IsProperty (byte ∷ later) value
tested_property byte later value passes bytes =
    let name = tested_name (byte ∷ later) passes in
    record { is_name = record { some = λ e. absurd cc; no_zero = name.1 }; name_bytes = name.0; value_bytes = bytes }

-- No properties.
pub properties-empty : ArePropertiesByName empty
properties-empty name value there =
    let nothing : None ≡ Some value = sym (get-empty (slice_cmp nat_cmp) name) ∙ there in
    absurd cc

-- One more property.
pub properties-put : (properties : PropertyMap) (name value : List ℕ) → ArePropertiesByName properties → IsProperty name value →
    ArePropertiesByName (insert properties name value)
properties-put properties name value are is other found there = by_name (bytes_eq other name) refl
  where
    by_name : (b : Bool) → bytes_eq other name ≡ b → IsProperty other found
    by_name true same =
        let same_name : other ≡ name = (bytes_eq-Decides other name).0 same in
        let same_value : Some value ≡ Some found =
        sym (get-put properties name value) ∙ ap (get (insert properties name value)) (sym same_name) ∙ there in
        subst (λ name. IsProperty name found) (sym same_name) (subst (IsProperty name) (same_in_some value found same_value) is)
    by_name false differ = are other found (sym (get-put_other properties name value other differ) ∙ there)

-- Properties that give a payload.
pub properties-with_payload : (alignment : Option ℕ) (begin : ℕ) (payload : Option (List ℕ)) (properties : PropertyMap) →
    IfSome payload AreBytes → ArePropertiesByName properties → ArePropertiesByName (with_payload alignment begin payload properties)
properties-with_payload alignment begin None properties bytes are = are
properties-with_payload None begin (Some payload) properties bytes are =
    properties-put properties data_name payload are (tested_property _ _ payload refl bytes)
properties-with_payload (Some align) begin (Some payload) properties bytes are =
    properties-put (insert properties data_offset_name (cell begin)) data_size_name (cell (length payload))
    (properties-put properties data_offset_name (cell begin) are (tested_property _ _ (cell begin) refl (AreBytes-cell begin)))
    (tested_property _ _ (cell (length payload)) refl (AreBytes-cell (length payload)))

-- Properties without those that give a payload.
pub properties-without_payload : (properties : PropertyMap) → ArePropertiesByName properties →
    ArePropertiesByName (without_payload properties)
properties-without_payload properties are name value there =
    by_name (is_payload_name name) (sym (get-without properties name) ∙ there)
  where
    by_name : (b : Bool) → cond (not b) (get properties name) None ≡ Some value → IsProperty name value
    by_name true found = absurd cc
    by_name false found = are name value found

-- Each of these properties can be in a blob.
abbrev pub AreBlobProperties : List Property → Type 0
AreBlobProperties properties = AllByRecursion (λ property. IsProperty property.0 property.1) properties

-- Properties by name, from a list and as a list.
pub properties-from_entries : (properties : List Property) → AreBlobProperties properties → ArePropertiesByName (from_entries properties)
properties-from_entries properties good name value there =
    found-each (λ property. IsProperty property.0 property.1) properties good name value
    (sym (get-from_entries nat_list_cmp_total properties name) ∙ there)

pub good-entries : (properties : PropertyMap) → ArePropertiesByName properties → AreBlobProperties (entries properties)
good-entries properties are = each-entries (λ property. IsProperty property.0 property.1) properties are

-- In order they are properties of a node.
properties-entries : (properties : PropertyMap) → ArePropertiesByName properties → AreProperties (entries properties)
properties-entries properties are = record {
  named = each-entries (λ property. IsPropertyName property.0) properties (λ name value there. (are name value there).is_name);
  distinct = ordered_distinct (entries properties) (entries_sorted properties);
}

-- The events of nodes with good properties are bytes.
good-events : (nodes : Nodes (List Property)) → HaveByteNames nodes → AreNodes AreBlobProperties nodes →
    AllByRecursion AreEventBytes (events nodes)
good-events none bytes are = tt
good-events (node name properties children later) bytes are = (
  bytes.0,
  each-append AreEventBytes (map NodeProperty properties) (events children ++ (NodeEnd ∷ events later))
      (each-map AreEventBytes NodeProperty properties
      (each-weaker (λ property. IsProperty property.0 property.1) (λ property. AreEventBytes (NodeProperty property))
      (λ property is. (is.name_bytes, is.value_bytes)) properties are.0.is_own))
      (each-append AreEventBytes (events children) (NodeEnd ∷ events later) (good-events children bytes.1 are.1) (
        tt,
        good-events later bytes.2 are.2,
      )),
)

-- A tree of properties by name can be laid out in byte order.
pub content-in_byte_order : (cpu : ℕ) (reservations : List Reservation) (root : Root PropertyMap) → cpu < 2 ^ 32 →
    AllByRecursion IsReservation reservations → IsTree ArePropertiesByName root → HaveByteNames root.children →
    IsContent cpu reservations (in_byte_order root)
content-in_byte_order cpu reservations root fits are is bytes = record {
  cpu_fits = fits;
  are_reservations = are;
  is_tree = record {
    is_own = properties-entries root.own is.is_own;
    children = AreNodes-with_each ArePropertiesByName AreProperties entries properties-entries root.children is.children;
  };
  bytes = (
    AreBytes-none,
    each-append AreEventBytes (map NodeProperty (entries root.own)) (events (with_each entries root.children) ++ (NodeEnd ∷ []))
        (each-map AreEventBytes NodeProperty (entries root.own)
        (each-weaker (λ property. IsProperty property.0 property.1) (λ property. AreEventBytes (NodeProperty property))
        (λ property is. (is.name_bytes, is.value_bytes)) (entries root.own) (good-entries root.own is.is_own)))
        (each-append AreEventBytes (events (with_each entries root.children)) (NodeEnd ∷ [])
        (good-events (with_each entries root.children) (bytes-with_each entries root.children bytes)
        (AreNodes-with_each ArePropertiesByName AreBlobProperties entries good-entries root.children is.children))
        (tt, tt)),
  );
}

-- Image nodes that give payloads are nodes.
nodes-with_payloads : (alignment : Option ℕ) (end : ℕ) (payloads : List (Option (List ℕ))) (nodes : Nodes PropertyMap) →
    AllZip IsApart (each_own nodes) payloads → AreNodes ArePropertiesByName nodes →
    AreNodes ArePropertiesByName (with_payloads alignment end payloads nodes)
nodes-with_payloads alignment end [] nodes apart are = are
nodes-with_payloads alignment end (payload ∷ payloads) none apart are = tt
nodes-with_payloads alignment end (payload ∷ payloads) (node name own children later) apart are = (
  record {
    is_name = are.0.is_name;
    is_own = properties-with_payload alignment (up_to (blob_alignment alignment) end) payload own apart.0.bytes are.0.is_own;
    is_new = subst (IsNew name)
        (sym (names-with_payloads alignment (end_after (blob_alignment alignment) end payload) payloads later)) are.0.is_new;
  },
  are.1,
  nodes-with_payloads alignment (end_after (blob_alignment alignment) end payload) payloads later apart.1 are.2,
)

-- Image nodes without what gives their payloads are nodes.
pub nodes-without_payloads : (nodes : Nodes PropertyMap) → AreNodes ArePropertiesByName nodes →
    AreNodes ArePropertiesByName (without_payloads nodes)
nodes-without_payloads none are = tt
nodes-without_payloads (node name own children later) are = (
  record {
    is_name = are.0.is_name;
    is_own = properties-without_payload own are.0.is_own;
    is_new = subst (IsNew name) (sym (names-without_payloads later)) are.0.is_new;
  },
  are.1,
  nodes-without_payloads later are.2,
)

-- The tree of a text can be laid out.
pub content-normal_tree : (form : Form) (tree : ImageTree) → IsImageTree tree → IsContent tree.cpu tree.reservations (normal_tree form tree)
content-normal_tree form tree is =
    content-in_byte_order tree.cpu tree.reservations
    (with_image_nodes (with_payloads (alignment_of form) 0 tree.payloads) tree.root) is.cpu_fits is.are_reservations
    (record {
      is_own = is.is_tree.is_own;
      children = AreNodes-with_children_of images_name
          (with_payloads (alignment_of form) 0 tree.payloads) ArePropertiesByName tree.root.children is.images is.has_images
          (nodes-with_payloads (alignment_of form) 0 tree.payloads is.images is.apart
          (AreNodes-children_of ArePropertiesByName images_name tree.root.children is.images is.has_images is.is_tree.children))
          is.is_tree.children;
    })
    (bytes-with_children_of images_name (with_payloads (alignment_of form) 0 tree.payloads)
    (bytes-with_payloads (alignment_of form) 0 tree.payloads) tree.root.children is.name_bytes)
