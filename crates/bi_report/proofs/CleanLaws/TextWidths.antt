use Rattle.std.proofs.Common.{◌≡◌, ℕ, ◌+◌, ◌≤◌, Bool, true, false, cond, List, [], ◌∷◌, length, map, sum_by, bytes_eq, is_eq, nat_cmp}
use Rattle.std.proofs.Common.{Option, Some, None, refl, sym, ap, ◌∙◌, arith, rules}
use Rattle.std.specs.Cmp.Lexicographic.{slice_cmp}
use Rattle.std.specs.FinMap.{entries, find, insert, get-entries}
use Rattle.std.specs.List.{AllZip}
use Rattle.std.proofs.lemmas.List.Sums.{sum_by-append, sum_by-cons, sum-map}
use Rattle.bi_base.proofs.AlignmentLaws.{up_to-le}
use Rattle.bi_base.specs.Cells.{up4, up_to}
use Rattle.bi_blob.specs.Events.{NodeProperty, events, events_of}
use Rattle.bi_blob.specs.Layout.{event_width}
use Rattle.bi_blob.specs.Tree.{Nodes, none, node, Root, Property, PropertyMap, with_each}
use Rattle.bi_blob.proofs.Texts.EventLengths.{has_event_widths, length-structure_block}
use Rattle.bi_blob.proofs.Texts.Structure.{blocks-le}
use Rattle.bi_common.specs.PayloadBounds.{payload_length, payloads_length}
use Rattle.bi_fit.specs.declared.form.Form.TheVariants.{Embedded}
use Rattle.bi_fit.specs.ImageTree.{ImageTree, IsApart, IsImageTree, children_of, each_own}
use Rattle.bi_fit.specs.Names.{data_name, images_name}
use Rattle.bi_fit.specs.Text.{blob_of, end_after, normal_tree, with_payload, with_payloads}
use Rattle.bi_fit.proofs.Meanings.{same_in_some}
use Rattle.bi_fit.proofs.PayloadProperties.{get-put}
use Rattle.bi_fit.proofs.Trees.{children_of-with_each, children_of-with_children_of}

-- The payloads of a text in the form Embedded are values of properties of its blob, so together they are no longer than the blob.

-- How long the first payload and the others are together.
pub payloads_length-cons : (payload : Option (List ℕ)) (later : List (Option (List ℕ))) →
    payloads_length (payload ∷ later) ≡ payload_length payload + payloads_length later
payloads_length-cons payload later =
    omega (arith, sum-map payload_length (payload ∷ later), sum_by-cons payload_length payload later, sum-map payload_length later)

-- How wide the tokens of properties and of nodes are together.
abbrev properties_width : List Property → ℕ
properties_width properties = sum_by event_width (map NodeProperty properties)

abbrev nodes_width : Nodes (List Property) → ℕ
nodes_width nodes = sum_by event_width (events nodes)

-- A value is no longer than its token.
value_width : (property : Property) → length property.1 ≤ event_width (NodeProperty property)
value_width property =
    let width : event_width (NodeProperty property) ≡ up4 (length property.1 + 12) = has_event_widths.property property in
    let up : length property.1 + 12 ≤ up4 (length property.1 + 12) = up_to-le 4 (length property.1 + 12) (omega arith) in
    omega (arith, width, up)

-- A value that is found among properties is no longer than their tokens.
found_width : (name value : List ℕ) (properties : List Property) → find (slice_cmp nat_cmp) name properties ≡ Some value →
    length value ≤ properties_width properties
found_width name value [] found = absurd cc
found_width name value (property ∷ later) found =
    where_first (is_eq (slice_cmp nat_cmp name property.0)) refl (λ found. found_width name value later found)
  where
    all : properties_width (property ∷ later) ≡ event_width (NodeProperty property) + properties_width later
    all = sum_by-cons event_width (NodeProperty property) (map NodeProperty later)

    here : (b : Bool) → is_eq (slice_cmp nat_cmp name property.0) ≡ b →
        cond b (Some property.1) (find (slice_cmp nat_cmp) name later) ≡ Some value
    here b is = sym (ap (λ b. cond b (Some property.1) (find (slice_cmp nat_cmp) name later)) is) ∙ found

    where_first : (b : Bool) → is_eq (slice_cmp nat_cmp name property.0) ≡ b →
        (find (slice_cmp nat_cmp) name later ≡ Some value → length value ≤ properties_width later) →
        length value ≤ properties_width (property ∷ later)
    where_first true is rest =
        let same : length property.1 ≡ length value = ap length (same_in_some property.1 value (here true is)) in
        omega (arith, all, value_width property, same)
    where_first false is rest =
        let others : length value ≤ properties_width later = rest (here false is) in
        omega (arith, all, others)

-- A node is as wide as its properties, its children and the nodes after it.
node_width : (name : List ℕ) (properties : List Property) (children later : Nodes (List Property)) →
    properties_width properties + (nodes_width children + nodes_width later) ≤ nodes_width (node name properties children later)
node_width name properties children later = search (rules, sum_by-cons, sum_by-append)

-- The children of a node that is found by its name are no wider than all nodes.
children_width : (wanted : List ℕ) (nodes inner : Nodes (List Property)) → children_of wanted nodes ≡ Some inner →
    nodes_width inner ≤ nodes_width nodes
children_width wanted none inner has = absurd cc
children_width wanted (node name properties children later) inner has =
    where_first (bytes_eq name wanted) refl has (λ has. children_width wanted later inner has)
  where
    where_first : (b : Bool) → bytes_eq name wanted ≡ b → children_of wanted (node name properties children later) ≡ Some inner →
        (children_of wanted later ≡ Some inner → nodes_width inner ≤ nodes_width later) →
        nodes_width inner ≤ nodes_width (node name properties children later)
    where_first true is has rest =
        let found : Some children ≡ Some inner = rw is at has in
        let same : nodes_width children ≡ nodes_width inner = ap nodes_width (same_in_some children inner found) in
        omega (arith, same, node_width name properties children later)
    where_first false is has rest =
        let found : nodes_width inner ≤ nodes_width later = rest (rw is at has) in
        omega (arith, found, node_width name properties children later)

-- A payload is the value of `data`, and no longer than the properties of its node.
payload_width : (begin : ℕ) (payload : Option (List ℕ)) (own : PropertyMap) →
    payload_length payload ≤ properties_width (entries (with_payload None begin payload own))
payload_width begin None own = omega arith
payload_width begin (Some payload) own =
    found_width data_name payload (entries (insert own data_name payload))
    (sym (get-entries (insert own data_name payload) data_name) ∙ get-put own data_name payload)

-- All payloads are no longer than their image nodes.
payloads_width : (end : ℕ) (payloads : List (Option (List ℕ))) (nodes : Nodes PropertyMap) → AllZip IsApart (each_own nodes) payloads →
    payloads_length payloads ≤ nodes_width (with_each entries (with_payloads None end payloads nodes))
payloads_width end [] none apart = omega arith
payloads_width end [] (node name own children later) apart = absurd apart
payloads_width end (payload ∷ payloads) none apart = absurd apart
payloads_width end (payload ∷ payloads) (node name own children later) apart =
    let rest : Nodes (List Property) = with_each entries (with_payloads None (end_after 4 end payload) payloads later) in
    let others : payloads_length payloads ≤ nodes_width rest = payloads_width (end_after 4 end payload) payloads later apart.1 in
    let properties : List Property = entries (with_payload None (up_to 4 end) payload own) in
    let first : payload_length payload ≤ properties_width properties = payload_width (up_to 4 end) payload own in
    let whole : properties_width properties + (nodes_width (with_each entries children) + nodes_width rest)
    ≤ nodes_width (node name properties (with_each entries children) rest) = node_width name properties (with_each entries children) rest in
    omega (arith, others, first, payloads_length-cons payload payloads, whole)

-- The image nodes of a text.
normal_images : (tree : ImageTree) (is : IsImageTree tree) →
    children_of images_name (normal_tree Embedded tree).children ≡ Some (with_each entries (with_payloads None 0 tree.payloads is.images))
normal_images tree is = search (rules, children_of-with_each, children_of-with_children_of)

-- The events of a tree are no longer than the blob of its text.
blob_width : (tree : ImageTree) → sum_by event_width (events_of (normal_tree Embedded tree)) ≤ length (blob_of Embedded tree)
blob_width tree = search (rules, sum_by, length-structure_block, blocks-le)

pub embedded_payloads_fit : (tree : ImageTree) → IsImageTree tree → payloads_length tree.payloads ≤ length (blob_of Embedded tree)
embedded_payloads_fit tree is =
    let root : Root (List Property) = normal_tree Embedded tree in
    let images : Nodes (List Property) = with_each entries (with_payloads None 0 tree.payloads is.images) in
    let payloads : payloads_length tree.payloads ≤ nodes_width images = payloads_width 0 tree.payloads is.images is.apart in
    let inner : nodes_width images ≤ nodes_width root.children
    = children_width images_name root.children images (normal_images tree is) in
    let outer : properties_width root.own + (nodes_width root.children + nodes_width none) ≤ sum_by event_width (events_of root)
    = node_width [] root.own root.children none in
    let blob : sum_by event_width (events_of root) ≤ length (blob_of Embedded tree) = blob_width tree in
    omega (arith, payloads, inner, outer, blob)
