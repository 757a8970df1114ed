use Rattle.std.proofs.Common.{◌≡◌, ℕ, ◌≤◌, ◌+◌, max, Bool, true, false, cond, not, List, [], ◌∷◌, map, length, Option, Some, None, bytes_eq}
use Rattle.std.proofs.Common.{refl, sym, ap, ap₂, subst, ◌∙◌, append-nil, true≢false}
use Rattle.std.specs.Prelude.{IfSome}
use Rattle.std.specs.FinMap.{get, insert}
use Rattle.std.specs.List.{AllByRecursion, AllZip}
use Rattle.std.proofs.lemmas.Slice.Eq.{bytes_eq-Decides}
use Rattle.bi_base.specs.Cells.{AreBytes, up_to}
use Rattle.bi_blob.specs.Tree.{Nodes, none, node, Root, PropertyMap, AreNodes, IsNew, depth, depth_of}
use Rattle.bi_blob.specs.Following.{most_open_nodes}
use Rattle.bi_fit.specs.Laws.{IsAcceptedAs}
use Rattle.bi_fit.specs.declared.form.Form.TheVariants.{Embedded}
use Rattle.bi_fit.specs.ImageTree.{ImageTree, IsImageTree, IsApart, ArePropertiesByName, each_own, image_nodes, nodes_or_none}
use Rattle.bi_fit.specs.ImageTree.{with_image_nodes, without_payload, without_payloads, tree_without_payloads}
use Rattle.bi_fit.specs.Names.{data_name, images_name, is_payload_name}
use Rattle.bi_fit.specs.Text.{blob_of, end_after, fit_text, with_payload, with_payloads}
use Rattle.bi_fit.proofs.PayloadProperties.{get-put, get-put_other, get-without, same, taken_out, without-with_payload}
use Rattle.bi_fit.proofs.TextLaws.{fit_text_is_accepted}
use Rattle.bi_fit.proofs.TreeContents.{content-in_byte_order, nodes-without_payloads, properties-with_payload}
use Rattle.bi_fit.proofs.TreeShapes.{AreNodes-children_of, AreNodes-with_children_of, bytes-with_children_of, bytes-with_payloads}
use Rattle.bi_fit.proofs.TreeShapes.{bytes-without_payloads, depth-with_children_of, depth-with_payloads, names-with_payloads}
use Rattle.bi_fit.proofs.Trees.{children_of-with_children_of, with_children_of-back}
use Rattle.bi_plain.specs.Laws.{EachImageTreeHasPlainTree, EachPlainTreeIsOfImageTree, PlainTreesReturn}
use Rattle.bi_plain.specs.Plain.{HasOnlyData, IsPlainTree, plain_payloads, plain_root, with_plain_root}
use Rattle.bi_plain.specs.PlainText.{HasPlainText, plain_text}

-- Flattened image trees and their plain trees.

-- ---- an image node

-- With its payload it has no other of the four properties.
only_data : (begin : ℕ) (payload : Option (List ℕ)) (own : PropertyMap) → IsApart own payload →
    HasOnlyData (with_payload None begin payload own)
only_data begin None own apart name is other = apart.no_payload_name name is
only_data begin (Some payload) own apart name is other =
    get-put_other own data_name payload name (differs (bytes_eq name data_name) refl) ∙ apart.no_payload_name name is
  where
    differs : (b : Bool) → bytes_eq name data_name ≡ b → bytes_eq name data_name ≡ false
    differs true equal = absurd (other ((bytes_eq-Decides name data_name).0 equal))
    differs false differ = differ

-- Its payload is found.
payload_found : (begin : ℕ) (payload : Option (List ℕ)) (own : PropertyMap) → IsApart own payload →
    get (with_payload None begin payload own) data_name ≡ payload
payload_found begin None own apart = apart.no_payload_name data_name refl
payload_found begin (Some payload) own apart = get-put own data_name payload

-- Taken out and put in again, the payload leaves it as it was.
without_none : (own : PropertyMap) → HasOnlyData own → get own data_name ≡ None → without_payload own ≡ own
without_none own only absent = taken_out own own (λ name is. by_name name is (bytes_eq name data_name) refl) (λ name is. refl)
  where
    by_name : (name : List ℕ) → is_payload_name name ≡ true → (b : Bool) → bytes_eq name data_name ≡ b → get own name ≡ None
    by_name name is true equal = ap (get own) ((bytes_eq-Decides name data_name).0 equal) ∙ absent
    by_name name is false differ =
        only name is (λ equal. true≢false (sym ((bytes_eq-Decides name data_name).1 equal) ∙ differ))

with_again : (own : PropertyMap) (payload : List ℕ) → HasOnlyData own → get own data_name ≡ Some payload →
    insert (without_payload own) data_name payload ≡ own
with_again own payload only is = same _ _ (λ name. by_data name (bytes_eq name data_name) refl)
  where
    by_payload : (name : List ℕ) → bytes_eq name data_name ≡ false → (b : Bool) → is_payload_name name ≡ b →
        cond (not b) (get own name) None ≡ get own name
    by_payload name differ true is_payload =
        sym (only name is_payload (λ equal. true≢false (sym ((bytes_eq-Decides name data_name).1 equal) ∙ differ)))
    by_payload name differ false is_other = refl

    by_data : (name : List ℕ) → (b : Bool) → bytes_eq name data_name ≡ b →
        get (insert (without_payload own) data_name payload) name ≡ get own name
    by_data name true equal =
        let same_name = (bytes_eq-Decides name data_name).0 equal in
        ap (get (insert (without_payload own) data_name payload)) same_name
        ∙ get-put (without_payload own) data_name payload
        ∙ sym (ap (get own) same_name ∙ is)
    by_data name false differ =
        get-put_other (without_payload own) data_name payload name differ
        ∙ get-without own name
        ∙ ap (λ b. cond (not b) (get own name) None) refl
        ∙ by_payload name differ (is_payload_name name) refl

put_again : (begin : ℕ) (own : PropertyMap) → HasOnlyData own → (found : Option (List ℕ)) → get own data_name ≡ found →
    with_payload None begin found (without_payload own) ≡ own
put_again begin own only None is = without_none own only is
put_again begin own only (Some payload) is = with_again own payload only is

-- Apart from its properties, its payload is bytes.
apart_again : (own : PropertyMap) → ArePropertiesByName own → (found : Option (List ℕ)) → get own data_name ≡ found →
    IsApart (without_payload own) found
apart_again own are found is = record {
  no_payload_name = λ name is_payload. get-without own name ∙ ap (λ b. cond (not b) (get own name) None) is_payload;
  bytes = by_found found is;
} where
  by_found : (found : Option (List ℕ)) → get own data_name ≡ found → IfSome found AreBytes
  by_found None is = tt
  by_found (Some payload) is = (are data_name payload is).value_bytes

-- ---- image nodes

only_data_each : (end : ℕ) (payloads : List (Option (List ℕ))) (nodes : Nodes PropertyMap) → AllZip IsApart (each_own nodes) payloads →
    AllByRecursion HasOnlyData (each_own (with_payloads None end payloads nodes))
only_data_each end [] none apart = tt
only_data_each end [] (node name own children later) apart = absurd apart
only_data_each end (payload ∷ payloads) none apart = tt
only_data_each end (payload ∷ payloads) (node name own children later) apart =
    (only_data (up_to 4 end) payload own apart.0, only_data_each (end_after 4 end payload) payloads later apart.1)

payloads_found : (end : ℕ) (payloads : List (Option (List ℕ))) (nodes : Nodes PropertyMap) → AllZip IsApart (each_own nodes) payloads →
    map (λ own. get own data_name) (each_own (with_payloads None end payloads nodes)) ≡ payloads
payloads_found end [] none apart = refl
payloads_found end [] (node name own children later) apart = absurd apart
payloads_found end (payload ∷ payloads) none apart = absurd apart
payloads_found end (payload ∷ payloads) (node name own children later) apart =
    ap₂ (λ (first : Option (List ℕ)) more. first ∷ more) (payload_found (up_to 4 end) payload own apart.0)
    (payloads_found (end_after 4 end payload) payloads later apart.1)

without-with_payloads : (end : ℕ) (payloads : List (Option (List ℕ))) (nodes : Nodes PropertyMap) →
    AllZip IsApart (each_own nodes) payloads → without_payloads (with_payloads None end payloads nodes) ≡ nodes
without-with_payloads end [] none apart = refl
without-with_payloads end [] (node name own children later) apart = absurd apart
without-with_payloads end (payload ∷ payloads) none apart = refl
without-with_payloads end (payload ∷ payloads) (node name own children later) apart =
    ap (λ own. node name own children (without_payloads (with_payloads None (end_after 4 end payload) payloads later)))
    (without-with_payload None (up_to 4 end) payload own apart.0)
    ∙ ap (node name own children) (without-with_payloads (end_after 4 end payload) payloads later apart.1)

nodes-with_payloads : (end : ℕ) (payloads : List (Option (List ℕ))) (nodes : Nodes PropertyMap) →
    AllZip IsApart (each_own nodes) payloads → AreNodes ArePropertiesByName nodes →
    AreNodes ArePropertiesByName (with_payloads None end payloads nodes)
nodes-with_payloads end [] nodes apart are = are
nodes-with_payloads end (payload ∷ payloads) none apart are = tt
nodes-with_payloads end (payload ∷ payloads) (node name own children later) apart are = (
  record {
    is_name = are.0.is_name;
    is_own = properties-with_payload None (up_to 4 end) payload own apart.0.bytes are.0.is_own;
    is_new = subst (IsNew name) (sym (names-with_payloads None (end_after 4 end payload) payloads later)) are.0.is_new;
  },
  are.1,
  nodes-with_payloads (end_after 4 end payload) payloads later apart.1 are.2,
)

put_each_again : (end : ℕ) (nodes : Nodes PropertyMap) → AllByRecursion HasOnlyData (each_own nodes) →
    with_payloads None end (map (λ own. get own data_name) (each_own nodes)) (without_payloads nodes) ≡ nodes
put_each_again end none only = refl
put_each_again end (node name own children later) only =
    ap (λ kept. node name kept children
    (with_payloads None (end_after 4 end (get own data_name)) (map (λ own. get own data_name) (each_own later)) (without_payloads later)))
    (put_again (up_to 4 end) own only.0 (get own data_name) refl)
    ∙ ap (node name own children) (put_each_again (end_after 4 end (get own data_name)) later only.1)

each_apart_again : (nodes : Nodes PropertyMap) → AreNodes ArePropertiesByName nodes →
    AllZip IsApart (each_own (without_payloads nodes)) (map (λ own. get own data_name) (each_own nodes))
each_apart_again none are = tt
each_apart_again (node name own children later) are =
    (apart_again own are.0.is_own (get own data_name) refl, each_apart_again later are.2)

-- ---- trees

depth-with_images : (change : Nodes PropertyMap → Nodes PropertyMap) → ((nodes : Nodes PropertyMap) → depth (change nodes) ≡ depth nodes) →
    (root : Root PropertyMap) → depth_of (with_image_nodes change root) ≡ depth_of root
depth-with_images change as_deep root =
    ap (λ n. max (n + 1) 0) (depth-with_children_of images_name change as_deep root.children)

pub each_image_tree_has_plain_tree : EachImageTreeHasPlainTree
each_image_tree_has_plain_tree tree is = record {
  is_plain = record {
    is_tree = record {
      is_own = is.is_tree.is_own;
      children = AreNodes-with_children_of images_name (with_payloads None 0 tree.payloads) ArePropertiesByName tree.root.children
          is.images is.has_images
          (nodes-with_payloads 0 tree.payloads is.images is.apart
          (AreNodes-children_of ArePropertiesByName images_name tree.root.children is.images is.has_images is.is_tree.children))
          is.is_tree.children;
    };
    name_bytes = bytes-with_children_of images_name (with_payloads None 0 tree.payloads)
        (bytes-with_payloads None 0 tree.payloads) tree.root.children is.name_bytes;
    images = with_payloads None 0 tree.payloads is.images;
    has_images = found;
    embedded = only_data_each 0 tree.payloads is.images is.apart;
  };
  same_depth = depth-plain;
  same = λ i. record tree { root = same_root i; payloads = same_payloads i };
  is_text = sym (append-nil (blob_of Embedded tree));
} where
  found : image_nodes (plain_root tree) ≡ Some (with_payloads None 0 tree.payloads is.images)
  found = children_of-with_children_of images_name (with_payloads None 0 tree.payloads) tree.root.children is.images is.has_images

  same_root : tree_without_payloads (plain_root tree) ≡ tree.root
  same_root = ap (λ children. record { own = tree.root.own; children = children })
      (with_children_of-back images_name (with_payloads None 0 tree.payloads) without_payloads tree.root.children is.images
      is.has_images (without-with_payloads 0 tree.payloads is.images is.apart))

  same_payloads : plain_payloads (plain_root tree) ≡ tree.payloads
  same_payloads = ap (λ nodes. map (λ own. get own data_name) (each_own (nodes_or_none nodes))) found
      ∙ payloads_found 0 tree.payloads is.images is.apart

  depth-plain : depth_of (plain_root tree) ≡ depth_of tree.root
  depth-plain = depth-with_images (with_payloads None 0 tree.payloads) (depth-with_payloads None 0 tree.payloads) tree.root

pub each_plain_tree_is_of_image_tree : EachPlainTreeIsOfImageTree
each_plain_tree_is_of_image_tree root tree is is_tree = record {
  is_tree = record {
    cpu_fits = is_tree.cpu_fits;
    are_reservations = is_tree.are_reservations;
    is_tree = record {
      is_own = is.is_tree.is_own;
      children = AreNodes-with_children_of images_name without_payloads ArePropertiesByName root.children is.images is.has_images
          (nodes-without_payloads is.images images_are) is.is_tree.children;
    };
    name_bytes = bytes-with_children_of images_name without_payloads bytes-without_payloads root.children is.name_bytes;
    images = without_payloads is.images;
    has_images = children_of-with_children_of images_name without_payloads root.children is.images is.has_images;
    apart = subst (AllZip IsApart (each_own (without_payloads is.images))) (sym payloads) (each_apart_again is.images images_are);
  };
  same = ap (λ payloads. with_image_nodes (with_payloads None 0 payloads) (tree_without_payloads root)) payloads
      ∙ ap (λ children. record { own = root.own; children = children })
      (with_children_of-back images_name without_payloads (with_payloads None 0 (map (λ own. get own data_name) (each_own is.images)))
      root.children is.images is.has_images (put_each_again 0 is.images is.embedded));
} where
  images_are : AreNodes ArePropertiesByName is.images
  images_are = AreNodes-children_of ArePropertiesByName images_name root.children is.images is.has_images is.is_tree.children

  payloads : plain_payloads root ≡ map (λ own. get own data_name) (each_own is.images)
  payloads = ap (λ nodes. map (λ own. get own data_name) (each_own (nodes_or_none nodes))) is.has_images

pub plain_trees_return : PlainTreesReturn
plain_trees_return bounds root tree is is_tree shallow short limit =
    let back = each_plain_tree_is_of_image_tree root tree is is_tree in
    let new = with_plain_root root tree in
    let has = each_image_tree_has_plain_tree new back.is_tree in
    let text : plain_text tree.cpu tree.reservations root ≡ fit_text Embedded new =
    ap (plain_text tree.cpu tree.reservations) (sym back.same) ∙ has.is_text in
    let depths : depth_of root ≡ depth_of new.root = ap depth_of (sym back.same) ∙ has.same_depth in
    subst (λ text. IsAcceptedAs bounds text new) (sym text)
    (fit_text_is_accepted bounds Embedded new back.is_tree (subst (λ n. n ≤ bounds.depth) depths shallow)
    (subst (λ text. length text ≤ bounds.file) text short) limit)

-- A plain tree can be laid out.
pub plain_tree_has_text : (root : Root PropertyMap) (tree : ImageTree) → IsPlainTree root → IsImageTree tree →
    depth_of root ≤ most_open_nodes → HasPlainText tree.cpu tree.reservations root
plain_tree_has_text root tree is is_tree shallow = record {
  is_content = content-in_byte_order tree.cpu tree.reservations root is_tree.cpu_fits is_tree.are_reservations is.is_tree is.name_bytes;
  shallow = shallow;
}
