use Rattle.std.proofs.Common.{◌≡◌, ℕ, ◌≤◌, List, [], ◌∷◌, length, Option, Some, None, refl, sym, ap, ◌∙◌, arith, length-append, rules}
use Rattle.std.specs.List.{AllZip}
use Rattle.std.specs.FinMap.{entries}
use Rattle.bi_base.specs.Cells.{up_to, up4, AreBytes}
use Rattle.bi_base.proofs.AlignmentLaws.{whole-four}
use Rattle.bi_base.proofs.ByteLists.{AreBytes-none, AreBytes-append, AreBytes-zeros}
use Rattle.bi_blob.specs.Tree.{Nodes, none, node, PropertyMap, with_each, depth_of, tree_without_order}
use Rattle.bi_blob.specs.Layout.{tree_with_places, with_places, longest_text}
use Rattle.bi_blob.specs.TextLaws.{IsBlobOf}
use Rattle.bi_blob.proofs.Blobs.BlockEnds.{depth-with_each}
use Rattle.bi_blob.proofs.Texts.NormalOrder.{has_one_order}
use Rattle.bi_blob.proofs.Texts.TextBlob.{text_is_blob, has_text_length}
use Rattle.bi_fit.specs.declared.form.Form.{Form}
use Rattle.bi_fit.specs.declared.form.Form.TheVariants.{Embedded}
use Rattle.bi_fit.specs.Names.{images_name}
use Rattle.bi_fit.specs.ImageTree.{ImageTree, each_own, image_nodes, with_image_nodes, without_payloads, tree_without_payloads, IsApart}
use Rattle.bi_fit.specs.ImageTree.{IsImageTree}
use Rattle.bi_fit.specs.Payloads.{external_base}
use Rattle.bi_fit.specs.File.{IsFitFile}
use Rattle.bi_fit.specs.Text.{alignment_of, blob_alignment, with_payloads, end_after, normal_tree, blob_of, payload_area, after_blob}
use Rattle.bi_fit.specs.Text.{fit_text}
use Rattle.bi_fit.proofs.FormAlignments.{form-aligned, form-positive}
use Rattle.bi_fit.proofs.PayloadProperties.{without-with_payload}
use Rattle.bi_fit.proofs.Trees.{children_of-with_each, children_of-with_places, children_of-with_children_of, with_children_of-back}
use Rattle.bi_fit.proofs.PayloadAreas.{AreThere, embedded_are_there, external_are_there, have_payloads}
use Rattle.bi_fit.proofs.TreeShapes.{depth-with_children_of, depth-with_payloads}
use Rattle.bi_fit.proofs.TreeContents.{content-normal_tree}

-- The text of an image tree means it.

-- Payloads that are bytes take up bytes.
bytes-payload_area : (align end : ℕ) (own : List PropertyMap) (payloads : List (Option (List ℕ))) → AllZip IsApart own payloads →
    AreBytes (payload_area align end payloads)
bytes-payload_area align end own [] apart = AreBytes-none
bytes-payload_area align end [] (payload ∷ later) apart = absurd apart
bytes-payload_area align end (first ∷ own) (None ∷ later) apart = bytes-payload_area align end own later apart.1
bytes-payload_area align end (first ∷ own) (Some payload ∷ later) apart =
    AreBytes-append _ _ (AreBytes-zeros _)
    (AreBytes-append payload _ apart.0.bytes (bytes-payload_area align (end_after align end (Some payload)) own later apart.1))

-- What follows the blob of a text is bytes.
pub bytes-after_blob : (form : Form) (tree : ImageTree) → IsImageTree tree → AreBytes (after_blob form tree)
bytes-after_blob Embedded tree is = AreBytes-none
bytes-after_blob form tree is =
    bytes-payload_area (blob_alignment (alignment_of form)) 0 (each_own is.images) tree.payloads is.apart

-- Image nodes without what gives their payloads are what they were.
without-with_payloads : (alignment : Option ℕ) (end : ℕ) (payloads : List (Option (List ℕ))) (nodes : Nodes PropertyMap) →
    AllZip IsApart (each_own nodes) payloads → without_payloads (with_payloads alignment end payloads nodes) ≡ nodes
without-with_payloads alignment end [] none apart = refl
without-with_payloads alignment end [] (node name own children later) apart = absurd apart
without-with_payloads alignment end (payload ∷ payloads) none apart = refl
without-with_payloads alignment end (payload ∷ payloads) (node name own children later) apart =
    ap (λ own. node name own children
    (without_payloads (with_payloads alignment (end_after (blob_alignment alignment) end payload) payloads later)))
    (without-with_payload alignment (up_to (blob_alignment alignment) end) payload own apart.0)
    ∙ ap (node name own children)
    (without-with_payloads alignment (end_after (blob_alignment alignment) end payload) payloads later apart.1)

-- The blob of a text begins it, and is a blob of its tree.
pub blob_of_text : (form : Form) (tree : ImageTree) → IsImageTree tree → length (fit_text form tree) ≤ longest_text →
    IsBlobOf (fit_text form tree) (blob_alignment (alignment_of form)) tree.cpu tree.reservations (normal_tree form tree)
blob_of_text form tree is short =
    text_is_blob (blob_alignment (alignment_of form)) tree.cpu tree.reservations (normal_tree form tree) (after_blob form tree)
    (form-aligned form) (content-normal_tree form tree is)
    (omega (arith, length-append (blob_of form tree) (after_blob form tree), short))
    (bytes-after_blob form tree is)

-- External payloads are counted from the end of the blob.
pub text_base : (form : Form) (tree : ImageTree) → IsImageTree tree → length (fit_text form tree) ≤ longest_text →
    external_base (fit_text form tree) ≡ length (blob_of form tree)
text_base form tree is short =
    let align = blob_alignment (alignment_of form) in
    let whole = (has_text_length align tree.cpu tree.reservations (normal_tree form tree) (form-aligned form)).is_whole in
    ap up4 (blob_of_text form tree is short).is_total
    ∙ omega (arith, whole-four align (length (blob_of form tree)) (form-aligned form) whole)

-- The external payloads of a text are where they begin.
pub text_has_payloads : (form : Form) (tree : ImageTree) → IsImageTree tree → length (fit_text form tree) ≤ longest_text →
    AreThere (alignment_of form) (fit_text form tree) 0 tree.payloads
text_has_payloads Embedded tree is short = embedded_are_there (fit_text Embedded tree) 0 tree.payloads
text_has_payloads form tree is short =
    external_are_there (blob_alignment (alignment_of form)) (fit_text form tree) (blob_of form tree) 0 tree.payloads
    (form-positive form) refl
    (omega (arith, text_base form tree is short))
    (omega (arith, short))

-- The image nodes of the tree of a text.
normal_images : (form : Form) (tree : ImageTree) (is : IsImageTree tree) →
    image_nodes (normal_tree form tree) ≡ Some (with_each entries (with_payloads (alignment_of form) 0 tree.payloads is.images))
normal_images form tree is = search (rules, children_of-with_each, children_of-with_children_of)

-- The same at the places of the layout.
pub text_images : (form : Form) (tree : ImageTree) (is : IsImageTree tree) →
    (place : ℕ) × (image_nodes (tree_with_places tree.reservations (normal_tree form tree))
    ≡ Some (with_places place (with_each entries (with_payloads (alignment_of form) 0 tree.payloads is.images))))
text_images form tree is = search (rules, children_of-with_places, normal_images)

-- The tree of a text is the tree, with the properties that give payloads.
normal_root : (form : Form) (tree : ImageTree) → IsImageTree tree →
    tree_without_payloads (tree_without_order (normal_tree form tree)) ≡ tree.root
normal_root form tree is =
    ap tree_without_payloads (has_one_order (with_image_nodes (with_payloads (alignment_of form) 0 tree.payloads) tree.root)).is_same
    ∙ ap (λ children. record { own = tree.root.own; children = children })
    (with_children_of-back images_name
    (with_payloads (alignment_of form) 0 tree.payloads) without_payloads tree.root.children is.images is.has_images
    (without-with_payloads (alignment_of form) 0 tree.payloads is.images is.apart))

-- A text means its image tree, and its tree has the places of the layout.
pub fit_text_means : (form : Form) (tree : ImageTree) → IsImageTree tree → length (fit_text form tree) ≤ longest_text →
    (is : IsFitFile (fit_text form tree) tree) × (is.root ≡ tree_with_places tree.reservations (normal_tree form tree))
fit_text_means form tree is short =
    let blob = blob_of_text form tree is short in
    let found = text_images form tree is in (
      record {
        root = tree_with_places tree.reservations (normal_tree form tree);
        blob = blob.blob;
        images = with_places found.0 (with_each entries (with_payloads (alignment_of form) 0 tree.payloads is.images));
        has_images = found.1;
        payloads = have_payloads (alignment_of form) (fit_text form tree) found.0 0 tree.payloads is.images is.apart
            (text_has_payloads form tree is short);
        is_root = sym (ap (λ root. tree_without_payloads (tree_without_order root)) blob.same_tree ∙ normal_root form tree is);
      },
      refl,
    )

-- The tree of a text is as deep as the tree.
pub depth-normal_tree : (form : Form) (tree : ImageTree) → depth_of (normal_tree form tree) ≡ depth_of tree.root
depth-normal_tree form tree = search (rules, depth-with_each, depth-with_children_of, depth-with_payloads)
