use Rattle.std.proofs.Common.{◌≡◌, ℕ, suc, List, length, sym, ap, subst, ◌∙◌, arith}
use Rattle.std.proofs.lemmas.List.{length-map}
use Rattle.std.specs.List.{AllZip}
use Rattle.std.specs.Option.{option_map}
use Rattle.bi_blob.specs.Lookups.{Sibling, siblings, siblings_from}
use Rattle.bi_blob.proofs.Blobs.Lookups.{siblings_from-first, siblings_from-next}
use Rattle.bi_blob.specs.Tree.{FileNode}
use Rattle.bi_fdt.specs.Content.{root_of}
use Rattle.bi_fdt.specs.Views.{node_of}
use Rattle.bi_fit.specs.Content.{ImageModel, IsReadImage, image_model, payloads_of_models}
use Rattle.bi_fit.specs.ImageTree.{image_nodes, nodes_or_none}
use Rattle.bi_c.specs.Answers.{answer_of}
use Rattle.bi_c.specs.ImageElements.{image_elements}
use Rattle.bi_c.proofs.ArrayFilling.{IsFilling, filling_begins, array_is_short, array_is_filled}
use Rattle.bi_c.proofs.ImageElements.{AreElementsLeft, images_children, one_more_image, elements_count}
use Rattle.bi_c.proofs.images.fill_images.Goals as goal

pub returns-then-elements-images : goal.returns-then-elements-images
returns-then-elements-images c =
    let content = c.args.fit.now in
    let file = content.blob.file in
    let nodes = siblings (nodes_or_none (image_nodes (root_of content.blob))) in
    let count = elements_count file nodes content.images c.requires.images in
    let same : length c.images-images.result.now ≡ length content.images =
    sym (length-map c.images-images.result.now image_model) ∙ ap length c.images-images.ensures in
    array_is_short _ (image_elements file nodes (payloads_of_models content.images)) 0 c.args.elements.now _
    (c.answer_with.ensures ∙ ap (λ (n : ℕ). answer_of n 0) (same ∙ sym count)) (omega (arith, same, count, c.if-elements-images.true))

pub loop-next-init : goal.loop-next-init
loop-next-init c =
    let content = c.args.fit.now in
    let file = content.blob.file in
    let nodes = siblings (nodes_or_none (image_nodes (root_of content.blob))) in
    let all = image_elements file nodes (payloads_of_models content.images) in
    let count = elements_count file nodes content.images c.requires.images in
    let same : length c.images-images.result.now ≡ length content.images =
    sym (length-map c.images-images.result.now image_model) ∙ ap length c.images-images.ensures in
    let is_first : siblings_from (option_map node_of c.first_child-next.result) ≡ nodes =
    ap siblings_from c.first_child-next.ensures.child ∙ siblings_from-first (node_of c.images_node.result).children
    ∙ ap siblings (sym (images_children (root_of content.blob) (node_of c.images_node.result) c.images_node.ensures.node)) in
    subst (λ (left : List (Sibling FileNode)).
    AreElementsLeft file all c.images-images.result.now c.args.elements.now left 0 c.args.elements.now)
    (sym is_first) (record {
      read = subst (λ (images : List ImageModel). AllZip (IsReadImage file) nodes images) (sym c.images-images.ensures) c.requires.images;
      filling = subst (λ (images : List ImageModel). IsFilling all (image_elements file nodes (payloads_of_models images)) 0
          c.args.elements.now c.args.elements.now) (sym c.images-images.ensures)
          (filling_begins all c.args.elements.now (omega (arith, same, count, c.if-elements-images.false)));
    })

pub loop-next-smaller : goal.loop-next-smaller
loop-next-smaller c =
    let e : length (siblings_from (option_map node_of c.loop-next.next))
    ≡ suc (length (siblings_from (option_map node_of c.next_sibling-next.result))) =
    ap length (siblings_from-next (option_map node_of c.loop-next.next) (option_map node_of c.next_sibling-next.result)
    (node_of c.in-Some.node) (ap (option_map node_of) c.in-Some.is) c.next_sibling-next.ensures.sibling) in
    omega arith

pub loop-next-preserved : goal.loop-next-preserved
loop-next-preserved c =
    let content = c.args.fit.now in
    let file = content.blob.file in
    let nodes = siblings (nodes_or_none (image_nodes (root_of content.blob))) in
    let all = image_elements file nodes (payloads_of_models content.images) in
    let images = c.images-images.result.now in
    let first = node_of c.in-Some.node in
    let later = siblings_from (option_map node_of c.next_sibling-next.result) in
    let is_first = siblings_from-next (option_map node_of c.loop-next.next) (option_map node_of c.next_sibling-next.result) first
    (ap (option_map node_of) c.in-Some.is) c.next_sibling-next.ensures.sibling in
    let are = subst (λ (left : List (Sibling FileNode)).
    AreElementsLeft file all images c.args.elements.now left c.loop-next.index c.loop-next.elements) is_first c.loop-next.invariant in
    one_more_image file all images c.args.elements.now first later c.loop-next.index c.loop-next.elements are _ c.image_element.result
    (c.image_element.ensures file)

pub returns : goal.returns
returns c =
    let content = c.args.fit.now in
    let file = content.blob.file in
    let nodes = siblings (nodes_or_none (image_nodes (root_of content.blob))) in
    let all = image_elements file nodes (payloads_of_models content.images) in
    let count = elements_count file nodes content.images c.requires.images in
    let same : length c.images-images.result.now ≡ length content.images =
    sym (length-map c.images-images.result.now image_model) ∙ ap length c.images-images.ensures in
    let are = subst (λ next.
    AreElementsLeft file all c.images-images.result.now c.args.elements.now (siblings_from (option_map node_of next))
    c.loop-next.index c.loop-next.elements) c.in_default.is c.loop-next.invariant in
    array_is_filled _ all 0 c.loop-next.index c.args.elements.now c.loop-next.elements _
    (c.answer_with.ensures ∙ ap (λ (n : ℕ). answer_of n 0) (same ∙ sym count)) are.filling
