use Rattle.std.proofs.Common.{◌≡◌, ◌+◌, ◌∷◌, [], ◌++◌, List, map, drop, get_or, add-one, drop-cons, ap, ap₂, sym, subst, ◌∙◌}
use Rattle.std.specs.Option.{option_map}
use Rattle.std.proofs.lemmas.List.{drop_all}
use Rattle.bi_blob.specs.Lookups.{siblings, siblings_from}
use Rattle.bi_fdt.specs.Views.{node_of}
use Rattle.bi_fit.specs.Content.{AreAtTheirPlaces, ImageModel, image_model, payloads_of_models}
use Rattle.bi_fit.specs.ImageTree.{nodes_or_none}
use Rattle.bi_fit.proofs.PayloadEnds.{no_image}
use Rattle.bi_fit.proofs.Siblings.{from_first, from_next}
use Rattle.bi_c.specs.VerdictElements.{hash_elements}
use Rattle.bi_c.proofs.VerdictElements.{all_are_added, no_image_left_to_judge, no_node_left_to_judge, one_image_added}
use Rattle.bi_c.proofs.verdicts.hash_elements.Goals as goal

pub loop-image-init : goal.loop-image-init
loop-image-init c =
    let content = c.args.fit.now in
    let nodes = from_first c.first_child-next.result (node_of c.images_node.result).children c.first_child-next.ensures.child
    ∙ ap (λ found. siblings (nodes_or_none (option_map (λ found. found.children) found))) c.images_node.ensures.node in
    record {
      placed = subst (AreAtTheirPlaces c.region_digests-digests.result) (sym c.images-image-items.ensures)
          c.region_digests-digests.ensures.placed;
      added = ap (λ l. l ++ hash_elements (siblings_from (option_map node_of c.first_child-next.result))
          (payloads_of_models (map image_model c.images-image-items.result.now))) c.new-elements.ensures.items
          ∙ ap₂ (λ nodes images. hash_elements nodes (payloads_of_models images)) nodes c.images-image-items.ensures;
    }

pub loop-image-preserved : goal.loop-image-preserved
loop-image-preserved c =
    let items = c.images-image-items.result.now in
    let index = c.loop-image.image-index in
    let image = image_model (get_or items index no_image) in
    let later : List ImageModel = map image_model (drop (index + 1) items) in
    let first : drop index items ≡ get_or items index no_image
    ∷ drop (index + 1) items = rw add-one (drop-cons items index no_image c.loop-image-test.true) in
    let images : map image_model (drop index items) ≡ image ∷ later = ap (map image_model) first in
    let here = from_next c.loop-image.next c.next_sibling-next.result c.in-Some.node c.in-Some.is c.next_sibling-next.ensures.sibling in
    let placed = subst (AreAtTheirPlaces c.loop-image.digests) images c.loop-image.invariant.placed in
    record {
      placed = subst (λ file. AreAtTheirPlaces file later) (sym c.in_ok-push_hashes.ensures.same) placed.1;
      added = one_image_added (node_of c.in-Some.node) _ _ image _ later _ _ _ _ here images
          (c.region.ensures c.loop-image.digests placed.0).bytes c.in_ok-push_hashes.ensures.added c.loop-image.invariant.added;
    }

pub push_hashes-requires : goal.push_hashes-requires
push_hashes-requires c =
    let items = c.images-image-items.result.now in
    let index = c.loop-image.image-index in
    let first : drop index items ≡ get_or items index no_image
    ∷ drop (index + 1) items = rw add-one (drop-cons items index no_image c.loop-image-test.true) in
    let placed = subst (AreAtTheirPlaces c.loop-image.digests) (ap (map image_model) first) c.loop-image.invariant.placed in
    record { within = (c.region.ensures c.loop-image.digests placed.0).within }

pub returns-in_default : goal.returns-in_default
returns-in_default c =
    let images : List ImageModel = map image_model (drop c.loop-image.image-index c.images-image-items.result.now) in
    all_are_added _ (payloads_of_models images) c.loop-image.elements.items _
    (ap (λ next. hash_elements (siblings_from (option_map node_of next)) (payloads_of_models images)) c.in_default.is
    ∙ no_node_left_to_judge (payloads_of_models images)) c.loop-image.invariant.added

pub returns : goal.returns
returns c =
    let items = c.images-image-items.result.now in
    let nodes = siblings_from (option_map node_of c.loop-image.next) in
    let no_more : drop c.loop-image.image-index items ≡ [] = drop_all c.loop-image.image-index items c.loop-image-test.false in
    all_are_added nodes _ c.loop-image.elements.items _
    (ap (λ left. hash_elements nodes (payloads_of_models (map image_model left))) no_more ∙ no_image_left_to_judge nodes)
    c.loop-image.invariant.added
