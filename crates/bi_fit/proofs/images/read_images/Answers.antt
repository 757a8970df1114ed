use Rattle.std.proofs.Common.{◌≡◌, [], ◌∷◌, suc, length, map, sym, ap, subst, ◌∙◌, arith}
use Rattle.std.proofs.lemmas.List.{map-append}
use Rattle.std.specs.Option.{option_map}
use Rattle.bi_base.proofs.Refusals.{refused_by}
use Rattle.bi_blob.specs.Lookups.{siblings}
use Rattle.bi_fdt.specs.Views.{node_of}
use Rattle.bi_blob.specs.Lookups.{siblings_from}
use Rattle.bi_blob.proofs.Blobs.Lookups.{siblings_from-first, siblings_from-next}
use Rattle.bi_fit.specs.Content.{image_model}
use Rattle.bi_fit.proofs.ReadImages.{AreReadTo, none_read, all_read, one_more, child_fault}
use Rattle.bi_fit.proofs.images.read_images.Goals as goal

pub loop-next-init : goal.loop-next-init
loop-next-init c =
    let children = (node_of c.args.node).children in
    subst (λ items. AreReadTo c.args.file.now children (map image_model items)
    (siblings_from (option_map node_of c.first_child-next.result))) (sym c.new-images.ensures.items)
    (none_read c.args.file.now children (siblings_from (option_map node_of c.first_child-next.result))
    (ap siblings_from c.first_child-next.ensures.child ∙ siblings_from-first children) c.requires.data)

pub returns-in_err-read_image-clause-failed : goal.returns-in_err-read_image-clause-failed
returns-in_err-read_image-clause-failed c =
    refused_by _ _ _ c.from_residual.ensures.1
    (child_fault c.args.file.now (node_of c.args.node).children (map image_model c.loop-next.images.items)
    (siblings_from (option_map node_of c.loop-next.next)) (siblings (node_of c.in-Some.child).later) (node_of c.in-Some.child)
    (ap (λ next. siblings_from (option_map node_of next)) c.in-Some.is) c.loop-next.invariant c.in_err-read_image.field-0.0
    c.in_err-read_image.ensures.fault)

pub loop-next-smaller : goal.loop-next-smaller
loop-next-smaller c =
    let e : length (siblings_from (option_map node_of c.loop-next.next))
    ≡ suc (length (siblings_from (option_map node_of c.next_sibling-next.result))) =
    ap length (siblings_from-next (option_map node_of c.loop-next.next) (option_map node_of c.next_sibling-next.result)
    (node_of c.in-Some.child) (ap (option_map node_of) c.in-Some.is) c.next_sibling-next.ensures.sibling) in
    omega arith

pub loop-next-preserved : goal.loop-next-preserved
loop-next-preserved c =
    let children = (node_of c.args.node).children in
    let left = siblings_from (option_map node_of c.next_sibling-next.result) in
    subst (λ images. AreReadTo c.args.file.now children images left)
    (sym (ap (map image_model) c.in_ok-push.ensures.items
    ∙ map-append image_model c.loop-next.images.items (c.in_ok-read_image.field-0 ∷ [])))
    (one_more c.args.file.now children (map image_model c.loop-next.images.items)
    (siblings_from (option_map node_of c.loop-next.next)) left (node_of c.in-Some.child)
    (siblings_from-next (option_map node_of c.loop-next.next) (option_map node_of c.next_sibling-next.result) (node_of c.in-Some.child)
    (ap (option_map node_of) c.in-Some.is) c.next_sibling-next.ensures.sibling)
    c.loop-next.invariant (image_model c.in_ok-read_image.field-0) c.in_ok-read_image.ensures.image)

pub returns-clause-images : goal.returns-clause-images
returns-clause-images c =
    let children = (node_of c.args.node).children in
    let images = map image_model c.loop-next.images.items in
    all_read c.args.file.now children images
    (subst (λ next. AreReadTo c.args.file.now children images (siblings_from (option_map node_of next)))
    c.in_default.is c.loop-next.invariant)
