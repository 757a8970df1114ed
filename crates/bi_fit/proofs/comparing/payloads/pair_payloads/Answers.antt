use Rattle.std.proofs.Common.{◌≡◌, List, ◌∷◌, map, sym, ap, subst}
use Rattle.std.specs.Slice.Iter.{iter_rest}
use Rattle.bi_fit.specs.declared.comparing.region_pairs.RegionPair.{RegionPair}
use Rattle.bi_fit.specs.Content.{ImageModel, image_model, payloads_of_models}
use Rattle.bi_fit.proofs.PairedPayloads.{IsPairing, pairing_next}
use Rattle.bi_fit.proofs.comparing.payloads.pair_payloads.Goals as goal

pub loop-image-preserved : goal.loop-image-preserved
loop-image-preserved c =
    let file = c.args.file.now in
    let other = c.args.other_file.now in
    let pairs = c.loop-image.pairs.items in
    let all_same = payloads_of_models (map image_model c.args.images.now) ≡ payloads_of_models (map image_model c.args.others.now) in
    let images = map image_model (iter_rest c.next.new.self.a) in
    let others = map image_model (iter_rest c.next.new.self.b) in
    let image = image_model c.in-Some.image.now in
    let other_image = image_model c.in-Some.other.now in
    let here : IsPairing file other pairs (image ∷ images) (other_image ∷ others) all_same =
    subst (λ (these : List ImageModel). IsPairing file other pairs these (other_image ∷ others) all_same)
    (ap (map image_model) c.in-Some.ensures.steps.0)
    (subst (λ (those : List ImageModel). IsPairing file other pairs
    (map image_model (iter_rest c.loop-image.image-iterator.a)) those all_same) (ap (map image_model) c.in-Some.ensures.steps.1)
    c.loop-image.invariant) in
    subst (λ (more : List RegionPair). IsPairing file other more images others all_same) (sym c.in_ok-push.ensures.items)
    (pairing_next file other pairs c.in-Some-pair_of_payloads.pair image other_image images others all_same here
    c.in-Some-pair_of_payloads.ensures)
