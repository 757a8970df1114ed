use Rattle.std.proofs.Common.{◌≡◌, ◌<◌, ◌≤◌, ◌∷◌, ◌++◌, List, [], get_or, length, ap, ◌∙◌, subst, sym, map, rules}
use Rattle.bi_fit.specs.declared.key.Key.{Key}
use Rattle.bi_fit.specs.declared.key.Key.TheVariants.{Kernel}
use Rattle.bi_legacy.specs.PlacedParts.{part_model}
use Rattle.bi_legacy.specs.Meaning.{LegacyImage}
use Rattle.bi_fit.specs.declared.building.NamedImage.{NamedImage}
use Rattle.bi_fit.specs.NamedImages.{named_model}
use Rattle.bi_norm.specs.Converting.{first_image, later_image, keys_of_type}
use Rattle.bi_norm.proofs.ConvertedParts.{bytes_of_part, not_empty, IsPartWay, begins, after_first, after_later}
use Rattle.bi_norm.proofs.converting.images.images_of.Goals.{then-is_empty, else-is_empty}
use Rattle.bi_norm.proofs.converting.images.images_of.Goals as goal

pub loop-part-init : goal.loop-part-init
loop-part-init c =
    let image = c.args.image.now.image in
    let keys = c.keys_of_type-keys.result.now in
    let left = c.into_iter-part-iterator.result in
    let all = ap (map bytes_of_part) c.into_iter-part-iterator.ensures.into_iter_gives ∙ c.parts-part-items.ensures.bytes in
    subst (λ (images : List NamedImage). IsPartWay image keys images left) (sym c.in_ok-images.ensures.items) (begins image keys left all)

pub loop-part-preserved : goal.loop-part-preserved
loop-part-preserved c =
    let image = c.args.image.now.image in
    let keys = c.keys_of_type-keys.result.now in
    let images = c.loop-part.images.items in
    let placed = part_model c.in-Some.part in
    let left = c.next.new.self in
    let step : c.loop-part.part-iterator ≡ placed ∷ left = search rules in
    let way = subst (IsPartWay image keys images) step c.loop-part.invariant in
    let same : keys ≡ keys_of_type image.image_type = c.keys_of_type-keys.ensures
    ∙ ap (λ (image : LegacyImage). keys_of_type image.image_type) c.fields-fields.ensures in
    let few : length image.parts ≤ length keys = subst (λ (all : List Key). length image.parts ≤ length all)
    (sym same) c.requires.can.1.1.1.1.1.0 in
    let key = get_or keys c.len.result Kernel in
    let place : c.len.result ≡ length images = search rules in
    let after : IsPartWay image keys (images ++ c.if-is_empty.next ∷ []) left = elim c.if-is_empty.branch [
      | then-is_empty w ↦
          let none : length images ≡ 0 = search rules in
          let is = subst (λ (image : LegacyImage). named_model w.first_image-next.result ≡ first_image image key placed.bytes)
          c.fields-fields.ensures w.first_image-next.ensures.image
          ∙ ap (λ n. first_image image (get_or keys n Kernel) placed.bytes) place in
          subst (λ (next : NamedImage). IsPartWay image keys (images ++ (next ∷ [])) left) (sym w.next-is)
          (after_first image keys images placed left w.first_image-next.result Kernel way few none is w.first_image-next.ensures.payload)
      | else-is_empty w ↦
          let some : 0 < length images = subst (λ n. 0 < n) c.loop-part.images.ok.0
          (not_empty c.loop-part.images.len w.if-is_empty.ensures) in
          let is = w.later_image-next.ensures.image image c.requires.names
          ∙ ap (λ n. later_image image (get_or keys n Kernel) placed.bytes) place in
          subst (λ (next : NamedImage). IsPartWay image keys (images ++ (next ∷ [])) left) (sym w.next-is)
          (after_later image keys images placed left w.later_image-next.result Kernel way few some is w.later_image-next.ensures.payload)
    ] in
    subst (λ (images : List NamedImage). IsPartWay image keys images left) (sym c.in_ok-push.ensures.items) after
