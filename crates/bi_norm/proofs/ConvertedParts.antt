use Rattle.std.proofs.Common.{◌≡◌, ◌<◌, ◌≤◌, ℕ, List, [], ◌∷◌, ◌++◌, length, map, get_or, refl, ap, sym, ◌∙◌, subst, append_assoc, rules}
use Rattle.std.proofs.Common.{append-nil, zero, suc, false, arith}
use Rattle.std.specs.Prelude.{◌==◌}
use Rattle.std.proofs.lemmas.List.{map-append, length-map, length-append}
use Rattle.bi_legacy.specs.PlacedParts.{PartModel}
use Rattle.bi_fit.specs.declared.key.Key.{Key}
use Rattle.bi_legacy.specs.Meaning.{LegacyImage}
use Rattle.bi_fit.specs.declared.building.NamedImage.{NamedImage}
use Rattle.bi_fit.specs.NamedImages.{named_model, named_models}
use Rattle.bi_norm.specs.Converting.{first_image, later_image, later_images, images_of_parts, converted_images, keys_of_type}

-- The images that are made of the parts of a legacy image, one after the other, are those that the image is converted to.

-- A list without elements.
pub no_elements : (parts : List (List ℕ)) → length parts ≡ 0 → parts ≡ []
no_elements [] none = refl
no_elements (part ∷ parts) none = absurd (omega arith)

-- A number that is not zero.
pub not_empty : (count : ℕ) → false ≡ (count == 0) → 0 < count
not_empty zero test = absurd cc
not_empty (suc count) test = omega arith

-- The payload of an image, and the parts that images were made of.
abbrev pub part_of : NamedImage → List ℕ
part_of image = image.payload.now

abbrev pub payloads_of_images : List NamedImage → List (List ℕ)
payloads_of_images images = map part_of images

-- The image of one later part.
one_later : (image : LegacyImage) (key : Key) (keys : List Key) (part : List ℕ) →
    later_images image (key ∷ keys) (part ∷ []) ≡ later_image image key part ∷ []
one_later image key [] part = refl
one_later image key (next ∷ keys) part = refl

-- The images of later parts, and one more.
later_more : (image : LegacyImage) (keys : List Key) (parts : List (List ℕ)) (part : List ℕ) (d : Key) → length parts < length keys →
    later_images image keys (parts ++ part ∷ [])
    ≡ later_images image keys parts ++ (later_image image (get_or keys (length parts) d) part ∷ [])
later_more image [] parts part d room = absurd (omega arith)
later_more image (key ∷ keys) [] part d room = one_later image key keys part
later_more image (key ∷ keys) (first ∷ parts) part d room =
    ap (λ l. later_image image key first ∷ l) (later_more image keys parts part d (omega arith))

-- The images of parts, and one more.
first_more : (image : LegacyImage) (keys : List Key) (part : List ℕ) (d : Key) → 0 < length keys →
    images_of_parts image keys (part ∷ []) ≡ first_image image (get_or keys 0 d) part ∷ []
first_more image [] part d room = absurd (omega arith)
first_more image (key ∷ []) part d room = refl
first_more image (key ∷ next ∷ keys) part d room = refl

images_more : (image : LegacyImage) (keys : List Key) (first : List ℕ) (parts : List (List ℕ)) (part : List ℕ) (d : Key) →
    length (first ∷ parts) < length keys →
    images_of_parts image keys ((first ∷ parts) ++ part ∷ [])
    ≡ images_of_parts image keys (first ∷ parts) ++ (later_image image (get_or keys (length (first ∷ parts)) d) part ∷ [])
images_more image [] first parts part d room = absurd (omega arith)
images_more image (key ∷ keys) first parts part d room =
    ap (λ l. first_image image key first ∷ l) (later_more image keys parts part d (omega arith))

-- The specifications of images, and of one more.
abbrev more : List NamedImage → NamedImage → List NamedImage
more images next = images ++ (next ∷ [])

converted_first : (image : LegacyImage) (keys : List Key) (images : List NamedImage) (next : NamedImage) (d : Key) → length images ≡ 0 →
    0 < length keys → named_model next ≡ first_image image (get_or keys (length images) d) (part_of next) →
    named_models (more images next) ≡ images_of_parts image keys (payloads_of_images (more images next))
converted_first image keys [] next d none room is = ap (λ s. s ∷ []) is ∙ sym (first_more image keys (part_of next) d room)
converted_first image keys (first ∷ images) next d none room is = absurd (omega arith)

converted_later : (image : LegacyImage) (keys : List Key) (images : List NamedImage) (next : NamedImage) (d : Key) → 0 < length images →
    length images < length keys → named_models images ≡ images_of_parts image keys (payloads_of_images images) →
    named_model next ≡ later_image image (get_or keys (length images) d) (part_of next) →
    named_models (more images next) ≡ images_of_parts image keys (payloads_of_images (more images next))
converted_later image keys [] next d some room same is = absurd (omega arith)
converted_later image keys (first ∷ images) next d some room same is =
    let part = part_of first in
    let parts = payloads_of_images images in
    let count : length (part ∷ parts) ≡ length (first ∷ images) = length-map (first ∷ images) part_of in
    map-append named_model (first ∷ images) (next ∷ [])
    ∙ ap (λ l. l ++ (named_model next ∷ [])) same
    ∙ ap (λ s. images_of_parts image keys (part ∷ parts) ++ (s ∷ [])) is
    ∙ ap (λ n. images_of_parts image keys (part ∷ parts) ++ (later_image image (get_or keys n d) (part_of next) ∷ [])) (sym count)
    ∙ sym (images_more image keys part parts (part_of next) d (subst (λ n. n < length keys) (sym count) room))
    ∙ ap (images_of_parts image keys) (sym (map-append part_of (first ∷ images) (next ∷ [])))

-- The bytes of a part.
abbrev pub bytes_of_part : PartModel → List ℕ
bytes_of_part placed = placed.bytes

-- There are keys for the part that follows these.
has_key : (images : List NamedImage) (placed : PartModel) (later : List PartModel) (parts : List (List ℕ)) (most : ℕ) →
    payloads_of_images images ++ map bytes_of_part (placed ∷ later) ≡ parts → length parts ≤ most → length images < most
has_key images placed later parts most same few =
    omega (arith, ap length same, length-append (payloads_of_images images) (map bytes_of_part (placed ∷ later)), length-map images part_of)

-- The parts of images and one more, and those that are left, are all.
all_parts : (images : List NamedImage) (next : NamedImage) (placed : PartModel) (later : List PartModel) (parts : List (List ℕ)) →
    part_of next ≡ placed.bytes → payloads_of_images images ++ map bytes_of_part (placed ∷ later) ≡ parts →
    payloads_of_images (more images next) ++ map bytes_of_part later ≡ parts
all_parts images next placed later parts is same = search (rules, map-append, append_assoc)

-- No parts have no images.
no_images : (image : LegacyImage) (keys : List Key) → [] ≡ images_of_parts image keys []
no_images image [] = refl
no_images image (key ∷ keys) = refl

-- Images were made of the first parts, and these parts are left.
pub record IsPartWay (image : LegacyImage) (keys : List Key) (images : List NamedImage) (left : List PartModel) : Type 0 where
  pub are_all : payloads_of_images images ++ map bytes_of_part left ≡ image.parts
  pub are_images : named_models images ≡ images_of_parts image keys (payloads_of_images images)

-- At the beginning.
pub begins : (image : LegacyImage) (keys : List Key) (left : List PartModel) → map bytes_of_part left ≡ image.parts →
    IsPartWay image keys [] left
begins image keys left all = record { are_all = all; are_images = no_images image keys }

-- There is a key for the next part.
pub key_of_next : (image : LegacyImage) (keys : List Key) (images : List NamedImage) (placed : PartModel) (left : List PartModel) →
    IsPartWay image keys images (placed ∷ left) → length image.parts ≤ length keys → length images < length keys
key_of_next image keys images placed left way few = has_key images placed left image.parts (length keys) way.are_all few

-- After the image of the first part, and of a later one.
pub after_first : (image : LegacyImage) (keys : List Key) (images : List NamedImage) (placed : PartModel) (left : List PartModel)
    (next : NamedImage) (d : Key) → IsPartWay image keys images (placed ∷ left) → length image.parts ≤ length keys → length images ≡ 0 →
    named_model next ≡ first_image image (get_or keys (length images) d) placed.bytes → part_of next ≡ placed.bytes →
    IsPartWay image keys (more images next) left
after_first image keys images placed left next d way few none is part = search (rules, all_parts, converted_first, key_of_next)

pub after_later : (image : LegacyImage) (keys : List Key) (images : List NamedImage) (placed : PartModel) (left : List PartModel)
    (next : NamedImage) (d : Key) → IsPartWay image keys images (placed ∷ left) → length image.parts ≤ length keys → 0 < length images →
    named_model next ≡ later_image image (get_or keys (length images) d) placed.bytes → part_of next ≡ placed.bytes →
    IsPartWay image keys (more images next) left
after_later image keys images placed left next d way few some is part = search (rules, all_parts, converted_later, key_of_next)

-- At the end.
pub ends : (image : LegacyImage) (keys : List Key) (images : List NamedImage) → keys ≡ keys_of_type image.image_type →
    IsPartWay image keys images [] → named_models images ≡ converted_images image
ends image keys images same way = search (rules, append-nil)
