use Rattle.std.proofs.Common.{◌≡◌, ℕ, ◌+◌, List, [], ◌∷◌, length, map, slice_get, Option, Some, None, refl, sym, ap, ◌∙◌, rules}
use Rattle.std.specs.Option.{option_map}
use Rattle.std.proofs.lemmas.Option.{slice_get-map}
use Rattle.bi_base.specs.Cells.{up4}
use Rattle.bi_legacy.specs.declared.parts.Part.{Part}
use Rattle.bi_legacy.specs.Meaning.{LegacyImage}
use Rattle.bi_legacy.specs.Parts.{parts_start}
use Rattle.bi_legacy.specs.PlacedParts.{PartModel, part_model, placed_parts_from, placed_parts}
use Rattle.bi_legacy.specs.Reading.{part_places}

-- The part with an index has the bytes and the offset of this part of the image.

-- The bytes of the parts with their offsets are the parts.
pub map-bytes : (at : ℕ) (parts : List (List ℕ)) → map (λ (part : PartModel). part.bytes) (placed_parts_from at parts) ≡ parts
map-bytes at [] = refl
map-bytes at (part ∷ parts) = ap (λ later. part ∷ later) (map-bytes (up4 (at + length part)) parts)

-- The bytes of a part that was found.
found-bytes : (result : Option Part) →
    option_map (λ (part : PartModel). part.bytes) (option_map part_model result) ≡ option_map (λ (part : Part). part.bytes.now) result
found-bytes None = refl
found-bytes (Some part) = refl

-- The offset of a part that was found.
found-place : (result : Option Part) →
    option_map (λ (part : PartModel). part.place) (option_map part_model result) ≡ option_map (λ (part : Part). part.place) result
found-place None = refl
found-place (Some part) = refl

-- The bytes of the part with an index are those of this part of the image.
pub nth_bytes : (image : LegacyImage) (index : ℕ) (result : Option Part) →
    option_map part_model result ≡ slice_get (placed_parts image) index →
    option_map (λ (part : Part). part.bytes.now) result ≡ slice_get image.parts index
nth_bytes image index result e =
    sym (found-bytes result) ∙ ap (option_map (λ (part : PartModel). part.bytes)) e
    ∙ sym (slice_get-map (λ (part : PartModel). part.bytes) (placed_parts image) index)
    ∙ ap (λ (parts : List (List ℕ)). slice_get parts index) (map-bytes (parts_start image.image_type image.parts) image.parts)

-- The offset of the part with an index is that of this part of the image.
pub nth_place : (image : LegacyImage) (index : ℕ) (result : Option Part) →
    option_map part_model result ≡ slice_get (placed_parts image) index →
    option_map (λ (part : Part). part.place) result ≡ slice_get (part_places image) index
nth_place image index result e = search (rules, found-place, slice_get-map)
