use Rattle.std.specs.Prelude.{◌≡◌, ◌↔◌, ℕ, ◌+◌, ◌≤◌, ◌%◌, Bool, true, false, List, [], ◌∷◌}
use Rattle.std.specs.Prelude.{◌++◌, Option, Some, None, IfSome}
use Rattle.std.specs.List.{AllByRecursion}
use Rattle.bi_base.specs.Cells.{up_to}
use Rattle.bi_fit.specs.declared.image.Image.{Image}
use Rattle.bi_fit.specs.declared.image.Place.{Place}
use Rattle.bi_fit.specs.declared.image.Place.TheVariants.{DataOffset, DataPosition}
use Rattle.bi_fit.specs.Content.{ImageModel, image_model}
use Rattle.bi_fit.specs.Kept.{IsPower, PlacedPayload, payload_if_placed}
use Rattle.bi_fit.specs.Text.{end_after}

-- Where a file and a text have the payloads of images that were read, image by image.

-- The offset in the file of a payload that is not empty, if `data-offset` or `data-position` gives
-- it.
abbrev pub offset_if_placed : Place → Option (List ℕ) → Option ℕ
offset_if_placed (DataOffset offset) (Some (byte ∷ later)) = Some offset
offset_if_placed (DataPosition offset) (Some (byte ∷ later)) = Some offset
offset_if_placed place payload = None

-- The same, of an image.
abbrev pub placed_offset : ImageModel → Option ℕ
placed_offset image = offset_if_placed image.place image.payload

-- Whether a payload is not empty and `data-position` gives it.
abbrev pub is_at_position : Place → Option (List ℕ) → Bool
is_at_position (DataPosition offset) (Some (byte ∷ later)) = true
is_at_position place payload = false

-- Whether the payload of an image is not empty and `data-position` gives it.
abbrev pub has_position : ImageModel → Bool
has_position image = is_at_position image.place image.payload

-- The payloads of images that are not empty and that `data-offset` or `data-position` gives. The
-- blob of the text has `base` bytes, and the payloads before these end at `end`.
abbrev pub placed_images : (base end : ℕ) → List Image → List PlacedPayload
placed_images base end [] = []
placed_images base end (image ∷ later) =
    payload_if_placed image.place (image_model image).payload (Some (base + up_to 4 end))
    ++ placed_images base (end_after 4 end (image_model image).payload) later

-- Each of these payloads is at a multiple of a number of bytes in the file.
abbrev pub AreAlignedImages : (bytes : ℕ) → List Image → Type 0
AreAlignedImages bytes images =
    AllByRecursion
    (λ image. IfSome (placed_offset (image_model image)) (λ offset. offset % bytes ≡ 0)) images

-- This is the greatest power of two up to 1048576 for which that holds.
pub record IsAlignmentOfImages (images : List Image) (bytes : ℕ) : Type 0 where
  pub is_power : IsPower bytes
  pub divides : AreAlignedImages bytes images
  pub greatest : (other : ℕ) → IsPower other → AreAlignedImages other images → other ≤ bytes

-- The greatest power of two up to `most` that divides an offset.
pub record IsPowerWithin (most offset bytes : ℕ) : Type 0 where
  pub is_power : IsPower bytes
  pub same : (other : ℕ) → IsPower other
      → ((other ≤ most) × (offset % other ≡ 0)) ↔ (other ≤ bytes)
