use Rattle.std.specs.Prelude.{ℕ, ◌+◌, ◌&&◌, Bool, List, [], ◌∷◌, ◌++◌, Option, bytes_eq, is_some}
use Rattle.std.specs.Prelude.{option_and_then, option_map}
use Rattle.std.specs.List.{find}
use Rattle.bi_base.specs.Cells.{up_to}
use Rattle.bi_fit.specs.declared.image.Image.{Image}
use Rattle.bi_fit.specs.Content.{ImageModel, image_model, place_or_absent}
use Rattle.bi_fit.specs.Kept.{PlacedPayload, payload_if_placed}
use Rattle.bi_fit.specs.Text.{end_after}
use Rattle.bi_edit.specs.EditNotes.{is_not_empty, is_fixed, is_outside}

-- The images of an edited file, by the names of images of the edited tree.

-- The image with this name, if there is one.
abbrev pub model_named : (name : List ℕ) → List ImageModel → Option ImageModel
model_named name images = find (λ image. bytes_eq image.name name) images

-- Its payload, if it has one.
abbrev pub payload_or_none : Option ImageModel → Option (List ℕ)
payload_or_none found = option_and_then (λ image. image.payload) found

-- Whether an image has a payload that is not empty, and that was not empty and outside the blob
-- before. The old images are given.
abbrev pub comes_inside_from : List ImageModel → ImageModel → Bool
comes_inside_from old image =
    is_outside (place_or_absent (model_named image.name old))
    && (is_not_empty (payload_or_none (model_named image.name old)) && is_not_empty image.payload)

-- Whether an image has a payload, and that was not empty and at a fixed position before.
abbrev pub loses_position_from : List ImageModel → ImageModel → Bool
loses_position_from old image =
    is_fixed (place_or_absent (model_named image.name old))
    && (is_not_empty (payload_or_none (model_named image.name old)) && is_some image.payload)

-- The payloads of these images that were not empty and outside the blob before. The blob of the
-- text has `base` bytes, and the payloads before these end at `end`.
abbrev pub still_placed_from : List ImageModel → (base end : ℕ) → List Image → List PlacedPayload
still_placed_from old base end [] = []
still_placed_from old base end (image ∷ later) =
    let before = model_named image.name.now old in
    payload_if_placed (place_or_absent before) (payload_or_none before)
    (option_map (λ payload. base + up_to 4 end) (image_model image).payload)
    ++ still_placed_from old base (end_after 4 end (image_model image).payload) later
