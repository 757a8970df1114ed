use Rattle.std.specs.Prelude.{List, [], ◌∷◌, map, Option, Some, None}
use Rattle.bi_fit.specs.declared.image.Image.{Image}
use Rattle.bi_fit.specs.Kept.{PlacedPayload, placed_payloads}
use Rattle.bi_fit.specs.NormalNodes.{payloads_of}
use Rattle.bi_edit.specs.declared.outside_payloads.OutsidePayload.{OutsidePayload}

-- Payloads outside the blob, as the code has them.

-- One of them, as the definitions see it.
abbrev pub placed_payload : OutsidePayload → PlacedPayload
placed_payload placed = record {
  old_offset = placed.old_offset;
  new_offset = placed.new_offset;
  has_position = placed.has_position;
}

-- All of them.
abbrev pub placed_list : List OutsidePayload → List PlacedPayload
placed_list placed = map placed_payload placed

-- One as a list, if there is one.
abbrev pub placed_or_none : Option OutsidePayload → List PlacedPayload
placed_or_none None = []
placed_or_none (Some placed) = placed_payload placed ∷ []

-- Those of images that were read. Where a text has them plays no part.
abbrev pub placed_of_images : List Image → List PlacedPayload
placed_of_images images =
    placed_payloads (map (λ image. image.place) images) (payloads_of images)
    (map (λ payload. Some 0) (payloads_of images))
