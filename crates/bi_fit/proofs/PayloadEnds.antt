use Rattle.std.proofs.Common.{◌≡◌, ℕ, ◌+◌, ◌<◌, ◌≤◌, List, [], ◌∷◌, ◌++◌, drop, get_or, length, add-one, rules}
use Rattle.std.proofs.Common.{Option, Some, None, refl, append-nil, append_assoc}
use Rattle.std.proofs.Math.Seq.{drop-cons}
use Rattle.bi_fit.specs.declared.image.Image.{Image}
use Rattle.bi_fit.specs.declared.image.Place.TheVariants.{Absent}
use Rattle.bi_fit.specs.Text.{payload_area, payloads_end, end_after}
use Rattle.bi_fit.specs.Content.{image_model}
use Rattle.bi_fit.specs.NormalNodes.{payloads_of}
use Rattle.bi_fit.proofs.PayloadAreas.{payloads_end-le}

-- The payloads from an image on are its payload and those after it, and they end no earlier than its payload.

-- What a list of images gives past its end.
abbrev pub no_image : Image
no_image = record { name = record { ref_ptr = (0, 0); now = [] }; payload = None; place = Absent }

module _ (images : List Image) (index : ℕ) (within : index < length images) where
  -- The payloads from an image on are its payload and those after it.
  pub payloads_from : payloads_of (drop index images)
      ≡ (image_model (get_or images index no_image)).payload ∷ payloads_of (drop (index + 1) images)
  payloads_from = search (rules, add-one, drop-cons)

  -- Where they end is not before the end of this payload.
  pub one_end-le : (align end : ℕ) → 0 < align → end_after align end (image_model (get_or images index no_image)).payload
      ≤ payloads_end align end (payloads_of (drop index images))
  one_end-le align end positive = search (rules, payloads_from, payloads_end-le)

-- Payloads are the first of them, and then the others.
pub area_from : (align end : ℕ) (payload : Option (List ℕ)) (later : List (Option (List ℕ))) →
    payload_area align end (payload ∷ later)
    ≡ payload_area align end (payload ∷ []) ++ payload_area align (end_after align end payload) later
area_from align end None later = refl
area_from align end (Some payload) later = search (rules, append_assoc, append-nil)
