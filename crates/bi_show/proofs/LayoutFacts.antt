use Rattle.std.proofs.Common.{◌≡◌, ℕ, ◌+◌, ◌*◌, ◌-◌, ◌≤◌, ◌<◌, zero, suc, true, List, [], ◌∷◌, Some, None, drop, get_or, length, map}
use Rattle.std.proofs.Common.{refl, sym, ap, ◌∙◌, arith}
use Rattle.std.specs.List.{slice_get}
use Rattle.std.proofs.lemmas.List.{get_or_past, length-append, length-drop, length-take}
use Rattle.bi_blob.specs.Blob.{IsBlob, Reservation, off_mem_rsvmap, reservation_block, totalsize}
use Rattle.bi_blob.specs.Tree.{FileNode, Root}
use Rattle.bi_blob.proofs.Blobs.ReservationFaults.{length-reservation_block}
use Rattle.bi_fit.specs.Content.{image_model}
use Rattle.bi_fit.specs.declared.image.Image.{Image}
use Rattle.bi_legacy.specs.Meaning.{LegacyImage, has_part_table}
use Rattle.bi_legacy.specs.Parts.{part_table, parts_start}
use Rattle.bi_legacy.specs.Reading.{part_places}
use Rattle.bi_legacy.proofs.PartOffsets.{length-part_table}
use Rattle.bi_show.specs.ReadPages.{read_image_names}

-- These lemmas say where blocks, parts and payloads are.

-- The whole memory reservation block is in the file.
pub reservations_in_file : (file : List ℕ) (cpu : ℕ) (reservations : List Reservation) (root : Root FileNode) →
    IsBlob file cpu reservations root → 16 * (length reservations + 1) ≤ length file
reservations_in_file file cpu reservations root is =
    let at = off_mem_rsvmap file in
    let size = totalsize file - at in
    let whole = ap length is.reserved.is_at in
    let parts = length-append (reservation_block reservations) is.reserved.trailing in
    let block = length-reservation_block reservations in
    let taken = length-take size (drop at file) in
    let dropped = length-drop at file in
    omega (arith, whole, parts, block, taken, dropped)

pub size_of_reservations : (reservations : List Reservation) → 16 * (length reservations + 1) ≡ length (reservation_block reservations)
size_of_reservations reservations = omega (arith, length-reservation_block reservations)

-- The part table ends where the first part begins.
first_part : (image_type : ℕ) (part : List ℕ) (later : List (List ℕ)) → has_part_table image_type ≡ true →
    64 + parts_start image_type (part ∷ later) ≡ 64 + length (part_table (part ∷ later))
first_part image_type part later has = rw has refl

pub table_before_part : (image : LegacyImage) (place : ℕ) → has_part_table image.image_type ≡ true →
    Some place ≡ slice_get (part_places image) 0 → place ≡ 64 + length (part_table image.parts)
table_before_part image place has is = by image.parts is where
  by : (parts : List (List ℕ)) → Some place ≡ slice_get (part_places (record image { parts = parts })) 0 →
      place ≡ 64 + length (part_table parts)
  by [] found = absurd cc
  by (part ∷ later) found =
      let same : place ≡ 64 + parts_start image.image_type (part ∷ later) = cc in
      same ∙ first_part image.image_type part later has

-- If there is no part table, it ends after one cell.
pub table_without_parts : (image : LegacyImage) → None ≡ slice_get (part_places image) 0 → 68 ≡ 64 + length (part_table image.parts)
table_without_parts image none = by image.parts none where
  by : (parts : List (List ℕ)) → None ≡ slice_get (part_places (record image { parts = parts })) 0 → 68 ≡ 64 + length (part_table parts)
  by [] found = omega (arith, length-part_table [])
  by (part ∷ later) found = absurd cc

-- The name at an index is that of the image there.
pub name_of_image : (images : List Image) (index : ℕ) (image : Image) → index < length images → image ≡ get_or images index image →
    image.name.now ≡ get_or (read_image_names (map image_model images)) index []
name_of_image images index image within is = by images index within is where
  by : (images : List Image) (index : ℕ) → index < length images → image ≡ get_or images index image →
      image.name.now ≡ get_or (read_image_names (map image_model images)) index []
  by [] index within is = absurd (omega arith)
  by (first ∷ later) zero within is = ap (λ (i : Image). i.name.now) is
  by (first ∷ later) (suc index) within is = by later index (omega arith) is

-- If there is no image at an index, there is no name.
pub no_name_of_image : (images : List Image) (index : ℕ) → length images ≤ index →
    [] ≡ get_or (read_image_names (map image_model images)) index []
no_name_of_image images index past =
    sym (get_or_past (read_image_names (map image_model images)) index [] (omega (arith, named images))) where
      named : (images : List Image) → length (read_image_names (map image_model images)) ≡ length images
      named [] = refl
      named (image ∷ later) = ap suc (named later)
