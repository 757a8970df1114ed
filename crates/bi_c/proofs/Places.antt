use Rattle.std.proofs.Common.{◌≡◌, ◌≤◌, ◌+◌, ℕ, zero, suc, Bool, true, false, List, [], ◌∷◌, length, map, slice_get, Option, Some}
use Rattle.std.proofs.Common.{None, Result, Ok, Err, IfOk, IfErr, IfSome, refl, sym, ap, subst, ◌∙◌, arith, if◌then◌else◌, MatchOption}
use Rattle.std.specs.Option.{option_and_then, ok_or}
use Rattle.std.specs.List.{AllByRecursion}
use Rattle.bi_base.specs.Limits.{Limits}
use Rattle.bi_base.specs.Cells.{up4}
use Rattle.bi_fit.specs.Content.{FitModel, ImageModel, IsHeld, index_of, tree_of, place_or_absent, offset_of_place}
use Rattle.bi_fit.specs.Judgement.{ListedImage, ListedImages, default_of, listed_of}
use Rattle.bi_fit.specs.Payloads.{IsAt, IsAtPlace}
use Rattle.bi_fit.specs.declared.key.Key.{Key}
use Rattle.bi_fit.proofs.Meanings.{same_in_some}
use Rattle.bi_legacy.specs.Meaning.{LegacyImage}
use Rattle.bi_legacy.specs.Parts.{parts_start, parts_end_from, part_table}
use Rattle.bi_legacy.specs.PlacedParts.{PartModel, placed_parts_from, AreAtOffsets}
use Rattle.bi_legacy.specs.Reading.{LegacyModel, IsReadLegacy, part_places}
use Rattle.bi_legacy.specs.Meaning.{has_part_table}
use Rattle.bi_legacy.proofs.EmitParts.{parts_end_from-grows}
use Rattle.bi_legacy.proofs.PartOffsets.{up4_of_four, length-part_table}
use Rattle.bi_commands.specs.declared.extract.ExtractError.TheVariants.{NoPart, NoPayload}
use Rattle.bi_commands.specs.Extracting.{Choice, HasNoPayload, IsReason, choice_of_part, choice_of_payload, choice_by_name}
use Rattle.bi_commands.proofs.Choices.{choice_at, chosen_by_name}
use Rattle.bi_c.specs.declared.region.Region.{Region}
use Rattle.bi_c.specs.Extracting.{IsChosenAt, IsNamedOffset, IsListedOffset, IsDefaultOffset}

-- The parts and payloads of an image that was read are in the file at the offsets that are returned.

-- The same of the image at an index, if there is one.
placed_at : (file : List ℕ) (images : List ImageModel) (index : ℕ) →
    AllByRecursion (λ (image : ImageModel). IsAtPlace file (offset_of_place image.place) image.payload) images
    → IsAtPlace file (offset_of_place (place_or_absent (slice_get images index)))
    (option_and_then (λ (image : ImageModel). image.payload) (slice_get images index))
placed_at file [] index placed = tt
placed_at file (image ∷ later) zero placed = placed.0
placed_at file (image ∷ later) (suc index) placed = placed_at file later index placed.1

-- The image of a name that was found has its payload there,
pub named_payload_found : (content : FitModel) (name : List ℕ) (index : ℕ) (result : Option Region) → IsHeld content →
    Some index ≡ index_of name content.images
    → MatchOption result (choice_of_payload (option_and_then (λ (image : ImageModel). image.payload) (slice_get content.images index))
    ≡ HasNoPayload)
    (λ region. IsChosenAt content.blob.file
    (choice_of_payload (option_and_then (λ (image : ImageModel). image.payload) (slice_get content.images index))) region.size
    region.offset)
    → IfOk (ok_or result NoPayload)
    (λ region. IsChosenAt content.blob.file (choice_by_name (tree_of content) name) region.size region.offset)
named_payload_found content name index None held found is = tt
named_payload_found content name index (Some region) held found is =
    subst (λ (choice : Choice). IsChosenAt content.blob.file choice region.size region.offset)
    (sym (chosen_by_name content name held ∙ ap (choice_at content.images) (sym found))) is

-- or it has none.
pub name_without_payload : (content : FitModel) (name : List ℕ) (index : ℕ) (result : Option Region) → IsHeld content →
    Some index ≡ index_of name content.images
    → MatchOption result (choice_of_payload (option_and_then (λ (image : ImageModel). image.payload) (slice_get content.images index))
    ≡ HasNoPayload)
    (λ region. IsChosenAt content.blob.file
    (choice_of_payload (option_and_then (λ (image : ImageModel). image.payload) (slice_get content.images index))) region.size
    region.offset)
    → IfErr (ok_or result NoPayload) (λ error. IsReason error (choice_by_name (tree_of content) name))
name_without_payload content name index None held found is = chosen_by_name content name held
    ∙ ap (choice_at content.images) (sym found) ∙ is
name_without_payload content name index (Some region) held found is = tt

-- Parts begin at the next multiple of four from an end, and each is in the file at its offset, so one of them is.
part_there : (file : List ℕ) (end : ℕ) (parts : List (List ℕ)) (index offset : ℕ) (bytes : List ℕ) →
    AreAtOffsets file (placed_parts_from (up4 end) parts)
    → 64 + parts_end_from end (map length parts) ≤ length file → slice_get parts index ≡ Some bytes
    → slice_get (map (λ (part : PartModel). part.place) (placed_parts_from (up4 end) parts)) index ≡ Some offset → IsAt file offset bytes
part_there file end [] index offset bytes at fits is_part is_offset = absurd cc
part_there file end (part ∷ later) zero offset bytes at fits is_part is_offset =
    subst (λ (n : ℕ). IsAt file n bytes) (same_in_some (64 + up4 end) offset is_offset)
    (subst (λ (l : List ℕ). IsAt file (64 + up4 end) l) (same_in_some part bytes is_part) (record {
      in_file = omega (arith, fits, parts_end_from-grows (up4 end + length part) (map length later));
      is_slice = at.0;
    }))
part_there file end (part ∷ later) (suc index) offset bytes at fits is_part is_offset =
    part_there file (up4 end + length part) later index offset bytes at.1 fits is_part is_offset

-- The first part begins at a multiple of four in the data.
start-aligned : (image_type : ℕ) (parts : List (List ℕ)) → up4 (parts_start image_type parts) ≡ parts_start image_type parts
start-aligned image_type parts = by (has_part_table image_type)
  where
    by : (has_table : Bool) → up4 (if has_table then length (part_table parts) else 0) ≡
        (if has_table then length (part_table parts) else 0)
    by true = rw (length-part_table parts) (up4_of_four (length parts + 1))
    by false = omega arith

-- The part of an image that was read is in the file at its offset.
pub part_in_file : (limits : Limits) (file : List ℕ) (value : LegacyModel) (index offset : ℕ) (bytes : List ℕ) →
    IsReadLegacy limits file value → slice_get value.image.parts index ≡ Some bytes
    → slice_get (part_places value.image) index ≡ Some offset → IsAt file offset bytes
part_in_file limits file value index offset bytes parsed is_part is_offset =
    let image = value.image in
    let start = parts_start image.image_type image.parts in
    let aligned = sym (start-aligned image.image_type image.parts) in
    part_there file start image.parts index offset bytes
    (subst (λ (at : ℕ). AreAtOffsets file (placed_parts_from at image.parts)) aligned parsed.at_offsets)
    (omega (arith, parsed.unused)) is_part
    (subst (λ (at : ℕ). slice_get (map (λ (part : PartModel). part.place) (placed_parts_from at image.parts)) index
    ≡ Some offset) aligned is_offset)

-- There is an offset for each part.
place_of_part : (at : ℕ) (parts : List (List ℕ)) (index : ℕ) →
    slice_get (map (λ (part : PartModel). part.place) (placed_parts_from at parts)) index ≡ None → slice_get parts index ≡ None
place_of_part at [] index is = refl
place_of_part at (part ∷ later) zero is = absurd cc
place_of_part at (part ∷ later) (suc index) is = place_of_part (up4 (at + length part)) later index is

pub no_part_at : (image : LegacyImage) (index : ℕ) → slice_get (part_places image) index ≡ None → slice_get image.parts index ≡ None
no_part_at image index is = place_of_part (parts_start image.image_type image.parts) image.parts index is

-- The part that was found is there.
pub part_found : (file : List ℕ) (parts : List (List ℕ)) (index : ℕ) (result : Option Region) →
    IfSome result (λ region. IsChosenAt file (choice_of_part (slice_get parts index)) region.size region.offset)
    → IfOk (ok_or result NoPart) (λ region. IsChosenAt file (choice_of_part (slice_get parts index)) region.size region.offset)
part_found file parts index None is = tt
part_found file parts index (Some region) is = is

-- What holds of something that is found holds of the result that it is turned to.
pub in_ok_or : {V E : Type 0} (P : V → Type 0) (found : Option V) (error : E) → IfSome found P → IfOk (ok_or found error) P
in_ok_or P None error is = tt
in_ok_or P (Some value) error is = is

-- The offset of what is found at an index is that of the image of the name.
pub named_offset : (content : FitModel) (name : List ℕ) (index : ℕ) (found : Option Region) → Some index ≡ index_of name content.images
    → IfSome found (λ region. offset_of_place (place_or_absent (slice_get content.images index)) ≡ Some region.offset)
    → IfSome found (λ region. IsNamedOffset content name region.offset)
named_offset content name index None is_named is = tt
named_offset content name index (Some region) is_named is = record { index = index; is_named = sym is_named; is_offset = is }

-- The offset of the image that an entry of a list names is that of the entry.
pub listed_offset : {E : Type 0} (content : FitModel) (configuration : List ℕ) (key : Key) (index : ℕ) (listed : List ListedImage)
    (entry : ListedImage) (result : Result Region E) →
    listed_of (tree_of content) configuration key ≡ ListedImages listed → slice_get listed index ≡ Some entry
    → IfOk result (λ region. IsNamedOffset content entry.name region.offset)
    → IfOk result (λ region. IsListedOffset content configuration key index region.offset)
listed_offset content configuration key index listed entry (Ok region) is_listed is_entry is =
    record { listed = listed; is_listed = is_listed; entry = entry; is_entry = is_entry; is_offset = is }
listed_offset content configuration key index listed entry (Err error) is_listed is_entry is = tt

-- The offset of an entry of the configuration that is the default is that of the default's entry.
pub default_offset : {E : Type 0} (content : FitModel) (configuration : List ℕ) (key : Key) (index : ℕ) (result : Result Region E) →
    default_of (tree_of content) ≡ Some configuration
    → IfOk result (λ region. IsListedOffset content configuration key index region.offset)
    → IfOk result (λ region. IsDefaultOffset content key index region.offset)
default_offset content configuration key index (Ok region) is_default is =
    record { configuration = configuration; is_default = is_default; is_offset = is }
default_offset content configuration key index (Err error) is_default is = tt

-- The offset of a part of an image that was read is that of the part in the file.
pub part_offset : (limits : Limits) (file : List ℕ) (image : LegacyModel) (index : ℕ) (found : Option Region) →
    IsReadLegacy limits file image
    → IfSome found (λ region. slice_get (part_places image.image) index ≡ Some region.offset)
    → IfSome found (λ region. (read : LegacyModel) × IsReadLegacy limits file read
    × (slice_get (part_places read.image) index ≡ Some region.offset))
part_offset limits file image index None read is = tt
part_offset limits file image index (Some region) read is = (image, read, is)
