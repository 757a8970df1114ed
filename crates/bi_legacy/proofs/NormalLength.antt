use Rattle.std.proofs.Common.{◌≡◌, ℕ, ◌+◌, ◌≤◌, Bool, true, false, List, ◌++◌, [], ◌∷◌, length, map, arith, sym, ap, rules}
use Rattle.std.proofs.Common.{◌∙◌, MatchBool, if◌then◌else◌}
use Rattle.std.proofs.lemmas.List.{length-append, length-replicate}
use Rattle.bi_base.specs.Cells.{up4}
use Rattle.bi_legacy.specs.Meaning.{LegacyImage, IsImageName, has_part_table}
use Rattle.bi_legacy.specs.Parts.{part_table, HasPartTable, HoldsParts, parts_end_from, parts_end}
use Rattle.bi_legacy.specs.Text.{with_zeros, joined_parts, normal_body, name_field, legacy_text}
use Rattle.bi_legacy.proofs.HeaderReads.{length-header}
use Rattle.bi_legacy.proofs.TableParts.{part_table-aligned, table_parts_at}
use Rattle.bi_legacy.proofs.PartOffsets.{ArePartsAt, up4-up4}

-- The normal data ends where the last part ends, and the normal text is the 64 bytes of the header longer.

-- A padded part ends at the next multiple of four.
pub length-padded : (part : List ℕ) → length (with_zeros part) ≡ up4 (length part)
length-padded part = search (rules, length-append, length-replicate)

-- Parts after an end are also those after its next multiple of four.
parts_end_from-up4 : (end size : ℕ) (sizes : List ℕ) → parts_end_from (up4 end) (size ∷ sizes) ≡ parts_end_from end (size ∷ sizes)
parts_end_from-up4 end size sizes = ap (λ at. parts_end_from (at + size) sizes) (up4-up4 end)

-- Joined parts end where the last part ends.
pub length-joined_parts : (at : ℕ) (parts : List (List ℕ)) → up4 at ≡ at →
    at + length (joined_parts parts) ≡ parts_end_from at (map length parts)
length-joined_parts at [] aligned = omega arith
length-joined_parts at (part ∷ []) aligned = omega (arith, aligned)
length-joined_parts at (part ∷ next ∷ later) aligned =
    let rest = joined_parts (next ∷ later) in
    let next_at : up4 (at + length part) ≡ at + up4 (length part) = omega (arith, aligned) in
    let sum : at + length (with_zeros part ++ rest) ≡ up4 (at + length part) + length rest = omega (
      arith,
      length-append (with_zeros part) rest,
      length-padded part,
      next_at,
    ) in
    sum ∙ length-joined_parts (up4 (at + length part)) (next ∷ later) (up4-up4 (at + length part))
    ∙ parts_end_from-up4 (at + length part) (length next) (map length later)
    ∙ ap (λ n. parts_end_from (n + length part) (map length (next ∷ later))) (sym aligned)

-- The normal data of some parts, with or without a part table, ends where the last part ends.
normal_end : (has_table : Bool) (parts : List (List ℕ)) →
    length (if has_table then part_table parts ++ joined_parts parts else joined_parts parts)
    ≡ parts_end_from (if has_table then length (part_table parts) else 0) (map length parts)
normal_end true parts =
    length-append (part_table parts) (joined_parts parts) ∙ length-joined_parts (length (part_table parts)) parts (part_table-aligned parts)
normal_end false parts = omega (arith, length-joined_parts 0 parts (omega arith))

-- The normal data ends where the last part ends, even where an image cannot have such parts.
pub length-normal_body : (image_type : ℕ) (parts : List (List ℕ)) → length (normal_body image_type parts) ≡ parts_end image_type parts
length-normal_body image_type parts = normal_end (has_part_table image_type) parts

-- Parts in data, the first at the next multiple of four from an end within the data, end within it.
end_within : (end : ℕ) (parts : List (List ℕ)) (body : List ℕ) → end ≤ length body → ArePartsAt (up4 end) parts body →
    parts_end_from end (map length parts) ≤ length body
end_within end [] body starts at_offsets = starts
end_within end (part ∷ later) body starts at_offsets = end_within (up4 end + length part) later body at_offsets.0 at_offsets.2

-- The last part ends within the data, with or without a part table, that holds the parts.
body_parts_end : (has_table : Bool) (parts : List (List ℕ)) (body : List ℕ) →
    MatchBool has_table (HasPartTable parts body) (parts ≡ body ∷ []) →
    parts_end_from (if has_table then length (part_table parts) else 0) (map length parts) ≤ length body
body_parts_end true parts body holds = search (rules, end_within, length-append, part_table-aligned, table_parts_at)
body_parts_end false parts body holds = rw holds (omega arith)

-- The last part ends within the data that holds the parts.
pub parts_end_in : (image_type : ℕ) (parts : List (List ℕ)) (body : List ℕ) → HoldsParts image_type body parts →
    parts_end image_type parts ≤ length body
parts_end_in image_type parts body holds = body_parts_end (has_part_table image_type) parts body holds

-- The name's field has 32 bytes.
pub length-name_field : (name : List ℕ) → length name ≤ 32 → length (name_field name) ≡ 32
length-name_field name short = search (rules, length-append, length-replicate)

-- The length of the normal text, by the end of the last part.
pub length-legacy_text : (image : LegacyImage) → IsImageName image.name →
    length (legacy_text image) ≡ 64 + parts_end image.image_type image.parts
unfolding legacy_text
length-legacy_text image name = search (rules, length-append, length-header, length-name_field, length-normal_body)
