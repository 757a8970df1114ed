use Rattle.std.proofs.Common.{◌≡◌, ℕ, ◌+◌, ◌^◌, ◌≤◌, ◌<◌, List, [], ◌∷◌, length, map, sym, ap, ◌∙◌, subst, rules}
use Rattle.std.proofs.Common.{arith}
use Rattle.std.proofs.Common.{Option, Some, None}
use Rattle.std.specs.Prelude.{IfSome}
use Rattle.std.specs.List.{AllByRecursion, AllZip}
use Rattle.bi_base.specs.Cells.{up4}
use Rattle.bi_blob.specs.Tree.{FileNode}
use Rattle.bi_fit.specs.File.{IsFitFile}
use Rattle.bi_fit.specs.ImageTree.{ImageTree, each_own}
use Rattle.bi_fit.specs.Payloads.{IsAtPlace, payload_place, source_of}
use Rattle.bi_fit.proofs.FilePayloads.{payloads_are_at_places}
use Rattle.bi_legacy.specs.Meaning.{LegacyImage}
use Rattle.bi_legacy.specs.Parts.{parts_end_from, parts_start}
use Rattle.bi_legacy.specs.PlacedParts.{PartModel, placed_parts, placed_parts_from}
use Rattle.bi_legacy.specs.Text.{IsLegacyImage}
use Rattle.bi_legacy.proofs.EmitParts.{parts_end_from-grows}
use Rattle.bi_legacy.proofs.NormalLength.{length-normal_body}
use Rattle.bi_legacy.proofs.PartOffsets.{length-part_table, up4-up4, up4_of_four}

-- Each number that is written in JSON is below 2^64.

-- ---- parts of legacy images

-- The offset and the size of a part are below 2^64.
abbrev pub IsSmallPart : PartModel → Type 0
IsSmallPart part = (part.place < 2 ^ 64) × (length part.bytes < 2 ^ 64)

parts_small : (at : ℕ) (parts : List (List ℕ)) → up4 at ≡ at → parts_end_from at (map length parts) < 2 ^ 32 →
    AllByRecursion IsSmallPart (placed_parts_from at parts)
parts_small at [] aligned small = tt
parts_small at (part ∷ []) aligned small = ((omega (arith, aligned, small), omega (arith, aligned, small)), tt)
parts_small at (part ∷ next ∷ later) aligned small =
    let size : ℕ = length part in
    let grown : up4 at + size ≤ parts_end_from (up4 at + size) (map length (next ∷ later)) =
    parts_end_from-grows (up4 at + size) (map length (next ∷ later)) in
    let same : parts_end_from (up4 (at + size)) (map length (next ∷ later)) ≡ parts_end_from (up4 at + size) (map length (next ∷ later)) =
    ap (λ (n : ℕ). parts_end_from (n + length next) (map length later))
    (up4-up4 (at + size) ∙ ap (λ (n : ℕ). up4 (n + size)) (sym aligned)) in (
      (omega (arith, grown, aligned, small), omega (arith, grown, small)),
      parts_small (up4 (at + size)) (next ∷ later) (up4-up4 (at + size)) (subst (λ (n : ℕ). n < 2 ^ 32) (sym same) small),
    )

pub placed_parts_small : (image : LegacyImage) → IsLegacyImage image → AllByRecursion IsSmallPart (placed_parts image)
placed_parts_small image is = search (rules, parts_small, length-normal_body, length-part_table, up4_of_four)

sizes_of_parts : (at : ℕ) (parts : List (List ℕ)) → AllByRecursion IsSmallPart (placed_parts_from at parts) →
    AllByRecursion (λ (part : List ℕ). length part < 2 ^ 64) parts
sizes_of_parts at [] are = tt
sizes_of_parts at (part ∷ later) are = (are.0.1, sizes_of_parts (up4 (at + length part)) later are.1)

pub part_sizes_small : (image : LegacyImage) → IsLegacyImage image → AllByRecursion (λ (part : List ℕ). length part < 2 ^ 64) image.parts
part_sizes_small image is = sizes_of_parts (parts_start image.image_type image.parts) image.parts (placed_parts_small image is)

-- ---- payloads of FITs

-- A payload is not longer than the file.
abbrev pub IsShort : List ℕ → Option (List ℕ) → Type 0
IsShort file payload = IfSome payload (λ (bytes : List ℕ). length bytes ≤ length file)

pub short_at_place : (file : List ℕ) (place : Option ℕ) (payload : Option (List ℕ)) → IsAtPlace file place payload → IsShort file payload
short_at_place file place None is = tt
short_at_place file None (Some payload) is = absurd is
short_at_place file (Some place) (Some payload) is = omega (arith, is.in_file)

payloads_short : (file : List ℕ) (own : List FileNode) (payloads : List (Option (List ℕ))) →
    AllZip (λ own payload. IsAtPlace file (payload_place file (source_of own)) payload) own payloads →
    AllByRecursion (IsShort file) payloads
payloads_short file [] [] are = tt
payloads_short file [] (payload ∷ payloads) are = absurd are
payloads_short file (first ∷ later) [] are = absurd are
payloads_short file (first ∷ later) (payload ∷ payloads) are =
    (short_at_place file (payload_place file (source_of first)) payload are.0, payloads_short file later payloads are.1)

pub payloads_of_file : (file : List ℕ) (tree : ImageTree) → IsFitFile file tree → AllByRecursion (IsShort file) tree.payloads
payloads_of_file file tree is = payloads_short file (each_own is.images) tree.payloads (payloads_are_at_places file tree is)
