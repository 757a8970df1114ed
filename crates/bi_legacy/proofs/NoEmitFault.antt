use Rattle.std.proofs.Common.{◌≡◌, ℕ, ◌+◌, ◌<◌, ◌≤◌, ◌^◌, Bool, true, false, List, [], ◌∷◌, length, arith, MatchBool, if◌then◌else◌}
use Rattle.std.specs.Prelude.{⊤}
use Rattle.std.specs.List.{AllByRecursion}
use Rattle.bi_base.specs.Cells.{AreBytes}
use Rattle.bi_base.specs.Checks.{HasNoFault}
use Rattle.bi_base.specs.Limits.{Limits}
use Rattle.bi_legacy.specs.Emitting.{EmitPartPasses, EmitPasses, IsNotEmpty, emit_part_checks, HasNoEmitFault}
use Rattle.bi_legacy.specs.File.{IsLegacyFile}
use Rattle.bi_legacy.specs.Meaning.{LegacyImage, FitsFields, IsTablePart, AreParts, has_part_table}
use Rattle.bi_legacy.specs.Text.{IsLegacyImage, legacy_text}
use Rattle.bi_legacy.proofs.CheckLists.{HasNoFault-map, HasNoFault-unmap}
use Rattle.bi_legacy.proofs.ImageOfFile.{image_of_file, text_no_longer}
use Rattle.bi_legacy.proofs.NormalLength.{length-legacy_text, length-normal_body}

-- An image can be written where it fits the format and its text is within the limit.

-- The check of each part passes where each is one that a part table can have.
parts_pass : (index : ℕ) (parts : List (List ℕ)) → AllByRecursion IsTablePart parts →
    HasNoFault EmitPartPasses (emit_part_checks index parts)
parts_pass index [] are = tt
parts_pass index (part ∷ parts) are = (are.0, parts_pass (index + 1) parts are.1)

-- Each part is one that a part table can have where the check of each passes.
parts_passed : (index : ℕ) (parts : List (List ℕ)) → HasNoFault EmitPartPasses (emit_part_checks index parts) →
    AllByRecursion IsTablePart parts
parts_passed index [] none = tt
parts_passed index (part ∷ parts) none = (none.0, parts_passed (index + 1) parts none.1)

-- The checks of the parts' number and of each part pass where the parts are ones that such an image can have.
kind_passes : (has_table : Bool) (parts : List (List ℕ)) → MatchBool has_table (AllByRecursion IsTablePart parts) (length parts ≡ 1) →
    MatchBool has_table ⊤ (length parts ≡ 1) × HasNoFault EmitPartPasses (if has_table then emit_part_checks 0 parts else [])
kind_passes true parts are = (tt, parts_pass 0 parts are)
kind_passes false parts are = (are, tt)

-- The parts are ones that such an image can have where the checks of their number and of each pass.
kind_passed : (has_table : Bool) (parts : List (List ℕ)) → MatchBool has_table ⊤ (length parts ≡ 1) →
    HasNoFault EmitPartPasses (if has_table then emit_part_checks 0 parts else []) →
    MatchBool has_table (AllByRecursion IsTablePart parts) (length parts ≡ 1)
kind_passed true parts count pass = parts_passed 0 parts pass
kind_passed false parts count pass = count

-- An image that fits the format, with a text within the limit, has no fault.
pub image_no_emit_fault : (image : LegacyImage) (limits : Limits) → IsLegacyImage image → length (legacy_text image) ≤ limits.file →
    HasNoEmitFault limits image
image_no_emit_fault image limits is short =
    let kind = kind_passes (has_part_table image.image_type) image.parts is.parts in
    (is.name, (kind.0, (short, HasNoFault-map (EmitPasses limits image) IsNotEmpty _ kind.1)))

-- An image that a file within the limit means has no fault.
pub no_emit_fault : (file : List ℕ) (image : LegacyImage) (limits : Limits) → IsLegacyFile file image → length file ≤ limits.file →
    HasNoEmitFault limits image
no_emit_fault file image limits is short =
    image_no_emit_fault image limits (image_of_file file image is) (omega (arith, text_no_longer file image is))

-- An image without a fault fits the format, if its numbers fit their fields and its bytes are bytes.
pub no_emit_fault_image : (image : LegacyImage) (limits : Limits) → FitsFields image → AreBytes image.name →
    AllByRecursion AreBytes image.parts → limits.file < 2 ^ 32 → HasNoEmitFault limits image → IsLegacyImage image
no_emit_fault_image image limits ranges name_bytes parts_bytes fits (name, (count, (short, parts))) =
    let are : AreParts image.image_type image.parts = kind_passed (has_part_table image.image_type) image.parts count
    (HasNoFault-unmap (EmitPasses limits image) IsNotEmpty _ parts) in
    record {
      ranges = ranges;
      name = name;
      name_bytes = name_bytes;
      parts = are;
      parts_bytes = parts_bytes;
      size = omega (arith, length-legacy_text image name, length-normal_body image.image_type image.parts);
    }
