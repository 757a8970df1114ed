use Rattle.std.specs.Prelude.{ℕ, ◌+◌, ◌*◌, ◌≤◌, ◌≡◌, ⊤, List, [], ◌∷◌, length, map, MatchBool}
use Rattle.std.specs.Prelude.{◌⊎◌, Result, Err, if◌then◌else◌}
use Rattle.std.specs.Borrow.{Bor}
use Rattle.bi_base.specs.declared.fault.Fault.{Fault}
use Rattle.bi_base.specs.declared.fault.Error.{Error}
use Rattle.bi_base.specs.declared.fault.Error.TheVariants.{Refused}
use Rattle.bi_base.specs.Sinks.{Wrote}
use Rattle.bi_base.specs.declared.fault.Cause.TheVariants.{TooLarge, EmptyPart, BadField}
use Rattle.bi_base.specs.Limits.{Limits}
use Rattle.bi_base.specs.Slices.{bytes_of}
use Rattle.bi_base.specs.Checks.{IsFirstFault, HasNoFault}
use Rattle.bi_legacy.specs.declared.fields.Fields.{Fields}
use Rattle.bi_legacy.specs.Meaning.{LegacyImage, image_of, IsImageName, IsTablePart, has_part_table}
use Rattle.bi_legacy.specs.Text.{legacy_text}

-- The checks of an image that is to be written (profile of this project).

-- The image of these header fields and these parts.
abbrev pub image_of_parts : Fields → List (Bor (List ℕ)) → LegacyImage
image_of_parts fields parts = image_of fields (bytes_of parts)

-- The check of a part of a multi-file image or script, which is part `index`.
pub record EmitPartCheck : Type 0 where
  pub index : ℕ
  pub part : List ℕ

-- When the check of a part passes.
abbrev pub EmitPartPasses : EmitPartCheck → Type 0
EmitPartPasses check = IsTablePart check.part

-- The fault of a part that fails its check, at the offset of the size of the part.
abbrev pub emit_part_fault : EmitPartCheck → Fault
emit_part_fault check = record { cause = EmptyPart; offset = 64 + 4 * check.index }

-- The checks of an image to be written.
pub data EmitCheck : Type 0 where
  HasImageName : EmitCheck
  HasPartCount : EmitCheck
  FitsLimit : EmitCheck
  IsNotEmpty : EmitPartCheck → EmitCheck

-- When each check passes.
abbrev pub EmitPasses : Limits → LegacyImage → EmitCheck → Type 0
EmitPasses limits image HasImageName = IsImageName image.name
EmitPasses limits image HasPartCount =
    MatchBool (has_part_table image.image_type) ⊤ (length image.parts ≡ 1)
EmitPasses limits image FitsLimit = length (legacy_text image) ≤ limits.file
EmitPasses limits image (IsNotEmpty check) = EmitPartPasses check

-- The fault of an image that fails a check, at the offset of the field in the image to be written,
-- or at the limit.
abbrev pub emit_fault : Limits → EmitCheck → Fault
emit_fault limits HasImageName = record { cause = BadField; offset = 32 }
emit_fault limits HasPartCount = record { cause = BadField; offset = 30 }
emit_fault limits FitsLimit = record { cause = TooLarge; offset = limits.file }
emit_fault limits (IsNotEmpty check) = emit_part_fault check

-- A check of each of these parts. The first of them is part `index`.
abbrev pub emit_part_checks : ℕ → List (List ℕ) → List EmitPartCheck
emit_part_checks index [] = []
emit_part_checks index (part ∷ parts) =
    record { index = index; part = part } ∷ emit_part_checks (index + 1) parts

-- All checks of an image to be written, in their order.
abbrev pub emit_checks : LegacyImage → List EmitCheck
emit_checks image =
    HasImageName ∷ HasPartCount ∷ FitsLimit
    ∷ map IsNotEmpty
    (if has_part_table image.image_type then emit_part_checks 0 image.parts else [])

-- The fault of an image: that of its first failing check.
abbrev pub IsEmitFault : Limits → LegacyImage → Fault → Type 0
IsEmitFault limits image fault =
    IsFirstFault (EmitPasses limits image) (emit_fault limits) (emit_checks image) fault

-- The image fails no check.
abbrev pub HasNoEmitFault : Limits → LegacyImage → Type 0
HasNoEmitFault limits image = HasNoFault (EmitPasses limits image) (emit_checks image)

-- What a call that writes this image to a sink did. It fails with the fault of the image and leaves
-- the sink unchanged, or it writes the normal text as a call to the sink does. The image has a
-- fault or none.
pub record WroteImage {S : Type 0} (appends : S → List ℕ → S → Type 0)
    (fails : S → List ℕ → S → Error → Type 0) (limits : Limits) (image : LegacyImage)
    (old : S) (result : Result (Unit {0}) Error) (new : S) : Type 0 where
  pub refused : (fault : Fault) → IsEmitFault limits image fault →
      (result ≡ Err (Refused fault)) × (new ≡ old)
  pub written : HasNoEmitFault limits image →
      Wrote appends fails old (legacy_text image) result new
  pub refused_or_written : HasNoEmitFault limits image
      ⊎ ((fault : Fault) × IsEmitFault limits image fault)
