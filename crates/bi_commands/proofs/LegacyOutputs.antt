use Rattle.std.proofs.Common.{◌≡◌, ◌≢◌, ◌^◌, ◌<◌, ◌≤◌, ℕ, List, [], Result, Ok, Err, IfErr, length, refl, subst, sym, inl, inr, rules}
use Rattle.std.specs.List.{AllByRecursion}
use Rattle.bi_base.specs.Cells.{AreBytes}
use Rattle.bi_base.specs.Limits.{Limits}
use Rattle.bi_base.specs.declared.fault.Error.{Error}
use Rattle.bi_base.specs.declared.fault.Error.TheVariants.{Refused, OutOfMemory, ReadFailed, WriteFailed}
use Rattle.bi_legacy.specs.declared.fields.Fields.{Fields}
use Rattle.bi_legacy.specs.Emitting.{WroteImage, HasNoEmitFault}
use Rattle.bi_legacy.specs.Meaning.{FitsFields, image_of}
use Rattle.bi_legacy.specs.Text.{legacy_text}
use Rattle.bi_legacy.proofs.NoEmitFault.{no_emit_fault_image}
use Rattle.bi_legacy.proofs.TextMeans.{legacy_text_means}
use Rattle.bi_norm.specs.Cutting.{IsCutError}
use Rattle.bi_base.specs.Commands.{Appended, AppendFailed, WasRefused, SinkFailed}
use Rattle.bi_commands.specs.BuildCommands.{ArePartsOf, IsPartsError, IsLegacyOutput, IsLegacyOutputError, NotFilled, NotBuilt}
use Rattle.bi_commands.specs.Parts.{lengths_of}
use Rattle.bi_commands.specs.declared.parts.Part.{Part}

-- A legacy image that was written of parts and an input is the output, and an error of cutting the input or of writing the image is one of
-- the output.

-- An error of cutting an input is one of getting the contents of the parts.
pub cut_is_split_error : {V : Type 0} (input : List ℕ) (parts : List Part) (result : Result V Error) → parts ≢ []
    → IfErr result (IsCutError input (lengths_of parts)) → IfErr result (IsPartsError parts input)
cut_is_split_error input parts (Ok value) has is = tt
cut_is_split_error input parts (Err (Refused fault)) has is = record { has_parts = has; is_cut_fault = is }
cut_is_split_error input parts (Err OutOfMemory) has is = λ some. is
cut_is_split_error input parts (Err ReadFailed) has is = is
cut_is_split_error input parts (Err WriteFailed) has is = is

-- Parts with their contents, an input within the limits, and fields to build a legacy image from them.
pub record Building (limits : Limits) (fields : Fields) (parts : List Part) (input : List ℕ) (contents : List (List ℕ)) : Type 0 where
  pub are_parts : ArePartsOf parts input contents
  pub are_bytes : AllByRecursion AreBytes contents
  pub name_bytes : AreBytes fields.name.now
  pub ranges : FitsFields (image_of fields contents)
  pub short : length input ≤ limits.file
  pub small : limits.file < 2 ^ 32

-- The text of an image without a fault is the output.
is_output : (limits : Limits) (fields : Fields) (parts : List Part) (input : List ℕ) (contents : List (List ℕ)) →
    Building limits fields parts input contents → HasNoEmitFault limits (image_of fields contents) →
    IsLegacyOutput limits fields parts input (legacy_text (image_of fields contents))
is_output limits fields parts input contents building none = search (rules, legacy_text_means, no_emit_fault_image)

-- An image that was written is the output.
pub legacy_output_emitted : {S : Type 0} (appends : S → List ℕ → S → Type 0) (fails : S → List ℕ → S → Error → Type 0) (limits : Limits)
    (fields : Fields) (parts : List Part) (input : List ℕ) (contents : List (List ℕ)) (old new : S) →
    Building limits fields parts input contents → WroteImage appends fails limits (image_of fields contents) old (Ok tt) new →
    Appended appends (IsLegacyOutput limits fields parts input) old new
legacy_output_emitted appends fails limits fields parts input contents old new building wrote = elim wrote.refused_or_written [
  | inl none ↦ record {
    text = legacy_text (image_of fields contents);
    is_text = is_output limits fields parts input contents building none;
    appended = wrote.written none;
  }
  | inr some ↦ absurd (let e = (wrote.refused some.0 some.1).0 in cc)
]

-- An image that was not written was refused, or the sink failed.
pub not_emitted : {S : Type 0} (appends : S → List ℕ → S → Type 0) (fails : S → List ℕ → S → Error → Type 0) (limits : Limits)
    (fields : Fields) (parts : List Part) (input : List ℕ) (contents : List (List ℕ)) (old new : S) (error : Error) →
    Building limits fields parts input contents → WroteImage appends fails limits (image_of fields contents) old (Err error) new →
    AppendFailed fails (IsLegacyOutput limits fields parts input) (IsLegacyOutputError limits fields parts input) old new error
not_emitted appends fails limits fields parts input contents old new error building wrote = elim wrote.refused_or_written [
  | inl none ↦ SinkFailed (legacy_text (image_of fields contents)) error
      (is_output limits fields parts input contents building none) (wrote.written none) refl
  | inr some ↦
      let refused = wrote.refused some.0 some.1 in
      let e = refused.0 in
      let same : error ≡ Refused some.0 = cc in
      WasRefused (subst (IsLegacyOutputError limits fields parts input) (sym same)
      (NotBuilt building.short contents building.are_parts some.1)) refused.1
]

-- An error of getting the contents of the parts is one of building.
pub parts_error : (limits : Limits) (fields : Fields) (parts : List Part) (input : List ℕ) (error : Error) → length input ≤ limits.file →
    IsPartsError parts input error → IsLegacyOutputError limits fields parts input error
parts_error limits fields parts input (Refused fault) short is = NotFilled short is
parts_error limits fields parts input OutOfMemory short is = is
parts_error limits fields parts input ReadFailed short is = is
parts_error limits fields parts input WriteFailed short is = is
