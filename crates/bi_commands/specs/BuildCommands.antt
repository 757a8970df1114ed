use Rattle.std.specs.Prelude.{ℕ, ◌≡◌, ◌≢◌, ◌≤◌, List, [], ◌∷◌, Option, length, map}
use Rattle.std.specs.List.{sum}
use Rattle.bi_base.specs.Errors.{FailsWith}
use Rattle.bi_base.specs.declared.fault.Error.{Error}
use Rattle.bi_base.specs.declared.fault.Fault.{Fault}
use Rattle.bi_base.specs.Commands.{CommandPromise, PromiseLaws}
use Rattle.bi_base.specs.Commands.{unit_promise, unit_laws}
use Rattle.bi_base.specs.Limits.{Limits}
use Rattle.bi_fit.specs.declared.form.Form.{Form}
use Rattle.bi_legacy.specs.declared.fields.Fields.{Fields}
use Rattle.bi_legacy.specs.Emitting.{IsEmitFault}
use Rattle.bi_legacy.specs.Meaning.{image_of}
use Rattle.bi_fit.specs.declared.building.Head.{Head}
use Rattle.bi_norm.specs.declared.fit_building.ImageSpec.{ImageSpec}
use Rattle.bi_norm.specs.FitBuilding.{PlanSpecModel, IsBuiltAs, IsBuildFaultAs}
use Rattle.bi_norm.specs.Converting.{IsConvertedFile, IsConvertError}
use Rattle.bi_norm.specs.Cutting.{IsCutFault}
use Rattle.bi_norm.specs.LegacyBuilding.{IsBuiltLegacy}
use Rattle.bi_commands.specs.Parts.{IsFilled, lengths_of}
use Rattle.bi_commands.specs.declared.parts.Part.{Part}

-- Building an image of parts or payloads, which are given or are in an input, one after another
-- (profile of this project).

-- The contents of the parts of a legacy image: without parts the whole input is the only one.
pub data ArePartsOf (parts : List Part) (input : List ℕ) (contents : List (List ℕ)) : Type 0 where
  IsWhole : parts ≡ [] → contents ≡ input ∷ [] → ArePartsOf parts input contents
  AreFilled : parts ≢ [] → IsFilled parts input contents → ArePartsOf parts input contents

-- The fault of an input that is not cut into these parts. Without parts there is none.
pub record IsPartsFault (parts : List Part) (input : List ℕ) (fault : Fault) : Type 0 where
  pub has_parts : parts ≢ []
  pub is_cut_fault : IsCutFault input (lengths_of parts) fault

-- The input can be cut into these parts: there are none, or their lengths are together its length.
abbrev pub CanBeFilled : List Part → List ℕ → Type 0
CanBeFilled parts input = parts ≢ [] → sum (lengths_of parts) ≡ length input

-- The error that getting the contents of the parts can have. Memory is needed only for an input
-- that can be cut.
abbrev pub IsPartsError : List Part → List ℕ → Error → Type 0
IsPartsError parts input = FailsWith (IsPartsFault parts input) (CanBeFilled parts input)

-- The output is a legacy image of these fields and parts.
pub record IsLegacyOutput (limits : Limits) (fields : Fields) (parts : List Part)
    (input output : List ℕ) : Type 0 where
  pub contents : List (List ℕ)
  pub are_parts : ArePartsOf parts input contents
  pub built : IsBuiltLegacy limits (image_of fields contents) output

-- The fault of a legacy image to be built, with an input within the limit, in the order of the
-- checks.
pub data IsLegacyOutputFault (limits : Limits) (fields : Fields) (parts : List Part)
    (input : List ℕ) (fault : Fault) : Type 0 where
  NotFilled : length input ≤ limits.file → IsPartsFault parts input fault
      → IsLegacyOutputFault limits fields parts input fault
  NotBuilt : length input ≤ limits.file → (contents : List (List ℕ))
      → ArePartsOf parts input contents → IsEmitFault limits (image_of fields contents) fault
      → IsLegacyOutputFault limits fields parts input fault

-- The error that building a legacy image with an input in memory can have, except those of a sink.
-- Memory is needed only for an input that can be cut.
abbrev pub IsLegacyOutputError : Limits → Fields → List Part → List ℕ → Error → Type 0
IsLegacyOutputError limits fields parts input =
    FailsWith (IsLegacyOutputFault limits fields parts input) (CanBeFilled parts input)

-- What an image to be built has beside its payload.
pub record ImageFields : Type 0 where
  pub name : List ℕ
  pub image_type : ℕ
  pub arch : ℕ
  pub os : ℕ
  pub compression : ℕ
  pub load : Option ℕ
  pub entry : Option ℕ

abbrev pub image_fields : ImageSpec → ImageFields
image_fields image = record {
  name = image.name.now;
  image_type = image.image_type;
  arch = image.arch;
  os = image.os;
  compression = image.compression;
  load = image.load;
  entry = image.entry;
}

-- The images are the given ones but for their payloads, which are these, in their order.
pub record HavePayloads (given : List ImageSpec) (payloads : List (List ℕ))
    (images : List ImageSpec) : Type 0 where
  pub same_fields : map image_fields images ≡ map image_fields given
  pub have_payloads : map (λ image. image.payload.now) images ≡ payloads

-- The output is a flattened image tree of the given images with these payloads, and of this plan.
pub record IsFitOutput (limits : Limits) (form : Form) (head : Head) (plan : PlanSpecModel)
    (given : List ImageSpec) (payloads : List Part) (input output : List ℕ) : Type 0 where
  pub contents : List (List ℕ)
  pub filled : IsFilled payloads input contents
  pub images : List ImageSpec
  pub have : HavePayloads given contents images
  pub built : IsBuiltAs limits form head plan images output

-- The fault of a flattened image tree to be built, with an input within the limit, in the order of
-- the checks.
pub data IsFitOutputFault (limits : Limits) (form : Form) (head : Head) (plan : PlanSpecModel)
    (given : List ImageSpec) (payloads : List Part) (input : List ℕ) (fault : Fault) : Type 0 where
  NotCut : length input ≤ limits.file → IsCutFault input (lengths_of payloads) fault
      → IsFitOutputFault limits form head plan given payloads input fault
  NotBuilt : length input ≤ limits.file → (contents : List (List ℕ))
      → IsFilled payloads input contents → (images : List ImageSpec)
      → HavePayloads given contents images
      → IsBuildFaultAs limits form head plan images fault
      → IsFitOutputFault limits form head plan given payloads input fault

-- The error that building a flattened image tree with an input in memory can have, except those of
-- a sink. Memory is needed only for an input that can be cut.
abbrev pub IsFitOutputError : Limits → Form → Head → PlanSpecModel → List ImageSpec → List Part
    → List ℕ → Error → Type 0
IsFitOutputError limits form head plan given payloads input =
    FailsWith (IsFitOutputFault limits form head plan given payloads input)
    (sum (lengths_of payloads) ≡ length input)

-- What building a legacy image of these parts promises as a command.
abbrev pub build_legacy_promise : Fields → (parts : List Part) → Limits
    → CommandPromise (Unit {0}) Error
build_legacy_promise fields parts limits =
    unit_promise (IsLegacyOutput limits fields parts) (IsLegacyOutputError limits fields parts)

pub build_legacy_laws : (fields : Fields) (parts : List Part) (limits : Limits)
    → PromiseLaws (build_legacy_promise fields parts limits)
build_legacy_laws fields parts limits =
    unit_laws (IsLegacyOutput limits fields parts) (IsLegacyOutputError limits fields parts)
    (λ input is. is) (λ input is. is)

-- What building a flattened image tree of images with these payloads, by a plan, promises as a
-- command.
abbrev pub build_fit_promise : Form → Head → PlanSpecModel → (images : List ImageSpec)
    → (payloads : List Part) → Limits → CommandPromise (Unit {0}) Error
build_fit_promise form head plan images payloads limits =
    unit_promise (IsFitOutput limits form head plan images payloads)
    (IsFitOutputError limits form head plan images payloads)

pub build_fit_laws : (form : Form) (head : Head) (plan : PlanSpecModel) (images : List ImageSpec)
    (payloads : List Part) (limits : Limits)
    → PromiseLaws (build_fit_promise form head plan images payloads limits)
build_fit_laws form head plan images payloads limits =
    unit_laws (IsFitOutput limits form head plan images payloads)
    (IsFitOutputError limits form head plan images payloads)
    (λ input is. is) (λ input is. is)

-- What converting promises as a command.
abbrev pub convert_promise : Limits → CommandPromise (Unit {0}) Error
convert_promise limits =
    unit_promise (IsConvertedFile limits) (IsConvertError limits)

pub convert_laws : (limits : Limits) → PromiseLaws (convert_promise limits)
convert_laws limits =
    unit_laws (IsConvertedFile limits) (IsConvertError limits)
    (λ input is. is) (λ input is. is)
