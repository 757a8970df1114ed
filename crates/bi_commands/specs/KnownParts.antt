use Rattle.std.specs.Prelude.{◌≡◌, ℕ, List, [], ◌∷◌, map, None, Some, codes}
use Rattle.bi_base.specs.Limits.{Limits}
use Rattle.bi_base.specs.declared.fault.Cause.TheVariants.{BadPart}
use Rattle.bi_base.specs.declared.fault.Error.TheVariants.{Refused}
use Rattle.bi_base.specs.declared.fault.Fault.{Fault}
use Rattle.bi_fit.specs.declared.building.Head.{Head}
use Rattle.bi_fit.specs.declared.form.Form.{Form}
use Rattle.bi_legacy.specs.declared.fields.Fields.{Fields}
use Rattle.bi_legacy.specs.Meaning.{image_of}
use Rattle.bi_norm.specs.FitBuilding.{IsBuiltAs, PlanSpecModel}
use Rattle.bi_norm.specs.LegacyBuilding.{IsBuiltLegacy}
use Rattle.bi_norm.specs.declared.fit_building.ImageSpec.{ImageSpec}
use Rattle.bi_commands.specs.BuildCommands.{ArePartsOf, CanBeFilled, HavePayloads, IsPartsFault}
use Rattle.bi_commands.specs.BuildCommands.{build_fit_promise, build_legacy_promise}
use Rattle.bi_commands.specs.KnownChoices.{lent}
use Rattle.bi_commands.specs.declared.parts.Part.{Part}
use Rattle.bi_commands.specs.declared.parts.Part.TheVariants.{Bytes, Length}

-- Small parts and inputs with what images are built of, by which a reader can judge the
-- definitions.

-- ---- parts

-- The bytes `ab` and then the byte `c`, which are given.
abbrev pub given_parts : List Part
given_parts = Bytes (lent (codes "ab")) ∷ Bytes (lent (codes "c")) ∷ []

-- Two bytes of the input, then `xyz`, which is given, and then one byte of the input.
abbrev pub mixed_parts : List Part
mixed_parts = Length 2 ∷ Bytes (lent (codes "xyz")) ∷ Length 1 ∷ []

-- These are the contents of parts with this input, and no others are.
pub record AreOnlyContents (parts : List Part) (input : List ℕ) (contents : List (List ℕ)) : Type 0
  where
    pub are : ArePartsOf parts input contents
    pub only : (others : List (List ℕ)) → ArePartsOf parts input others → others ≡ contents

-- This is the fault of an input that is not cut into these parts, and no other is.
pub record IsOnlyPartsFault (parts : List Part) (input : List ℕ) (offset : ℕ) : Type 0 where
  pub is : IsPartsFault parts input (record { cause = BadPart; offset = offset })
  pub only : (fault : Fault) → IsPartsFault parts input fault
      → fault ≡ record { cause = BadPart; offset = offset }

-- The parts have their contents in their order. Without parts the whole input is the only one. An
-- input that is longer than its parts is refused where they end, and one that is shorter at the
-- first part that does not fit.
pub record FilledPartsAreKnown : Type 0 where
  pub given : AreOnlyContents given_parts [] (codes "ab" ∷ codes "c" ∷ [])
  pub mixed : AreOnlyContents mixed_parts (codes "abc") (codes "ab" ∷ codes "xyz" ∷ codes "c" ∷ [])
  pub no_parts : AreOnlyContents [] (codes "abc") (codes "abc" ∷ [])
  pub no_input : AreOnlyContents [] [] ([] ∷ [])
  pub long_input : IsOnlyPartsFault mixed_parts (codes "abcd") 3
  pub short_input : IsOnlyPartsFault mixed_parts (codes "ab") 2
  pub no_fault : (fault : Fault) → ¬ (IsPartsFault [] (codes "abc") fault)
  pub can : CanBeFilled mixed_parts (codes "abc")
  pub can_whole : CanBeFilled [] (codes "abc")
  pub cannot : ¬ (CanBeFilled mixed_parts (codes "abcd"))

-- ---- images

-- The kernel `k` and the devicetree `f`, without their payloads.
abbrev pub image_without_payload : (name : List ℕ) → (image_type : ℕ) → ImageSpec
image_without_payload name image_type = record {
  name = lent name;
  image_type = image_type;
  arch = 22;
  os = 5;
  compression = 1;
  load = Some 32768;
  entry = None;
  payload = lent [];
}

abbrev pub kernel_and_tree : List ImageSpec
kernel_and_tree = image_without_payload (codes "k") 2 ∷ image_without_payload (codes "f") 8 ∷ []

-- The name, the type and the payload of each of these images.
abbrev pub names_of_filled : List ImageSpec → List (List ℕ)
names_of_filled images = map (λ image. image.name.now) images

abbrev pub types_of_filled : List ImageSpec → List ℕ
types_of_filled images = map (λ image. image.image_type) images

abbrev pub payloads_of_filled : List ImageSpec → List (List ℕ)
payloads_of_filled images = map (λ image. image.payload.now) images

-- The images are the kernel `k` and then the devicetree `f`, with these payloads.
pub record AreKernelAndTree (payloads : List (List ℕ)) (images : List ImageSpec) : Type 0 where
  pub names : names_of_filled images ≡ codes "k" ∷ codes "f" ∷ []
  pub types : types_of_filled images ≡ 2 ∷ 8 ∷ []
  pub loads : map (λ image. image.load) images ≡ Some 32768 ∷ Some 32768 ∷ []
  pub entries : map (λ image. image.entry) images ≡ None ∷ None ∷ []
  pub payloads_are : payloads_of_filled images ≡ payloads

-- Each image has its payload, in their order, and what is built is built of these images or parts.
-- An input that cannot be cut has this fault, whatever is to be built of it.
pub record BuiltPartsAreKnown : Type 0 where
  pub images : (images : List ImageSpec)
      → HavePayloads kernel_and_tree (codes "ab" ∷ codes "c" ∷ []) images
      → AreKernelAndTree (codes "ab" ∷ codes "c" ∷ []) images
  pub legacy : (fields : Fields) (limits : Limits) (output : List ℕ)
      → (build_legacy_promise fields given_parts limits).is_output tt [] output
      → IsBuiltLegacy limits (image_of fields (codes "ab" ∷ codes "c" ∷ [])) output
  pub legacy_input : (fields : Fields) (limits : Limits) (output : List ℕ)
      → (build_legacy_promise fields [] limits).is_output tt (codes "abc") output
      → IsBuiltLegacy limits (image_of fields (codes "abc" ∷ [])) output
  pub legacy_fault : (fields : Fields) (limits : Limits) (fault : Fault)
      → (build_legacy_promise fields mixed_parts limits).has_error (codes "abcd") (Refused fault)
      → fault ≡ record { cause = BadPart; offset = 3 }
  pub fit : (form : Form) (head : Head) (plan : PlanSpecModel) (limits : Limits) (output : List ℕ)
      → (build_fit_promise form head plan kernel_and_tree given_parts limits).is_output tt [] output
      → (images : List ImageSpec) × AreKernelAndTree (codes "ab" ∷ codes "c" ∷ []) images
      × IsBuiltAs limits form head plan images output
  pub fit_fault : (form : Form) (head : Head) (plan : PlanSpecModel) (images : List ImageSpec)
      (limits : Limits) (fault : Fault)
      → (build_fit_promise form head plan images mixed_parts limits).has_error (codes "abcd")
      (Refused fault)
      → fault ≡ record { cause = BadPart; offset = 3 }
