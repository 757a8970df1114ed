use Rattle.std.specs.Prelude.{◌≡◌, ◌≢◌, ℕ, ◌<◌, ◌≤◌, ◌==◌, Bool, true, false, List, [], ◌∷◌, Option}
use Rattle.std.specs.Prelude.{None, Some, IsSome, length, map, codes, unwrap_or, if◌then◌else◌}
use Rattle.std.specs.List.{AllByRecursion}
use Rattle.bi_base.specs.Errors.{FailsWith}
use Rattle.bi_base.specs.declared.fault.Fault.{Fault}
use Rattle.bi_base.specs.declared.fault.Cause.TheVariants.{NoCodeName, TooManyParts, EmptyPart}
use Rattle.bi_base.specs.declared.fault.Error.{Error}
use Rattle.bi_base.specs.Checks.{IsFirstFault, HasNoFault}
use Rattle.bi_base.specs.Limits.{Limits}
use Rattle.bi_base.specs.Reading.{too_large}
use Rattle.bi_blob.specs.Layout.{longest_text}
use Rattle.bi_fit.specs.declared.form.Form.{Form}
use Rattle.bi_fit.specs.declared.form.Form.TheVariants.{Embedded}
use Rattle.bi_fit.specs.declared.key.Key.{Key}
use Rattle.bi_fit.specs.declared.key.Key.TheVariants.{Kernel, Fdt, Ramdisk, Firmware, Loadables}
use Rattle.bi_fit.specs.declared.key.Key.TheVariants.{Script}
use Rattle.bi_fit.specs.Building.{HeadModel, ImageSpecModel, type_name, built_tree, plan_by_types}
use Rattle.bi_fit.specs.ImageTree.{ImageTree}
use Rattle.bi_fit.specs.Judgement.{verdicts_of}
use Rattle.bi_fit.specs.Laws.{IsAcceptedAs, HasConfigurationByTypes}
use Rattle.bi_fit.specs.Text.{fit_text}
use Rattle.bi_hash.specs.declared.algo.Algo.TheVariants.{Sha256}
use Rattle.bi_hash.specs.declared.verdicts.Verdict.TheVariants.{Good}
use Rattle.bi_legacy.specs.Codes.{CodeName, os_names, arch_names, type_names, compression_names}
use Rattle.bi_legacy.specs.Codes.{name_of_code}
use Rattle.bi_legacy.specs.Faults.{IsLegacyFault}
use Rattle.bi_legacy.specs.File.{LegacyMeans}
use Rattle.bi_legacy.specs.Meaning.{LegacyImage}
use Rattle.bi_legacy.specs.Text.{IsLegacyImage}

-- The flattened image tree that a legacy image is converted to (what is built is profile of this
-- project).

-- The keys of the images that the parts of an image of some type become, in their order. In a
-- multi-file image with a kernel, part 0 is the kernel, part 1 the ramdisk and part 2 the
-- devicetree (U-Boot, boot/image.c: multi-file images).
pub record Conversion : Type 0 where
  pub image_type : ℕ
  pub keys : List Key

-- The types that can be converted.
abbrev pub conversions : List Conversion
conversions =
    record { image_type = 1; keys = Loadables ∷ [] }
    ∷ record { image_type = 2; keys = Kernel ∷ [] }
    ∷ record { image_type = 3; keys = Ramdisk ∷ [] }
    ∷ record { image_type = 4; keys = Kernel ∷ Ramdisk ∷ Fdt ∷ [] }
    ∷ record { image_type = 5; keys = Firmware ∷ [] }
    ∷ record { image_type = 6; keys = Script ∷ [] }
    ∷ record { image_type = 8; keys = Fdt ∷ [] } ∷ []

-- The keys for a type: none if it cannot be converted.
abbrev pub keys_in : List Conversion → ℕ → List Key
keys_in [] image_type = []
keys_in (conversion ∷ later) image_type =
    if conversion.image_type == image_type then conversion.keys else keys_in later image_type

-- The keys of the images that the parts of an image of this type become.
abbrev pub keys_of_type : ℕ → List Key
keys_of_type image_type = keys_in conversions image_type

-- The name of the image node of a key. It is named after the type of its images.
abbrev pub image_name : Key → List ℕ
image_name Kernel = codes "kernel-1"
image_name Fdt = codes "fdt-1"
image_name Ramdisk = codes "ramdisk-1"
image_name Firmware = codes "firmware-1"
image_name Loadables = codes "standalone-1"
image_name Script = codes "script-1"

-- Whether an image with this key keeps the load address and the entry point.
abbrev pub has_addresses : Key → Bool
has_addresses Kernel = true
has_addresses Firmware = true
has_addresses Loadables = true
has_addresses key = false

-- A number that is given or not.
abbrev pub number_if : Bool → ℕ → Option ℕ
number_if true number = Some number
number_if false number = None

-- The name of a code. A code without a name is refused before this is used.
abbrev pub code_name : List CodeName → ℕ → List ℕ
code_name names code = unwrap_or (name_of_code names code) []

-- The image of the first part. It has the compression of the legacy image.
abbrev pub first_image : LegacyImage → Key → List ℕ → ImageSpecModel
first_image image key part = record {
  name = image_name key;
  description = None;
  image_type = type_name key;
  arch = code_name arch_names image.arch;
  os = code_name os_names image.os;
  compression = code_name compression_names image.compression;
  load = number_if (has_addresses key) image.load;
  entry = number_if (has_addresses key) image.entry;
  payload = part;
}

-- The image of a later part, which is not compressed.
abbrev pub later_image : LegacyImage → Key → List ℕ → ImageSpecModel
later_image image key part = record {
  name = image_name key;
  description = None;
  image_type = type_name key;
  arch = code_name arch_names image.arch;
  os = code_name os_names image.os;
  compression = code_name compression_names 0;
  load = None;
  entry = None;
  payload = part;
}

-- The images of later parts, with these keys.
abbrev pub later_images : LegacyImage → List Key → List (List ℕ) → List ImageSpecModel
later_images image (key ∷ keys) (part ∷ parts) =
    later_image image key part ∷ later_images image keys parts
later_images image keys parts = []

-- The images of parts, with these keys.
abbrev pub images_of_parts : LegacyImage → List Key → List (List ℕ) → List ImageSpecModel
images_of_parts image (key ∷ keys) (part ∷ parts) =
    first_image image key part ∷ later_images image keys parts
images_of_parts image keys parts = []

-- The images of a legacy image.
abbrev pub converted_images : LegacyImage → List ImageSpecModel
converted_images image = images_of_parts image (keys_of_type image.image_type) image.parts

-- The description of the tree is the name of the legacy image, and its time is that of the legacy
-- image.
abbrev pub head_of_image : LegacyImage → HeadModel
head_of_image image = record { description = image.name; time = image.time }

-- The tree that a legacy image is converted to: its configuration lists the images by their types,
-- and each image has a SHA-256.
abbrev pub fit_of : LegacyImage → ImageTree
fit_of image =
    built_tree (head_of_image image) (plan_by_types (Sha256 ∷ []) (converted_images image))
    (converted_images image)

-- The checks of a legacy image to be converted.
pub data ConvertCheck : Type 0 where
  HasOsName : ConvertCheck
  HasArchName : ConvertCheck
  HasTypeName : ConvertCheck
  HasCompressionName : ConvertCheck
  HasPart : ConvertCheck
  HasFewParts : ConvertCheck

-- The order in which they are made.
abbrev pub convert_checks : List ConvertCheck
convert_checks =
    HasOsName ∷ HasArchName ∷ HasTypeName ∷ HasCompressionName ∷ HasPart ∷ HasFewParts ∷ []

-- What each of them requires.
abbrev pub ConvertPasses : LegacyImage → ConvertCheck → Type 0
ConvertPasses image HasOsName = IsSome (name_of_code os_names image.os)
ConvertPasses image HasArchName = IsSome (name_of_code arch_names image.arch)
ConvertPasses image HasTypeName = IsSome (name_of_code type_names image.image_type)
ConvertPasses image HasCompressionName = IsSome (name_of_code compression_names image.compression)
ConvertPasses image HasPart = image.parts ≢ []
ConvertPasses image HasFewParts = length image.parts ≤ length (keys_of_type image.image_type)

-- The fault that each of them gives.
abbrev pub convert_fault : ConvertCheck → Fault
convert_fault HasOsName = record { cause = NoCodeName; offset = 28 }
convert_fault HasArchName = record { cause = NoCodeName; offset = 29 }
convert_fault HasTypeName = record { cause = NoCodeName; offset = 30 }
convert_fault HasCompressionName = record { cause = NoCodeName; offset = 31 }
convert_fault HasPart = record { cause = EmptyPart; offset = 64 }
convert_fault HasFewParts = record { cause = TooManyParts; offset = 64 }

-- The fault of a legacy image to be converted.
abbrev pub IsConvertFault : LegacyImage → Fault → Type 0
IsConvertFault image fault = IsFirstFault (ConvertPasses image) convert_fault convert_checks fault

-- The legacy image can be converted.
abbrev pub CanBeConverted : LegacyImage → Type 0
CanBeConverted image = HasNoFault (ConvertPasses image) convert_checks

-- What the tree of a converted image has, however long its text is: its payloads are the parts in
-- their order, all of its verdicts are Good, and its configuration lists the images.
pub record HasConvertedParts (image : LegacyImage) : Type 0 where
  pub payloads : (fit_of image).payloads ≡ map Some image.parts
  pub verdicts : AllByRecursion (λ hash. hash.verdict ≡ Good) (verdicts_of (fit_of image))
  pub configuration :
      HasConfigurationByTypes (head_of_image image) (Sha256 ∷ []) (converted_images image)

-- The law that each legacy image that can be converted has such a tree.
abbrev pub ConvertedHasItsParts : Type 0
ConvertedHasItsParts =
    (image : LegacyImage) → IsLegacyImage image → CanBeConverted image → HasConvertedParts image

-- What the text of a converted image is: it is accepted and means the tree.
pub record IsConverted (bounds : Limits) (form : Form) (image : LegacyImage) : Type 0 where
  pub accepted : IsAcceptedAs bounds (fit_text form (fit_of image)) (fit_of image)
  pub parts : HasConvertedParts image

-- The law that this is what the text of a converted image is, within limits that hold it, if at
-- least four nodes may be open.
abbrev pub ConvertedIsAccepted : Type 0
ConvertedIsAccepted =
    (bounds : Limits) (form : Form) (image : LegacyImage)
    → IsLegacyImage image → CanBeConverted image
    → 4 ≤ bounds.depth → length (fit_text form (fit_of image)) ≤ bounds.file
    → bounds.file ≤ longest_text
    → IsConverted bounds form image

-- The text is that of the flattened image tree to which the legacy image in the file is converted.
-- Under the same limit on files, if at least four nodes may be open, it is accepted and means that
-- tree.
pub record IsConvertedFile (limits : Limits) (file text : List ℕ) : Type 0 where
  pub image : LegacyImage
  pub means : LegacyMeans limits file image
  pub only : (other : LegacyImage) → LegacyMeans limits file other → other ≡ image
  pub can : CanBeConverted image
  pub is_text : text ≡ fit_text Embedded (fit_of image)
  pub converted : (bounds : Limits) → bounds.file ≡ limits.file → 4 ≤ bounds.depth
      → IsConverted bounds Embedded image

-- The file is a legacy image that can be converted.
pub record IsConvertible (limits : Limits) (file : List ℕ) : Type 0 where
  pub image : LegacyImage
  pub means : LegacyMeans limits file image
  pub can : CanBeConverted image

-- The fault of a file to be converted, in the order of the checks.
pub data IsFileConvertFault (limits : Limits) (file : List ℕ) (fault : Fault) : Type 0 where
  NotLegacy : IsLegacyFault limits file fault
      → ((image : LegacyImage) → ¬ (LegacyMeans limits file image))
      → IsFileConvertFault limits file fault
  NotConvertible : (image : LegacyImage) → LegacyMeans limits file image
      → IsConvertFault image fault → IsFileConvertFault limits file fault
  TextTooLong : (image : LegacyImage) → LegacyMeans limits file image → CanBeConverted image
      → limits.file < length (fit_text Embedded (fit_of image)) → fault ≡ too_large limits.file
      → IsFileConvertFault limits file fault

-- The error that converting a file in memory can have, except those of a sink.
abbrev pub IsConvertError : Limits → List ℕ → Error → Type 0
IsConvertError limits file =
    FailsWith (IsFileConvertFault limits file) (IsConvertible limits file)
