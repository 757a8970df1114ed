use Rattle.std.specs.Prelude.{◌≡◌, ◌≢◌, ℕ, List, [], ◌∷◌, map, codes}
use Rattle.std.specs.List.{AllByRecursion}
use Rattle.bi_base.specs.declared.fault.Cause.{Cause}
use Rattle.bi_base.specs.declared.fault.Cause.TheVariants.{NoCodeName, TooManyParts, EmptyPart}
use Rattle.bi_fit.specs.Building.{built_tree, type_name}
use Rattle.bi_fit.specs.KnownBuilds.{known_head, known_kernel, known_ramdisk, known_images}
use Rattle.bi_fit.specs.KnownBuilds.{known_plan}
use Rattle.bi_legacy.specs.Codes.{type_names}
use Rattle.bi_legacy.specs.Meaning.{LegacyImage}
use Rattle.bi_norm.specs.FitBuilding.{multi}
use Rattle.bi_norm.specs.Converting.{converted_images, fit_of, keys_of_type, IsConvertFault}

-- Small legacy images with the images that they are converted to, or with the fault of those that
-- cannot be converted, by which a reader can judge the definitions.

-- An image for Linux on ARM, with the name `k` and time 1, that is loaded at 0x8000 and entered at
-- 0x8040.
abbrev pub known_image : (image_type compression : ℕ) → List (List ℕ) → LegacyImage
known_image image_type compression parts = record {
  time = 1;
  load = 0x8000;
  entry = 0x8040;
  os = 5;
  arch = 2;
  image_type = image_type;
  compression = compression;
  name = codes "k";
  parts = parts;
}

-- The parts of the small images.
abbrev pub known_parts : List (List ℕ)
known_parts = codes "hello" ∷ codes "abc" ∷ codes "x" ∷ []

-- Each type of image becomes images of known names, types, compressions and addresses.
pub record ConversionsAreKnown : Type 0 where
  pub two_parts : fit_of (known_image 4 0 (codes "hello" ∷ codes "abc" ∷ []))
      ≡ built_tree known_head (known_plan known_images) known_images
  pub three_parts : converted_images (known_image 4 1 known_parts)
      ≡ record known_kernel { compression = codes "gzip" }
      ∷ known_ramdisk
      ∷ record known_ramdisk {
        name = codes "fdt-1";
        image_type = codes "flat_dt";
        payload = codes "x";
      }
      ∷ []
  pub standalone : converted_images (known_image 1 0 (codes "hello" ∷ []))
      ≡ record known_kernel { name = codes "standalone-1"; image_type = codes "standalone" } ∷ []
  pub kernel : converted_images (known_image 2 0 (codes "hello" ∷ [])) ≡ known_kernel ∷ []
  pub ramdisk : converted_images (known_image 3 0 (codes "abc" ∷ [])) ≡ known_ramdisk ∷ []
  pub firmware : converted_images (known_image 5 0 (codes "hello" ∷ []))
      ≡ record known_kernel { name = codes "firmware-1"; image_type = codes "firmware" } ∷ []
  pub script : converted_images (known_image 6 0 (codes "abc" ∷ []))
      ≡ record known_ramdisk { name = codes "script-1"; image_type = codes "script" } ∷ []
  pub devicetree : converted_images (known_image 8 3 (codes "abc" ∷ []))
      ≡ record known_ramdisk {
        name = codes "fdt-1";
        image_type = codes "flat_dt";
        compression = codes "lzma";
      }
      ∷ []

-- An image cannot be converted, and this is why.
abbrev pub HasConvertFault : LegacyImage → Cause → ℕ → Type 0
HasConvertFault image cause offset =
    IsConvertFault image (record { cause = cause; offset = offset })

-- Each check is the first that fails for one of these images.
pub record ConvertFaultsAreKnown : Type 0 where
  pub os : HasConvertFault (record (known_image 7 9 []) { os = 200; arch = 200 }) NoCodeName 28
  pub arch : HasConvertFault (record (known_image 7 9 []) { arch = 200 }) NoCodeName 29
  pub image_type : HasConvertFault (known_image 7 9 []) NoCodeName 30
  pub compression : HasConvertFault (known_image 4 9 []) NoCodeName 31
  pub no_parts : HasConvertFault (known_image 4 0 []) EmptyPart 64
  pub four_parts : HasConvertFault (known_image 4 0 (codes "y" ∷ known_parts)) TooManyParts 64
  pub two_scripts : HasConvertFault (known_image 6 0 (codes "x" ∷ codes "y" ∷ [])) TooManyParts 64

-- Each type with a name, except that of multi-file images, has exactly one key, and the images
-- under this key have this type.
abbrev pub TypesHaveTheirKeys : Type 0
TypesHaveTheirKeys =
    AllByRecursion
    (λ entry. entry.code ≢ multi → map type_name (keys_of_type entry.code) ≡ entry.name ∷ [])
    type_names
