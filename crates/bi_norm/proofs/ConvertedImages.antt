use Rattle.std.proofs.Common.{◌≡◌, ℕ, ◌≤◌, Bool, true, false, List, [], ◌∷◌, length, map, flat_map, Option, Some, refl, sym, ap, ◌∙◌, subst}
use Rattle.std.proofs.Common.{arith, rules}
use Rattle.std.proofs.Common.{if◌then◌else◌}
use Rattle.std.specs.Prelude.{◌==◌, unwrap_or}
use Rattle.std.specs.List.{AllByRecursion}
use Rattle.bi_base.specs.Cells.{AreBytes}
use Rattle.bi_base.proofs.ByteLists.{AreBytes-none}
use Rattle.bi_base.proofs.EqualBytes.{other_bytes}
use Rattle.bi_blob.specs.Tree.{IsNew, AreDistinct, IsChildName, HasNoZero}
use Rattle.bi_fit.specs.declared.key.Key.{Key}
use Rattle.bi_fit.specs.declared.key.Key.TheVariants.{Kernel, Fdt, Ramdisk, Firmware, Loadables, Script}
use Rattle.bi_fit.specs.Building.{ImageSpecModel, type_name, plan_by_types, IsText, IsImageSpec, CanBeBuilt}
use Rattle.bi_fit.specs.Judgement.{CheckedHash}
use Rattle.bi_fit.specs.Laws.{good_hashes}
use Rattle.bi_fit.proofs.BuiltVerdicts.{built_is_accepted, built_has_good_payloads}
use Rattle.bi_fit.proofs.BuiltConfigurations.{by_types_is_plan, built_by_types_has_configuration}
use Rattle.bi_fit.proofs.BuiltTrees.{tested_child}
use Rattle.bi_fit.proofs.TreeContents.{tested_name}
use Rattle.bi_hash.specs.declared.algo.Algo.TheVariants.{Sha256}
use Rattle.bi_hash.specs.declared.verdicts.Verdict.TheVariants.{Good}
use Rattle.bi_legacy.specs.Codes.{CodeName, os_names, arch_names, compression_names, name_of_code}
use Rattle.bi_legacy.specs.Meaning.{LegacyImage}
use Rattle.bi_legacy.specs.Text.{IsLegacyImage}
use Rattle.bi_norm.specs.Converting.{Conversion, keys_in, keys_of_type, image_name, code_name, later_images, images_of_parts}
use Rattle.bi_norm.specs.Converting.{converted_images, ConvertedIsAccepted, head_of_image, ConvertedHasItsParts}

-- The images of a legacy image can be built, and their tree has the parts as its payloads and a text that is accepted.

-- A name that passes the tests is a text.
tested_text : (name : List ℕ) → AreBytes name × HasNoZero name → IsText name
tested_text name tested = record { bytes = tested.0; no_zero = tested.1 }

-- What a choice gives is a text where both branches are.
text_of_choice : (chosen : Bool) (name : List ℕ) (other : Option (List ℕ)) → IsText name → IsText (unwrap_or other []) →
    IsText (unwrap_or (if chosen then Some name else other) [])
text_of_choice true name other is later = is
text_of_choice false name other is later = later

-- The name of a code is a text where each name of the table is.
pub code_text : (names : List CodeName) (code : ℕ) → AllByRecursion (λ (entry : CodeName). IsText entry.name) names →
    IsText (code_name names code)
code_text [] code each = record { bytes = AreBytes-none; no_zero = tt }
code_text (entry ∷ later) code each =
    text_of_choice (entry.code == code) entry.name (name_of_code later code) each.0 (code_text later code each.1)

-- Each name of the tables is a text.
pub os_texts : AllByRecursion (λ (entry : CodeName). IsText entry.name) os_names
os_texts = search (rules, tested_text, tested_name)

pub arch_texts : AllByRecursion (λ (entry : CodeName). IsText entry.name) arch_names
arch_texts = search (rules, tested_text, tested_name)

pub compression_texts : AllByRecursion (λ (entry : CodeName). IsText entry.name) compression_names
compression_texts = search (rules, tested_text, tested_name)

-- The name of an image node may be that of a child.
name_is_child : (key : Key) → IsChildName (image_name key)
name_is_child Kernel = tested_child _ _ refl refl
name_is_child Fdt = tested_child _ _ refl refl
name_is_child Ramdisk = tested_child _ _ refl refl
name_is_child Firmware = tested_child _ _ refl refl
name_is_child Loadables = tested_child _ _ refl refl
name_is_child Script = tested_child _ _ refl refl

-- It is bytes.
name_is_bytes : (key : Key) → AreBytes (image_name key)
name_is_bytes Kernel = (tested_name (image_name Kernel) refl).0
name_is_bytes Fdt = (tested_name (image_name Fdt) refl).0
name_is_bytes Ramdisk = (tested_name (image_name Ramdisk) refl).0
name_is_bytes Firmware = (tested_name (image_name Firmware) refl).0
name_is_bytes Loadables = (tested_name (image_name Loadables) refl).0
name_is_bytes Script = (tested_name (image_name Script) refl).0

-- The name of the type of a key is a text.
type_is_text : (key : Key) → IsText (type_name key)
type_is_text Kernel = tested_text _ (tested_name _ refl)
type_is_text Fdt = tested_text _ (tested_name _ refl)
type_is_text Ramdisk = tested_text _ (tested_name _ refl)
type_is_text Firmware = tested_text _ (tested_name _ refl)
type_is_text Loadables = tested_text _ (tested_name _ refl)
type_is_text Script = tested_text _ (tested_name _ refl)

-- The images of later parts can be built.
later_can : (image : LegacyImage) (keys : List Key) (parts : List (List ℕ)) → AllByRecursion AreBytes parts →
    AllByRecursion IsImageSpec (later_images image keys parts)
later_can image [] parts bytes = tt
later_can image (key ∷ keys) [] bytes = tt
later_can image (key ∷ keys) (part ∷ parts) bytes = (
  record {
    is_name = name_is_child key;
    name_bytes = name_is_bytes key;
    description = tt;
    image_type = type_is_text key;
    arch = code_text arch_names image.arch arch_texts;
    os = code_text os_names image.os os_texts;
    compression = code_text compression_names 0 compression_texts;
    payload_bytes = bytes.0;
  },
  later_can image keys parts bytes.1,
)

-- The images of parts can be built.
each_can : (image : LegacyImage) (keys : List Key) (parts : List (List ℕ)) → AllByRecursion AreBytes parts →
    AllByRecursion IsImageSpec (images_of_parts image keys parts)
each_can image [] parts bytes = tt
each_can image (key ∷ keys) [] bytes = tt
each_can image (key ∷ keys) (part ∷ parts) bytes = (
  record {
    is_name = name_is_child key;
    name_bytes = name_is_bytes key;
    description = tt;
    image_type = type_is_text key;
    arch = code_text arch_names image.arch arch_texts;
    os = code_text os_names image.os os_texts;
    compression = code_text compression_names image.compression compression_texts;
    payload_bytes = bytes.0;
  },
  later_can image keys parts bytes.1,
)

-- The names of specifications.
abbrev names_of : List ImageSpecModel → List (List ℕ)
names_of images = map (λ (image : ImageSpecModel). image.name) images

-- A name that no key has is new among the images of some keys.
new_later : (image : LegacyImage) (name : List ℕ) (keys : List Key) (parts : List (List ℕ)) → IsNew name (map image_name keys) →
    IsNew name (names_of (later_images image keys parts))
new_later image name [] parts new = tt
new_later image name (key ∷ keys) [] new = tt
new_later image name (key ∷ keys) (part ∷ parts) new = (new.0, new_later image name keys parts new.1)

-- Where the names of keys differ, so do those of their images.
later_distinct : (image : LegacyImage) (keys : List Key) (parts : List (List ℕ)) → AreDistinct (map image_name keys) →
    AreDistinct (names_of (later_images image keys parts))
later_distinct image [] parts distinct = tt
later_distinct image (key ∷ keys) [] distinct = tt
later_distinct image (key ∷ keys) (part ∷ parts) distinct =
    (new_later image (image_name key) keys parts distinct.0, later_distinct image keys parts distinct.1)

images_distinct : (image : LegacyImage) (keys : List Key) (parts : List (List ℕ)) → AreDistinct (map image_name keys) →
    AreDistinct (names_of (images_of_parts image keys parts))
images_distinct image [] parts distinct = tt
images_distinct image (key ∷ keys) [] distinct = tt
images_distinct image (key ∷ keys) (part ∷ parts) distinct =
    (new_later image (image_name key) keys parts distinct.0, later_distinct image keys parts distinct.1)

-- The names of the keys of a type differ.
choice_distinct : (chosen : Bool) (keys other : List Key) → AreDistinct (map image_name keys) → AreDistinct (map image_name other) →
    AreDistinct (map image_name (if chosen then keys else other))
choice_distinct true keys other is later = is
choice_distinct false keys other is later = later

keys_distinct_in : (all : List Conversion) (image_type : ℕ) →
    AllByRecursion (λ (conversion : Conversion). AreDistinct (map image_name conversion.keys)) all →
    AreDistinct (map image_name (keys_in all image_type))
keys_distinct_in [] image_type each = tt
keys_distinct_in (conversion ∷ later) image_type each = search (rules, choice_distinct, keys_distinct_in later image_type each.1)

keys_distinct : (image_type : ℕ) → AreDistinct (map image_name (keys_of_type image_type))
keys_distinct image_type = search (rules, keys_distinct_in, other_bytes)

-- The payload of an image to be built.
abbrev payload_of : ImageSpecModel → Option (List ℕ)
payload_of image = Some image.payload

-- The payloads of images are their parts, where there are keys enough.
later_payloads : (image : LegacyImage) (keys : List Key) (parts : List (List ℕ)) → length parts ≤ length keys →
    map payload_of (later_images image keys parts) ≡ map Some parts
later_payloads image [] [] few = refl
later_payloads image [] (part ∷ parts) few = absurd (omega arith)
later_payloads image (key ∷ keys) [] few = refl
later_payloads image (key ∷ keys) (part ∷ parts) few = ap (λ l. Some part ∷ l) (later_payloads image keys parts (omega arith))

payloads_are_parts : (image : LegacyImage) (keys : List Key) (parts : List (List ℕ)) → length parts ≤ length keys →
    map payload_of (images_of_parts image keys parts) ≡ map Some parts
payloads_are_parts image [] [] few = refl
payloads_are_parts image [] (part ∷ parts) few = absurd (omega arith)
payloads_are_parts image (key ∷ keys) [] few = refl
payloads_are_parts image (key ∷ keys) (part ∷ parts) few = ap (λ l. Some part ∷ l) (later_payloads image keys parts (omega arith))

-- The verdicts of good hash nodes are Good.
all_good : (images : List ImageSpecModel) →
    AllByRecursion (λ (hash : CheckedHash). hash.verdict ≡ Good) (flat_map (good_hashes 1 (Sha256 ∷ [])) images)
all_good [] = tt
all_good (image ∷ images) = (refl, all_good images)

-- The images of a legacy image can be built.
pub converted_can_be_built : (image : LegacyImage) → IsLegacyImage image → CanBeBuilt (head_of_image image) (converted_images image)
converted_can_be_built image is = search (rules, each_can, images_distinct, keys_distinct)

-- The tree of a converted image has the parts as its payloads.
pub converted_has_its_parts : ConvertedHasItsParts
converted_has_its_parts image is can =
    let head = head_of_image image in
    let images = converted_images image in
    let good = built_has_good_payloads head (plan_by_types (Sha256 ∷ []) images) images in
    record {
      payloads = good.payloads ∙ payloads_are_parts image (keys_of_type image.image_type) image.parts can.1.1.1.1.1.0;
      verdicts = subst (AllByRecursion (λ (hash : CheckedHash). hash.verdict ≡ Good)) (sym good.verdicts) (all_good images);
      configuration = built_by_types_has_configuration head (Sha256 ∷ []) images (converted_can_be_built image is);
    }

-- The text of a converted image is accepted.
pub converted_is_accepted : ConvertedIsAccepted
converted_is_accepted bounds form image is can deep short small =
    let images = converted_images image in
    record {
      accepted = built_is_accepted bounds form (head_of_image image) (plan_by_types (Sha256 ∷ []) images) images
          (converted_can_be_built image is) (by_types_is_plan (Sha256 ∷ []) images (omega arith)) deep short small;
      parts = converted_has_its_parts image is can;
    }
