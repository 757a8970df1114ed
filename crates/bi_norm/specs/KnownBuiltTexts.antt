use Rattle.std.specs.Prelude.{◌≡◌, ◌↔◌, ℕ, List, [], ◌∷◌, map, codes, None, Some}
use Rattle.std.specs.Borrow.{Bor}
use Rattle.bi_base.specs.declared.fault.Error.{Error}
use Rattle.bi_base.specs.declared.fault.Error.TheVariants.{Refused, OutOfMemory}
use Rattle.bi_base.specs.Limits.{Limits, widest}
use Rattle.bi_base.specs.Reading.{too_large}
use Rattle.bi_hash.specs.declared.algo.Algo.TheVariants.{Crc32, Sha256}
use Rattle.bi_fit.specs.declared.building.ConfigurationSpec.{ConfigurationSpec}
use Rattle.bi_fit.specs.declared.form.Form.TheVariants.{Embedded}
use Rattle.bi_fit.specs.Building.{configuration_names}
use Rattle.bi_fit.specs.KnownBuilds.{known_text}
use Rattle.bi_fit.specs.Names.{all_keys}
use Rattle.bi_legacy.specs.KnownFaults.{limited_to}
use Rattle.bi_legacy.specs.KnownImages.{multi_image}
use Rattle.bi_legacy.specs.Meaning.{LegacyImage}
use Rattle.bi_norm.specs.declared.fit_building.ImageSpec.{ImageSpec}
use Rattle.bi_norm.specs.declared.fit_building.ImageTexts.{ImageTexts}
use Rattle.bi_norm.specs.declared.fit_building.PlanSpec.{PlanSpec}
use Rattle.bi_norm.specs.FitBuilding.{IsBuilt, ImageTextsModel, PlanSpecModel, plan_spec_model}
use Rattle.bi_norm.specs.KnownBuildFaults.{head_like, kernel_like, slice_like}
use Rattle.bi_norm.specs.KnownPlans.{firmware_texts}
use Rattle.bi_norm.specs.LegacyBuilding.{IsBuildLegacyError}

-- Small images and plans with what is built of them, or with their errors, by which a reader can
-- judge the definitions.

-- A kernel and a ramdisk.
abbrev pub kernel_and_ramdisk : Bor (List ℕ) → List ImageSpec
kernel_and_ramdisk any =
    record (kernel_like any (codes "kernel-1")) { payload = slice_like any (codes "hello") }
    ∷ record (kernel_like any (codes "ramdisk-1")) {
      image_type = 3;
      load = None;
      entry = None;
      payload = slice_like any (codes "abc");
    }
    ∷ []

-- They are built as a text of 824 bytes, and as no other, wherever their slices are.
abbrev pub BuiltTextIsKnown : Type 0
BuiltTextIsKnown =
    (any : Bor (List ℕ)) (text : List ℕ)
    → IsBuilt widest Embedded (head_like any (codes "k")) (kernel_and_ramdisk any) text
    ↔ (text ≡ known_text)

-- Texts, as a call takes them.
abbrev pub texts_like : Bor (List ℕ) → ImageTextsModel → ImageTexts
texts_like any texts = record {
  image_type = slice_like any texts.image_type;
  arch = slice_like any texts.arch;
  os = slice_like any texts.os;
  compression = slice_like any texts.compression;
}

-- A list, as a call takes it.
abbrev pub list_like : {X : Type 0} → Bor (List ℕ) → List X → Bor (List X)
list_like any list = record { ref_ptr = any.ref_ptr; now = list }

-- Names, as a call takes them.
abbrev pub names_like : Bor (List ℕ) → List (List ℕ) → Bor (List (Bor (List ℕ)))
names_like any names = list_like any (map (slice_like any) names)

-- A configuration that lists images under each key.
abbrev pub configuration_like : Bor (List ℕ) → ConfigurationSpec
configuration_like any = record {
  name = slice_like any (codes "c");
  description = Some (slice_like any (codes "board c"));
  compatible = names_like any (codes "acme,one" ∷ codes "acme,two" ∷ []);
  kernel = names_like any (codes "k" ∷ []);
  fdt = names_like any (codes "d" ∷ codes "e" ∷ []);
  ramdisk = names_like any (codes "r" ∷ []);
  firmware = names_like any (codes "f" ∷ []);
  loadables = names_like any (codes "l" ∷ codes "m" ∷ []);
  script = names_like any (codes "s" ∷ []);
}

-- A plan in which all is given.
abbrev pub plan_like : Bor (List ℕ) → PlanSpec
plan_like any = record {
  configurations =
      list_like any
      (configuration_like any
      ∷ record (configuration_like any) {
        name = slice_like any (codes "b");
        description = None;
      }
      ∷ []);
  default = Some (slice_like any (codes "b"));
  algorithms = list_like any (Sha256 ∷ Crc32 ∷ []);
  texts = list_like any (None ∷ Some (texts_like any firmware_texts) ∷ []);
  descriptions = list_like any (None ∷ Some (slice_like any (codes "kernel b")) ∷ []);
}

-- The names that a plan lists in each configuration, under each key in the order of the keys.
abbrev pub lists_of : PlanSpecModel → List (List (List (List ℕ)))
lists_of plan = map (λ configuration. map configuration.lists all_keys) plan.configurations

-- What is listed in either configuration of the plan.
abbrev pub known_lists : List (List (List ℕ))
known_lists =
    (codes "k" ∷ [])
    ∷ (codes "d" ∷ codes "e" ∷ [])
    ∷ (codes "r" ∷ [])
    ∷ (codes "f" ∷ [])
    ∷ (codes "l" ∷ codes "m" ∷ [])
    ∷ (codes "s" ∷ [])
    ∷ []

-- Each field is that of the plan, and lists keep their order.
pub record ArePlanFields (any : Bor (List ℕ)) : Type 0 where
  pub names : configuration_names (plan_spec_model (plan_like any)).configurations
      ≡ codes "c" ∷ codes "b" ∷ []
  pub lists : lists_of (plan_spec_model (plan_like any)) ≡ known_lists ∷ known_lists ∷ []
  pub default : (plan_spec_model (plan_like any)).default ≡ Some (codes "b")
  pub no_default :
      (plan_spec_model (record (plan_like any) { default = None })).default ≡ None
  pub algorithms : (plan_spec_model (plan_like any)).algorithms ≡ Sha256 ∷ Crc32 ∷ []
  pub texts : (plan_spec_model (plan_like any)).texts ≡ None ∷ Some firmware_texts ∷ []
  pub descriptions : (plan_spec_model (plan_like any)).descriptions
      ≡ None ∷ Some (codes "kernel b") ∷ []
  pub configuration_descriptions :
      map (λ configuration. configuration.description)
      (plan_spec_model (plan_like any)).configurations
      ≡ Some (codes "board c") ∷ None ∷ []
  pub compatibles :
      map (λ configuration. configuration.compatible)
      (plan_spec_model (plan_like any)).configurations
      ≡ (codes "acme,one" ∷ codes "acme,two" ∷ [])
      ∷ (codes "acme,one" ∷ codes "acme,two" ∷ [])
      ∷ []

-- So they are, wherever the slices are.
abbrev pub PlanFieldsAreKnown : Type 0
PlanFieldsAreKnown = (any : Bor (List ℕ)) → ArePlanFields any

-- Building the legacy image fails with these errors, and with no others.
abbrev pub FailsBuildingLegacy : Limits → LegacyImage → (Error → Type 0) → Type 0
FailsBuildingLegacy limits image IsOne =
    (error : Error) → IsBuildLegacyError limits image error ↔ IsOne error

-- An image whose text has 87 bytes is refused under a limit of 86, and then memory never runs out.
pub record LegacyBuildErrorsAreKnown : Type 0 where
  pub past_limit :
      FailsBuildingLegacy (limited_to 86) multi_image (λ error. error ≡ Refused (too_large 86))
  pub at_limit :
      FailsBuildingLegacy (limited_to 87) multi_image (λ error. error ≡ OutOfMemory)
