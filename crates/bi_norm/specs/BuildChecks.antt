use Rattle.std.specs.Prelude.{ℕ, Bool, List, [], ◌∷◌, Option, None, IfSome}
use Rattle.std.specs.List.{AllByRecursion}
use Rattle.std.specs.Borrow.{Bor}
use Rattle.std.specs.BTreeSet.{BTreeSet, contains}
use Rattle.std.specs.Cmp.Lexicographic.{slice_cmp}
use Rattle.std.specs.Option.{option_map}
use Rattle.std.specs.Ordering.{nat_cmp}
use Rattle.bi_base.specs.Errors.{FailsWith}
use Rattle.bi_base.specs.declared.fault.Fault.{Fault}
use Rattle.bi_base.specs.declared.fault.Error.{Error}
use Rattle.bi_base.specs.Cells.{AreBytes}
use Rattle.bi_base.specs.Checks.{IsFirstFault, HasNoFault}
use Rattle.bi_base.specs.Limits.{Limits}
use Rattle.bi_fit.specs.declared.form.Form.{Form}
use Rattle.bi_fit.specs.declared.building.Head.{Head}
use Rattle.bi_fit.specs.Building.{ImageSpecModel, ConfigurationSpecModel, IsText}
use Rattle.bi_fit.specs.Building.{IsImageSpec, IsConfigurationSpec}
use Rattle.bi_norm.specs.declared.fit_building.ImageSpec.{ImageSpec}
use Rattle.bi_norm.specs.declared.fit_building.ImageTexts.{ImageTexts}
use Rattle.bi_norm.specs.FitBuilding.{BuildCheck, HasFields, HasCodeNames, BuildPasses, build_fault}
use Rattle.bi_norm.specs.FitBuilding.{PlanSpecModel, ImageTextsModel, image_texts_model}
use Rattle.bi_norm.specs.FitBuilding.{GivenImage, IndexedImage, given_images, texts_models}
use Rattle.bi_norm.specs.FitBuilding.{descriptions_models}
use Rattle.bi_norm.specs.FitBuilding.{spec_checks, first_image_checks}

-- The checks of what is to be built, one after the other.

-- Checks of images or of configurations pass, which is so for any limits, form, head and plan.
abbrev pub AllPass : List BuildCheck → Type 0
AllPass checks =
    (limits : Limits) (form : Form) (head : Head) (plan : PlanSpecModel) (images : List ImageSpec)
    → HasNoFault (BuildPasses limits form head plan images) checks

-- This is the fault of the first check of images or of configurations that fails, for any limits,
-- form, head and plan.
abbrev pub IsFirstFailure : List BuildCheck → Fault → Type 0
IsFirstFailure checks fault =
    (limits : Limits) (form : Form) (head : Head) (plan : PlanSpecModel) (images : List ImageSpec)
    → IsFirstFault (BuildPasses limits form head plan images) (build_fault limits plan) checks fault

-- The error that the checks of images can have. Memory is needed only after the checks of the first
-- image that look at no other.
abbrev pub IsImagesError : List GivenImage → Error → Type 0
IsImagesError images =
    FailsWith (IsFirstFailure (spec_checks 0 [] images)) (AllPass (first_image_checks images))

-- An image at an index after images with these names.
abbrev pub at_index : ℕ → List (List ℕ) → GivenImage → IndexedImage
at_index index earlier image = record { index = index; earlier = earlier; image = image }

-- The checks of an image that look at no other image.
abbrev pub fields_and_names : ℕ → GivenImage → List BuildCheck
fields_and_names index image =
    HasFields (at_index index [] image) ∷ HasCodeNames (at_index index [] image) ∷ []

-- An image with its texts and its description, if there are any.
abbrev pub given_image : ImageSpec → Option ImageTexts → Option (Bor (List ℕ)) → GivenImage
given_image spec texts description = record {
  spec = spec;
  texts = option_map image_texts_model texts;
  description = option_map (λ text. text.now) description;
}

-- The images with what a call gives for them.
abbrev pub given_for : List (Option ImageTexts) → List (Option (Bor (List ℕ))) → List ImageSpec
    → List GivenImage
given_for texts descriptions images =
    given_images (texts_models texts) (descriptions_models descriptions) images

-- An image that can be built without its own description, and a configuration that can be built
-- without its own texts. Their checks come last.
abbrev pub IsPlainImage : ImageSpecModel → Type 0
IsPlainImage image = IsImageSpec (record image { description = None })

abbrev pub IsPlainConfiguration : (image_names : List (List ℕ)) → ConfigurationSpecModel → Type 0
IsPlainConfiguration image_names configuration =
    IsConfigurationSpec image_names (record configuration { description = None; compatible = [] })

-- Whether a set has a name.
abbrev pub holds_name : BTreeSet (Bor (List ℕ)) → Bor (List ℕ) → Bool
holds_name set name = contains (λ x y. slice_cmp nat_cmp x.now y.now) set name

-- Texts are bytes.
pub record TextsAreBytes (texts : ImageTextsModel) : Type 0 where
  pub image_type : AreBytes texts.image_type
  pub arch : AreBytes texts.arch
  pub os : AreBytes texts.os
  pub compression : AreBytes texts.compression

-- A configuration whose own texts can be values of properties.
pub record HasTextValues (configuration : ConfigurationSpecModel) : Type 0 where
  pub description : IfSome configuration.description IsText
  pub compatible : AllByRecursion IsText configuration.compatible
