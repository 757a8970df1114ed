use Rattle.std.proofs.Common.{◌≡◌, ◌<◌, ◌≤◌, ◌^◌, ℕ, true, List, [], ◌∷◌, ◌++◌, map, length, Option, None, Some, refl, sym, ap, subst}
use Rattle.std.proofs.Common.{◌∙◌, inl, inr, append-nil, rules}
use Rattle.std.specs.Prelude.{◌||◌, IfSome}
use Rattle.std.specs.List.{AllByRecursion}
use Rattle.std.proofs.lemmas.Slice.Eq.{bytes_eq-Decides}
use Rattle.bi_base.specs.declared.fault.Error.{Error}
use Rattle.bi_base.specs.declared.fault.Error.TheVariants.{Refused, OutOfMemory, ReadFailed, WriteFailed}
use Rattle.bi_base.specs.declared.fault.Fault.{Fault}
use Rattle.bi_base.specs.Checks.{IsFirstFault, HasNoFault}
use Rattle.bi_base.specs.Errors.{IsFaultOrNoMemory}
use Rattle.bi_base.specs.Limits.{Limits}
use Rattle.bi_base.proofs.FirstFault.{IsFirstFault-front, IsFirstFault-after}
use Rattle.bi_base.proofs.ListMembers.{each-append}
use Rattle.bi_blob.specs.Layout.{is_among}
use Rattle.bi_blob.specs.Tree.{HasNoZero, AreDistinct}
use Rattle.bi_hash.specs.declared.algo.Algo.{Algo}
use Rattle.bi_fit.specs.declared.form.Form.{Form}
use Rattle.bi_fit.specs.declared.building.Head.{Head}
use Rattle.bi_fit.specs.Building.{ImageSpecModel, ConfigurationSpecModel, IsText, IsImageSpec, CanBeBuilt, IsConfigurationSpec, IsPlanFor}
use Rattle.bi_fit.specs.Building.{names_of_images, configuration_names}
use Rattle.bi_fit.specs.NamedImages.{head_model}
use Rattle.bi_fit.proofs.BuiltConfigurations.{by_types_is_plan}
use Rattle.bi_norm.specs.declared.fit_building.ImageSpec.{ImageSpec}
use Rattle.bi_norm.specs.FitBuilding.{PlanSpecModel, GivenImage, planned_images, spec_model, spec_models, whole_plan, plan_of_tree}
use Rattle.bi_norm.specs.FitBuilding.{own_texts_checks, own_texts_of_image, own_texts_of_configuration}
use Rattle.bi_norm.specs.FitBuilding.{BuildCheck}
use Rattle.bi_norm.specs.FitBuilding.{HasDefault, HasKnownDefault, BuildPasses, build_fault, spec_checks, configuration_checks}
use Rattle.bi_norm.specs.FitBuilding.{names_of_specs, early_checks, first_image_checks, IsBuildFaultAs, IsBuildErrorAs}
use Rattle.bi_norm.specs.BuildChecks.{AllPass, IsFirstFailure, IsImagesError, IsPlainImage, IsPlainConfiguration, HasTextValues}
use Rattle.bi_norm.proofs.ImageChecks.{names_of_given, names-given_images}

-- What passes the checks can be built, and an error of some checks is one of building, after the checks before them.

-- The names of the images to be built are those of their specifications.
names-spec_model : (given : List GivenImage) → names_of_images (map spec_model given) ≡ names_of_given given
names-spec_model [] = refl
names-spec_model (image ∷ later) = ap (λ l. image.spec.name.now ∷ l) (names-spec_model later)

pub names-spec_models : (plan : PlanSpecModel) (images : List ImageSpec) → names_of_images (spec_models plan images) ≡ names_of_specs images
names-spec_models plan images =
    names-spec_model (planned_images plan images) ∙ names-given_images plan.texts plan.descriptions images

-- Images that can be built without their own descriptions can be built with them, if these are texts,
each_can_be_built : (images : List ImageSpecModel) → AllByRecursion IsPlainImage images →
    AllByRecursion (λ image. IfSome image.description IsText) images → AllByRecursion IsImageSpec images
each_can_be_built [] plain texts = tt
each_can_be_built (image ∷ later) plain texts = (
  record {
    is_name = plain.0.is_name;
    name_bytes = plain.0.name_bytes;
    description = texts.0;
    image_type = plain.0.image_type;
    arch = plain.0.arch;
    os = plain.0.os;
    compression = plain.0.compression;
    payload_bytes = plain.0.payload_bytes;
  },
  each_can_be_built later plain.1 texts.1,
)

-- and so can configurations.
each_configuration : (image_names : List (List ℕ)) (configurations : List ConfigurationSpecModel) →
    AllByRecursion (IsPlainConfiguration image_names) configurations → AllByRecursion HasTextValues configurations →
    AllByRecursion (IsConfigurationSpec image_names) configurations
each_configuration image_names [] plain texts = tt
each_configuration image_names (configuration ∷ later) plain texts = (
  record {
    is_name = plain.0.is_name;
    name_bytes = plain.0.name_bytes;
    description = texts.0.description;
    compatible = texts.0.compatible;
    of_images = plain.0.of_images;
  },
  each_configuration image_names later plain.1 texts.1,
)

-- Images that pass can be built.
pub can_be_built : (head : Head) (plan : PlanSpecModel) (images : List ImageSpec) → IsText head.description.now →
    AllByRecursion IsPlainImage (spec_models plan images) →
    AllByRecursion (λ image. IfSome image.description IsText) (spec_models plan images) → AreDistinct (names_of_specs images) →
    CanBeBuilt (head_model head) (spec_models plan images)
can_be_built head plan images text plain texts distinct = record {
  description = text;
  each = each_can_be_built (spec_models plan images) plain texts;
  distinct = subst AreDistinct (sym (names-spec_models plan images)) distinct;
}

-- The default is one of the configurations, even if it is only the first by default.
default_is : (first : ConfigurationSpecModel) (later : List ConfigurationSpecModel) (default : Option (List ℕ)) (algorithms : List Algo)
    (images : List ImageSpecModel) → HasKnownDefault (first ∷ later) default →
    is_among (whole_plan (first ∷ later) default algorithms images).default (configuration_names (first ∷ later)) ≡ true
default_is first later None algorithms images known =
    ap (λ b. b || is_among first.name (configuration_names later)) ((bytes_eq-Decides first.name first.name).1 refl)
default_is first later (Some name) algorithms images known = known

-- A plan that passes is one for the images.
whole_is_plan : (configurations : List ConfigurationSpecModel) (default : Option (List ℕ)) (algorithms : List Algo)
    (images : List ImageSpecModel) → AllByRecursion (IsConfigurationSpec (names_of_images images)) configurations →
    AreDistinct (configuration_names configurations) → HasKnownDefault configurations default → length algorithms < 2 ^ 64 →
    IsPlanFor (names_of_images images) (whole_plan configurations default algorithms images)
whole_is_plan [] default algorithms images each distinct known few = by_types_is_plan algorithms images few
whole_is_plan (first ∷ later) default algorithms images each distinct known few =
    record { each = each; distinct = distinct; default = default_is first later default algorithms images known; few = few }

pub plan_is : (plan : PlanSpecModel) (images : List ImageSpec) →
    AllByRecursion (IsPlainConfiguration (names_of_specs images)) plan.configurations → AllByRecursion HasTextValues plan.configurations →
    AreDistinct (configuration_names plan.configurations) → HasKnownDefault plan.configurations plan.default →
    length plan.algorithms < 2 ^ 64 → IsPlanFor (names_of_images (spec_models plan images)) (plan_of_tree plan images)
plan_is plan images plain texts distinct known few =
    let each = each_configuration (names_of_specs images) plan.configurations plain texts in
    search (rules, whole_is_plan, names-spec_models)

-- Checks of the first image pass where all checks of images do.
pub first_of_images : (limits : Limits) (form : Form) (head : Head) (plan : PlanSpecModel) (all : List ImageSpec) (given : List GivenImage)
    (later : List BuildCheck) → HasNoFault (BuildPasses limits form head plan all) (spec_checks 0 [] given ++ later) →
    HasNoFault (BuildPasses limits form head plan all) (first_image_checks given)
first_of_images limits form head plan all [] later fine = tt
first_of_images limits form head plan all (image ∷ images) later fine = (fine.0, (fine.1.0, tt))

module _ (limits : Limits) (form : Form) (head : Head) (plan : PlanSpecModel) (images : List ImageSpec) where
  abbrev Passes : BuildCheck → Type 0
  Passes = BuildPasses limits form head plan images

  abbrev of_images : List BuildCheck
  of_images = spec_checks 0 [] (planned_images plan images)

  abbrev of_configurations : List BuildCheck
  of_configurations = configuration_checks (names_of_specs images) 0 [] plan.configurations

  abbrev of_image_texts : List BuildCheck
  of_image_texts = own_texts_checks 0 (map own_texts_of_image (spec_models plan images))

  abbrev of_configuration_texts : List BuildCheck
  of_configuration_texts = own_texts_checks 0 (map own_texts_of_configuration plan.configurations)

  abbrev from_default : List BuildCheck
  from_default = HasDefault ∷ (of_image_texts ++ of_configuration_texts)

  -- All pass.
  pub early_pass : length images ≤ limits.file → length plan.configurations ≤ limits.file → HasNoZero head.description.now →
      AllPass of_images → AllPass of_configurations → HasKnownDefault plan.configurations plan.default →
      AllPass of_image_texts → AllPass of_configuration_texts → HasNoFault Passes (early_checks plan images)
  early_pass few few_configurations text image_pass configuration_pass known texts_pass configuration_texts_pass = (
    few,
    (
      few_configurations,
      (
        text,
        each-append Passes of_images (of_configurations ++ from_default) (image_pass limits form head plan images)
            (each-append Passes of_configurations from_default (configuration_pass limits form head plan images) (
              known,
              each-append Passes of_image_texts of_configuration_texts (texts_pass limits form head plan images)
                  (configuration_texts_pass limits form head plan images),
            )),
      ),
    ),
  )

  -- A fault of images, configurations, the default or texts is one of building, after the checks before them.
  module _ (few : length images ≤ limits.file) (few_configurations : length plan.configurations ≤ limits.file)
      (text : HasNoZero head.description.now) where
    later_fault : (fault : Fault) →
        IsFirstFault Passes (build_fault limits plan) (of_images ++ (of_configurations ++ from_default)) fault →
        IsBuildFaultAs limits form head plan images fault
    later_fault fault first = search (rules, IsFirstFault-front)

    -- An error of the checks of images.
    pub image_error : (error : Error) → IsImagesError (planned_images plan images) error →
        IsBuildErrorAs limits form head plan images error
    image_error (Refused fault) is = search (rules, later_fault, IsFirstFault-front)
    image_error OutOfMemory is = (few, (few_configurations, (text, is limits form head plan images)))
    image_error ReadFailed is = is
    image_error WriteFailed is = is

    module _ (pass : AllPass of_images) where
      -- An error of those of configurations.
      pub configuration_error : (error : Error) → IsFaultOrNoMemory (IsFirstFailure of_configurations) error →
          IsBuildErrorAs limits form head plan images error
      configuration_error (Refused fault) is = search (rules, later_fault, IsFirstFault-after, IsFirstFault-front)
      configuration_error OutOfMemory is = (
        few,
        (
          few_configurations,
          (
            text,
            first_of_images limits form head plan images (planned_images plan images) []
                (subst (HasNoFault Passes) (sym (append-nil of_images)) (pass limits form head plan images)),
          ),
        ),
      )
      configuration_error ReadFailed is = is
      configuration_error WriteFailed is = is

      module _ (configuration_pass : AllPass of_configurations) where
        -- A fault of the checks from that of the default on.
        last_fault : (fault : Fault) → IsFirstFault Passes (build_fault limits plan) from_default fault →
            IsBuildFaultAs limits form head plan images fault
        last_fault fault first =
            later_fault fault
            (IsFirstFault-after Passes (build_fault limits plan) of_images (of_configurations ++ from_default) fault
            (pass limits form head plan images)
            (IsFirstFault-after Passes (build_fault limits plan) of_configurations from_default fault
            (configuration_pass limits form head plan images) first))

        -- The fault of the default.
        pub default_fault : (fault : Fault) → ¬ (HasKnownDefault plan.configurations plan.default) →
            fault ≡ build_fault limits plan HasDefault → IsBuildFaultAs limits form head plan images fault
        default_fault fault fails is = last_fault fault (inl (fails, is))

        module _ (known : HasKnownDefault plan.configurations plan.default) where
          -- The fault of the descriptions of images.
          pub image_text_fault : (fault : Fault) → IsFirstFailure of_image_texts fault → IsBuildFaultAs limits form head plan images fault
          image_text_fault fault first =
              last_fault fault (inr (
                known,
                IsFirstFault-front Passes (build_fault limits plan) of_image_texts of_configuration_texts fault
                    (first limits form head plan images),
              ))

          -- The fault of the texts of configurations.
          pub configuration_text_fault : (fault : Fault) → AllPass of_image_texts → IsFirstFailure of_configuration_texts fault →
              IsBuildFaultAs limits form head plan images fault
          configuration_text_fault fault texts_pass first =
              last_fault fault (inr (
                known,
                IsFirstFault-after Passes (build_fault limits plan) of_image_texts of_configuration_texts fault
                    (texts_pass limits form head plan images) (first limits form head plan images),
              ))
