use Rattle.std.proofs.Common.{◌≡◌, ℕ, Bool, true, not, List, Option, None, Some, IsSome, length, refl, rules}
use Rattle.std.specs.Prelude.{◌==◌, ◌&&◌, nat_le, IsTrue}
use Rattle.std.specs.Bool.{Decides}
use Rattle.std.specs.List.{AllByRecursion, list_all}
use Rattle.std.specs.Option.{is_some}
use Rattle.std.proofs.lemmas.Bool.Decides.{Decides-not}
use Rattle.bi_base.specs.Limits.{Limits}
use Rattle.bi_blob.specs.Layout.{is_among}
use Rattle.bi_blob.specs.Tree.{HasNoZero}
use Rattle.bi_blob.proofs.CheckDecisions.{le_decides, eq_decides, both_decide, all_decide, lacks_byte, lacks_byte_decides, is_new}
use Rattle.bi_blob.proofs.CheckDecisions.{is_new_decides}
use Rattle.bi_blob.proofs.CheckDecisions.{is_child_name, is_child_name_decides, first_failing, fault_by_test}
use Rattle.bi_fit.specs.declared.form.Form.{Form}
use Rattle.bi_fit.specs.declared.key.Key.TheVariants.{Kernel, Fdt, Ramdisk, Firmware, Loadables, Script}
use Rattle.bi_fit.specs.declared.building.Head.{Head}
use Rattle.bi_fit.specs.Building.{ConfigurationSpecModel, configuration_names}
use Rattle.bi_fit.specs.Text.{fit_text}
use Rattle.bi_legacy.specs.Codes.{os_names, arch_names, type_names, compression_names, name_of_code}
use Rattle.bi_norm.specs.declared.fit_building.ImageSpec.{ImageSpec}
use Rattle.bi_norm.specs.FitBuilding.{PlanSpecModel, ImageTextsModel, BuildCheck, HasFewImages, HasFewConfigurations, HasTextDescription}
use Rattle.bi_norm.specs.FitBuilding.{HasFields, HasCodeNames, HasNewName, ListsImages, HasNewConfigurationName, HasDefault, HasOwnTexts}
use Rattle.bi_norm.specs.FitBuilding.{FitsLimit}
use Rattle.bi_norm.specs.FitBuilding.{AreTexts, HasTypeOrTexts, HasNames, HasNamesIfNeeded, ListsOnly, HasKnownDefault, BuildPasses}
use Rattle.bi_norm.specs.FitBuilding.{tree_of_images, build_fault, build_checks, IsBuildFaultAs}

-- A test decides whether each check of what is to be built passes.

-- Whether there is a value.
has_value_decides : (option : Option (List ℕ)) → Decides (is_some option) (IsSome option)
has_value_decides option = ((λ e. e), (λ some. some))

-- Whether each code of an image has a name.
abbrev has_names : ImageSpec → Bool
has_names image =
    (is_some (name_of_code arch_names image.arch) && is_some (name_of_code os_names image.os))
    && (is_some (name_of_code type_names image.image_type) && is_some (name_of_code compression_names image.compression))

has_names_decides : (image : ImageSpec) → Decides (has_names image) (HasNames image)
has_names_decides image = search (rules, both_decide, has_value_decides)

-- The same, if no texts are given.
abbrev has_names_if_needed : ImageSpec → Option ImageTextsModel → Bool
has_names_if_needed image None = has_names image
has_names_if_needed image (Some texts) = true

has_names_if_needed_decides : (image : ImageSpec) (texts : Option ImageTextsModel) →
    Decides (has_names_if_needed image texts) (HasNamesIfNeeded image texts)
has_names_if_needed_decides image None = has_names_decides image
has_names_if_needed_decides image (Some texts) = ((λ e. tt), (λ some. refl))

-- Whether no text has a zero byte.
abbrev are_texts : ImageTextsModel → Bool
are_texts texts =
    (lacks_byte 0 texts.image_type && lacks_byte 0 texts.arch) && (lacks_byte 0 texts.os && lacks_byte 0 texts.compression)

are_texts_decides : (texts : ImageTextsModel) → Decides (are_texts texts) (AreTexts texts)
are_texts_decides texts = search (rules, both_decide, lacks_byte_decides)

-- Whether the texts of an image have no zero byte, or, if it has none, its type is not multi.
abbrev has_type_or_texts : ImageSpec → Option ImageTextsModel → Bool
has_type_or_texts image None = not (image.image_type == 4)
has_type_or_texts image (Some texts) = are_texts texts

has_type_or_texts_decides : (image : ImageSpec) (texts : Option ImageTextsModel) →
    Decides (has_type_or_texts image texts) (HasTypeOrTexts image texts)
has_type_or_texts_decides image None = Decides-not _ (eq_decides image.image_type 4)
has_type_or_texts_decides image (Some texts) = are_texts_decides texts

-- Whether each of some names is among others.
abbrev are_among : List (List ℕ) → List (List ℕ) → Bool
are_among others names = list_all (λ name. is_among name others) names

are_among_decides : (others names : List (List ℕ)) →
    Decides (are_among others names) (AllByRecursion (λ name. IsTrue (is_among name others)) names)
are_among_decides others names =
    all_decide (λ name. IsTrue (is_among name others)) (λ name. is_among name others) (λ name. ((λ e. e), (λ is. is))) names

-- Whether a configuration lists only these names.
abbrev lists_only : List (List ℕ) → ConfigurationSpecModel → Bool
lists_only others configuration =
    (are_among others (configuration.lists Kernel)
    && (are_among others (configuration.lists Fdt) && are_among others (configuration.lists Ramdisk)))
    && (are_among others (configuration.lists Firmware)
    && (are_among others (configuration.lists Loadables) && are_among others (configuration.lists Script)))

lists_only_decides : (others : List (List ℕ)) (configuration : ConfigurationSpecModel) →
    Decides (lists_only others configuration) (ListsOnly others configuration)
lists_only_decides others configuration = search (rules, both_decide, are_among_decides)

-- Whether the default, if it is given, is one of these configurations.
abbrev has_known_default : List ConfigurationSpecModel → Option (List ℕ) → Bool
has_known_default configurations None = true
has_known_default configurations (Some name) = is_among name (configuration_names configurations)

has_known_default_decides : (configurations : List ConfigurationSpecModel) (default : Option (List ℕ)) →
    Decides (has_known_default configurations default) (HasKnownDefault configurations default)
has_known_default_decides configurations None = ((λ e. tt), (λ known. refl))
has_known_default_decides configurations (Some name) = ((λ e. e), (λ known. known))

-- Whether a check passes.
unfoldable pub build_test : Limits → Form → Head → PlanSpecModel → List ImageSpec → BuildCheck → Bool
build_test limits form head plan images HasFewImages = nat_le (length images) limits.file
build_test limits form head plan images HasFewConfigurations = nat_le (length plan.configurations) limits.file
build_test limits form head plan images HasTextDescription = lacks_byte 0 head.description.now
build_test limits form head plan images (HasFields at) =
    is_child_name at.image.spec.name.now && has_type_or_texts at.image.spec at.image.texts
build_test limits form head plan images (HasCodeNames at) = has_names_if_needed at.image.spec at.image.texts
build_test limits form head plan images (HasNewName at) = is_new at.image.spec.name.now at.earlier
build_test limits form head plan images (ListsImages at) =
    is_child_name at.configuration.name && lists_only at.image_names at.configuration
build_test limits form head plan images (HasNewConfigurationName at) = is_new at.configuration.name at.earlier
build_test limits form head plan images HasDefault = has_known_default plan.configurations plan.default
build_test limits form head plan images (HasOwnTexts at) = list_all (lacks_byte 0) at.texts
build_test limits form head plan images FitsLimit = nat_le (length (fit_text form (tree_of_images head plan images))) limits.file

pub build_test_decides : (limits : Limits) (form : Form) (head : Head) (plan : PlanSpecModel) (images : List ImageSpec)
    (check : BuildCheck) →
    Decides (build_test limits form head plan images check) (BuildPasses limits form head plan images check)
unfolding build_test
build_test_decides limits form head plan images HasFewImages = le_decides (length images) limits.file
build_test_decides limits form head plan images HasFewConfigurations = le_decides (length plan.configurations) limits.file
build_test_decides limits form head plan images HasTextDescription = lacks_byte_decides 0 head.description.now
build_test_decides limits form head plan images (HasFields at) =
    both_decide _ _ (is_child_name_decides at.image.spec.name.now) (has_type_or_texts_decides at.image.spec at.image.texts)
build_test_decides limits form head plan images (HasCodeNames at) = has_names_if_needed_decides at.image.spec at.image.texts
build_test_decides limits form head plan images (HasNewName at) = is_new_decides at.image.spec.name.now at.earlier
build_test_decides limits form head plan images (ListsImages at) =
    both_decide _ _ (is_child_name_decides at.configuration.name) (lists_only_decides at.image_names at.configuration)
build_test_decides limits form head plan images (HasNewConfigurationName at) = is_new_decides at.configuration.name at.earlier
build_test_decides limits form head plan images HasDefault = has_known_default_decides plan.configurations plan.default
build_test_decides limits form head plan images (HasOwnTexts at) =
    all_decide HasNoZero (lacks_byte 0) (lacks_byte_decides 0) at.texts
build_test_decides limits form head plan images FitsLimit =
    le_decides (length (fit_text form (tree_of_images head plan images))) limits.file

-- The first check that the test finds to fail gives the fault.
pub first_build_fault : (limits : Limits) (form : Form) (head : Head) (plan : PlanSpecModel) (images : List ImageSpec)
    (check : BuildCheck) → first_failing (build_test limits form head plan images) (build_checks plan images) ≡ Some check →
    IsBuildFaultAs limits form head plan images (build_fault limits plan check)
first_build_fault limits form head plan images check =
    fault_by_test (BuildPasses limits form head plan images) (build_fault limits plan) (build_test limits form head plan images)
    (build_test_decides limits form head plan images) (build_checks plan images) check
