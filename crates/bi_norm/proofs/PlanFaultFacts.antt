use Rattle.std.proofs.Common.{◌≡◌, ℕ, List, [], ◌∷◌, Some, None, ◌++◌, replicate, codes, refl}
use Rattle.std.specs.Borrow.{Bor}
use Rattle.bi_blob.proofs.CheckDecisions.{lacks_byte, is_new, is_property_name, is_child_name, first_failing}
use Rattle.bi_fit.specs.declared.form.Form.TheVariants.{Embedded}
use Rattle.bi_norm.specs.declared.fit_building.ImageSpec.{ImageSpec}
use Rattle.bi_norm.specs.FitBuilding.{PlanSpecModel, BuildCheck, HasFewConfigurations, HasFields, HasNewName, ListsImages}
use Rattle.bi_norm.specs.FitBuilding.{HasNewConfigurationName, HasDefault, HasOwnTexts, build_fault, build_checks, IsBuildFaultAs}
use Rattle.bi_norm.specs.FitBuilding.{plain_plan}
use Rattle.bi_norm.specs.KnownBuildFaults.{head_like, kernel_like, narrow_limits, description_with_zero}
use Rattle.bi_norm.specs.KnownPlans.{only_scripts, configuration_with, plan_with, plan_with_texts, firmware_texts, two_configurations}
use Rattle.bi_norm.specs.KnownPlans.{plan_with_descriptions, bad_text, described_configuration, compatible_configuration}
use Rattle.bi_norm.specs.KnownPlans.{two_kernels, BuildPlansAreKnown, PlanFaultsAreKnown}
use Rattle.bi_norm.proofs.BuildTests.{build_test, first_build_fault}

-- Small plans are those of known trees, or have known faults, and if two checks fail, the first gives the fault.

pub build_plans_are_known : BuildPlansAreKnown
build_plans_are_known any =
    record {
      first_default = refl;
      given_default = refl;
      by_types = refl;
      first_texts = refl;
      second_texts = refl;
      first_description = refl;
      second_description = refl;
    }

-- The first check that the test finds to fail gives the fault.
plan_fails : (any : Bor (List ℕ)) (description : List ℕ) (plan : PlanSpecModel) (images : List ImageSpec) (check : BuildCheck) →
    first_failing (build_test narrow_limits Embedded (head_like any description) plan images) (build_checks plan images) ≡ Some check →
    IsBuildFaultAs narrow_limits Embedded (head_like any description) plan images (build_fault narrow_limits plan check)
plan_fails any description plan images check = first_build_fault narrow_limits Embedded (head_like any description) plan images check

pub plan_faults_are_known : PlanFaultsAreKnown
unfolding build_test first_failing lacks_byte is_new is_child_name is_property_name
plan_faults_are_known any = (
  record {
    many_configurations = plan_fails any (codes "k") (plan_with (replicate 65 (configuration_with (codes "c") []))) []
        HasFewConfigurations refl;
    text_with_zero = plan_fails any (codes "k")
        (plan_with_texts (None ∷ Some (record firmware_texts { arch = codes "x" ++ 0 ∷ [] }) ∷ [])) (two_kernels any)
        (HasFields _) refl;
    name_after_texts = plan_fails any (codes "k") (plan_with_texts (Some firmware_texts ∷ []))
        (record (kernel_like any (codes "a")) { image_type = 4; os = 200 } ∷ kernel_like any [] ∷ []) (HasFields _) refl;
    empty_name = plan_fails any (codes "k") (plan_with (configuration_with [] [] ∷ [])) [] (ListsImages _) refl;
    name_with_slash = plan_fails any (codes "k")
        (plan_with (configuration_with (codes "c") [] ∷ configuration_with (codes "c/d") [] ∷ [])) [] (ListsImages _) refl;
    missing_image = plan_fails any (codes "k") (plan_with (configuration_with (codes "d") (codes "a" ∷ codes "c" ∷ []) ∷ []))
        (two_kernels any) (ListsImages _) refl;
    missing_script = plan_fails any (codes "k")
        (plan_with (record (configuration_with (codes "d") []) { lists = only_scripts (codes "c" ∷ []) } ∷ [])) (two_kernels any)
        (ListsImages _) refl;
    same_names = plan_fails any (codes "k") (plan_with (configuration_with (codes "d") [] ∷ two_configurations)) []
        (HasNewConfigurationName _) refl;
    other_default = plan_fails any (codes "k") (record (plan_with two_configurations) { default = Some (codes "a") })
        (two_kernels any) HasDefault refl;
    default_of_none = plan_fails any (codes "k") (record plain_plan { default = Some (codes "conf-1") }) (two_kernels any)
        HasDefault refl;
    image_description = plan_fails any (codes "k") (plan_with_descriptions (None ∷ Some bad_text ∷ [])) (two_kernels any)
        (HasOwnTexts _) refl;
    configuration_description = plan_fails any (codes "k")
        (plan_with (described_configuration (codes "c") (codes "x") ∷ described_configuration (codes "d") bad_text ∷ []))
        (two_kernels any) (HasOwnTexts _) refl;
    compatible = plan_fails any (codes "k")
        (plan_with (compatible_configuration (codes "c") []
        ∷ compatible_configuration (codes "d") (codes "x" ∷ bad_text ∷ []) ∷ [])) (two_kernels any) (HasOwnTexts _) refl;
  },
  record {
    count_before_description = plan_fails any description_with_zero
        (plan_with (replicate 65 (configuration_with (codes "c") []))) [] HasFewConfigurations refl;
    image_before_configuration = plan_fails any (codes "k") (plan_with (configuration_with [] [] ∷ []))
        (kernel_like any (codes "a") ∷ kernel_like any (codes "a") ∷ []) (HasNewName _) refl;
    missing_before_same_name = plan_fails any (codes "k")
        (plan_with (configuration_with (codes "d") [] ∷ configuration_with (codes "d") (codes "c" ∷ []) ∷ [])) (two_kernels any)
        (ListsImages _) refl;
    same_name_before_next_name = plan_fails any (codes "k")
        (plan_with (configuration_with (codes "d") [] ∷ configuration_with (codes "d") [] ∷ configuration_with [] [] ∷ [])) []
        (HasNewConfigurationName _) refl;
    same_name_before_default = plan_fails any (codes "k")
        (record (plan_with (configuration_with (codes "d") [] ∷ two_configurations)) { default = Some (codes "a") }) []
        (HasNewConfigurationName _) refl;
    default_before_description = plan_fails any (codes "k")
        (record (plan_with two_configurations) { default = Some (codes "a"); descriptions = Some bad_text ∷ [] }) (two_kernels any)
        HasDefault refl;
    image_before_configuration_text = plan_fails any (codes "k")
        (record (plan_with (compatible_configuration (codes "c") (bad_text ∷ []) ∷ [])) { descriptions = None ∷ Some bad_text ∷ [] })
        (two_kernels any) (HasOwnTexts _) refl;
    compatible_before_next_description = plan_fails any (codes "k")
        (plan_with (configuration_with (codes "b") [] ∷ compatible_configuration (codes "c") (bad_text ∷ [])
        ∷ described_configuration (codes "d") bad_text ∷ [])) (two_kernels any) (HasOwnTexts _) refl;
  },
)
