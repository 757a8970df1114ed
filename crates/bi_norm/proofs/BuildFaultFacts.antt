use Rattle.std.proofs.Common.{◌≡◌, ℕ, List, Some, rules}
use Rattle.std.specs.Borrow.{Bor}
use Rattle.bi_blob.proofs.CheckDecisions.{lacks_byte, is_new, is_property_name, is_child_name, first_failing}
use Rattle.bi_fit.specs.declared.form.Form.TheVariants.{Embedded}
use Rattle.bi_norm.specs.declared.fit_building.ImageSpec.{ImageSpec}
use Rattle.bi_norm.specs.FitBuilding.{BuildCheck}
use Rattle.bi_norm.specs.FitBuilding.{build_fault, build_checks, IsBuildFault, plain_plan}
use Rattle.bi_norm.specs.KnownBuildFaults.{head_like, narrow_limits, BuildFaultsAreKnown}
use Rattle.bi_norm.proofs.BuildTests.{build_test, first_build_fault}

-- Small trees to be built in which one check fails have known faults, and if two checks fail, the first gives the fault.

-- The first check that the test finds to fail gives the fault.
check_fails : (any : Bor (List ℕ)) (description : List ℕ) (images : List ImageSpec) (check : BuildCheck) →
    first_failing (build_test narrow_limits Embedded (head_like any description) plain_plan images) (build_checks plain_plan images)
    ≡ Some check →
    IsBuildFault narrow_limits Embedded (head_like any description) images (build_fault narrow_limits plain_plan check)
check_fails any description images check = first_build_fault narrow_limits Embedded (head_like any description) plain_plan images check

pub build_faults_are_known : BuildFaultsAreKnown
unfolding build_test first_failing lacks_byte is_new is_child_name is_property_name
build_faults_are_known any = search (rules, check_fails)
