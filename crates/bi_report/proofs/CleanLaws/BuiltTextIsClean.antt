use Rattle.std.proofs.Common.{◌≡◌, ◌↔◌, ◌⊎◌, inl, inr, ℕ, ◌<◌, ◌≤◌, ◌||◌, List, []}
use Rattle.std.proofs.Common.{◌∷◌, ◌++◌, Option, Some, None, length, map, refl, sym, ap}
use Rattle.std.proofs.Common.{subst, arith}
use Rattle.std.proofs.lemmas.Slice.Eq.{bytes_eq-Decides}
use Rattle.bi_base.specs.declared.fault.Error.{Error}
use Rattle.bi_base.specs.declared.fault.Error.TheVariants.{OutOfMemory, ReadFailed, Refused, WriteFailed}
use Rattle.bi_base.specs.Checks.{HasNoFault}
use Rattle.bi_base.specs.Limits.{Limits}
use Rattle.bi_base.proofs.ListMembers.{each-back, each-front}
use Rattle.bi_blob.specs.Layout.{is_among}
use Rattle.bi_hash.specs.declared.algo.Algo.{Algo}
use Rattle.bi_common.specs.PayloadBounds.{payloads_length}
use Rattle.bi_coverage.specs.Signatures.{all_needed_length}
use Rattle.bi_fit.specs.declared.building.Head.{Head}
use Rattle.bi_fit.specs.declared.form.Form.{Form}
use Rattle.bi_fit.specs.Building.{ConfigurationSpecModel, ImageSpecModel, configuration_names}
use Rattle.bi_fit.specs.File.{FitMeans}
use Rattle.bi_fit.specs.ImageTree.{ImageTree}
use Rattle.bi_fit.specs.NamedImages.{head_model}
use Rattle.bi_fit.specs.Text.{fit_text}
use Rattle.bi_fit.proofs.FileTrees.{is_image_tree}
use Rattle.bi_fit.proofs.Meanings.{one_fit_meaning}
use Rattle.bi_norm.specs.declared.fit_building.ImageSpec.{ImageSpec}
use Rattle.bi_norm.specs.FitBuilding.{BuildCheck, BuildPasses, HasDefault, HasKnownDefault, PlanSpecModel}
use Rattle.bi_norm.specs.FitBuilding.{FitsLimit, configuration_checks, early_checks}
use Rattle.bi_norm.specs.FitBuilding.{planned_images, names_of_specs, own_texts_checks, own_texts_of_image, own_texts_of_configuration}
use Rattle.bi_norm.specs.FitBuilding.{plan_of_tree}
use Rattle.bi_norm.specs.FitBuilding.{spec_checks, spec_models, tree_of_images, whole_plan}
use Rattle.bi_norm.specs.Meaning.{Meaning, Means, OfFit, OfLegacy}
use Rattle.bi_report.specs.declared.check.Allowed.{Allowed}
use Rattle.bi_report.specs.CheckedFiles.{IsCheckError}
use Rattle.bi_report.specs.CleanFiles.{BuiltTextIsClean, IsBuiltClean, IsClean, IsCleanTree, ProtectImages}
use Rattle.bi_report.specs.SignedTrees.{IsOverCheckBound}
use Rattle.bi_report.proofs.CleanLaws.BuiltIsClean.{IsDefaultOf, built_tree_is_clean, clean_is_protected, needs_no_paths}
use Rattle.bi_report.proofs.CleanLaws.BuiltIsClean.{none_is_signed}
use Rattle.bi_report.proofs.CleanLaws.TextEnds.{payloads_fit, text_is_clean}

-- The text of an image tree that is built is clean if and only if the tree is, and its payloads are within the payload bound.

-- The default of a plan that passes the checks is one of its configurations.
default_is_there : (configurations : List ConfigurationSpecModel) (default : Option (List ℕ)) (algorithms : List Algo)
    (images : List ImageSpecModel) → HasKnownDefault configurations default →
    IsDefaultOf (whole_plan configurations default algorithms images)
default_is_there [] default algorithms images known = refl
default_is_there (first ∷ later) None algorithms images known =
    ap (λ b. b || is_among first.name (configuration_names later)) ((bytes_eq-Decides first.name first.name).1 refl)
default_is_there (first ∷ later) (Some name) algorithms images known = known

-- The algorithms of the tree are those of the plan.
same_algorithms : (configurations : List ConfigurationSpecModel) (default : Option (List ℕ)) (algorithms : List Algo)
    (images : List ImageSpecModel) → (whole_plan configurations default algorithms images).algorithms ≡ algorithms
same_algorithms [] default algorithms images = refl
same_algorithms (first ∷ later) default algorithms images = refl

-- It has no images only if none are given.
none_given : (plan : PlanSpecModel) (images : List ImageSpec) → spec_models plan images ≡ [] → images ≡ []
none_given plan [] is = refl
none_given plan (spec ∷ later) is = absurd cc

module _ (limits : Limits) (form : Form) (head : Head) (plan : PlanSpecModel) (images : List ImageSpec) where
  abbrev Passes : BuildCheck → Type 0
  Passes = BuildPasses limits form head plan images

  -- The default passes its check.
  default_passes : HasNoFault Passes (early_checks plan images) → HasKnownDefault plan.configurations plan.default
  default_passes fine =
      (each-back Passes (configuration_checks (names_of_specs images) 0 [] plan.configurations) (HasDefault ∷ of_texts)
      (each-back Passes (spec_checks 0 [] (planned_images plan images))
      (configuration_checks (names_of_specs images) 0 [] plan.configurations ++ HasDefault ∷ of_texts) fine.1.1.1)).0
    where
      of_texts : List BuildCheck
      of_texts = own_texts_checks 0 (map own_texts_of_image (spec_models plan images))
          ++ own_texts_checks 0 (map own_texts_of_configuration plan.configurations)

  -- Images are protected by the plan of the tree if and only if they are by the plan that is given.
  module _ (allowed : Allowed) where
    abbrev is_same : (plan_of_tree plan images).algorithms ≡ plan.algorithms
    is_same = same_algorithms plan.configurations plan.default plan.algorithms (spec_models plan images)

    given_protected : (spec_models plan images ≡ []) ⊎ ProtectImages allowed (plan_of_tree plan images).algorithms →
        (images ≡ []) ⊎ ProtectImages allowed plan.algorithms
    given_protected (inl empty) = inl (none_given plan images empty)
    given_protected (inr protect) = inr (subst (ProtectImages allowed) is_same protect)

    tree_protected : (images ≡ []) ⊎ ProtectImages allowed plan.algorithms →
        (spec_models plan images ≡ []) ⊎ ProtectImages allowed (plan_of_tree plan images).algorithms
    tree_protected (inl empty) = inl (ap (spec_models plan) empty)
    tree_protected (inr protect) = inr (subst (ProtectImages allowed) (sym is_same) protect)

-- Checking the text of an image tree that needs no paths has no error but that memory runs out.
module _ (bounds : Limits) (form : Form) (tree : ImageTree) (means : FitMeans bounds (fit_text form tree) tree)
    (fits : length (fit_text form tree) ≤ bounds.file) (no_paths : all_needed_length tree ≡ 0) where
  within_bound : (meaning : Meaning) → Means bounds (fit_text form tree) meaning → ¬ (IsOverCheckBound bounds meaning)
  within_bound (OfLegacy image) is (inl over) = over
  within_bound (OfLegacy image) is (inr over) = over
  within_bound (OfFit other) is (inr over) =
      let same : other ≡ tree = one_fit_meaning (fit_text form tree) other tree is.is_file means.is_file in
      let long : bounds.file < all_needed_length tree
      = subst (λ (found : ImageTree). bounds.file < all_needed_length found) same over in
      omega (arith, long, no_paths)
  within_bound (OfFit other) is (inl over) =
      let same : other ≡ tree = one_fit_meaning (fit_text form tree) other tree is.is_file means.is_file in
      let long : bounds.file < payloads_length tree.payloads
      = subst (λ (found : ImageTree). bounds.file < payloads_length found.payloads) same over in
      let short : payloads_length tree.payloads ≤ length (fit_text form tree)
      = payloads_fit form tree (is_image_tree (fit_text form tree) tree means.is_file) in
      omega (arith, long, short, fits)

  no_refusal : (error : Error) → IsCheckError bounds (fit_text form tree) error → error ≡ OutOfMemory
  no_refusal (Refused fault) (inl read) = absurd (read.1 (OfFit tree) means)
  no_refusal (Refused fault) (inr large) = absurd (within_bound large.0.meaning large.0.means large.0.is_over)
  no_refusal OutOfMemory is = refl
  no_refusal ReadFailed is = absurd is
  no_refusal WriteFailed is = absurd is

pub built_text_is_clean : BuiltTextIsClean
built_text_is_clean allowed limits bounds form head plan images text is deep fits short =
    subst (IsBuiltClean allowed bounds images plan.algorithms) (sym is.is_text)
    (record {
      error = no_refusal bounds form tree means fits_text
          (needs_no_paths (head_model head) (plan_of_tree plan images) (spec_models plan images));
      is_clean = (
        λ clean.
            let both = clean_is_protected allowed (head_model head) (plan_of_tree plan images) (spec_models plan images)
            (of_tree.0 clean) in
            (both.0, given_protected limits form head plan images allowed both.1),
        λ both. of_tree.1
            (built_tree_is_clean allowed (head_model head) (plan_of_tree plan images) (spec_models plan images) is.configurations
            (default_is_there plan.configurations plan.default plan.algorithms (spec_models plan images)
            (default_passes limits form head plan images
            (each-front (BuildPasses limits form head plan images) (early_checks plan images) (FitsLimit ∷ []) is.no_fault)))
            (both.0, tree_protected limits form head plan images allowed both.1)),
      );
    })
  where
    tree : ImageTree
    tree = tree_of_images head plan images

    read : FitMeans (record { file = limits.file; depth = 4 }) text tree
    read = (is.accepted (record { file = limits.file; depth = 4 }) refl (omega arith)).means

    means_text : FitMeans bounds text tree
    means_text = record {
      is_file = read.is_file;
      within = record { short = fits; shallow = omega (arith, deep, read.within.shallow) };
    }

    means : FitMeans bounds (fit_text form tree) tree
    means = subst (λ bytes. FitMeans bounds bytes tree) is.is_text means_text

    fits_text : length (fit_text form tree) ≤ bounds.file
    fits_text = subst (λ bytes. length bytes ≤ bounds.file) is.is_text fits

    of_tree : IsClean allowed bounds (fit_text form tree) ↔ IsCleanTree allowed tree
    of_tree = text_is_clean allowed bounds form tree means (omega (arith, fits_text, short))
        (none_is_signed (head_model head) (plan_of_tree plan images) (spec_models plan images))
