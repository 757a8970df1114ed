use Rattle.std.proofs.Common.{◌≡◌, ◌≤◌, List, [], ◌∷◌, length, sym, subst, arith, ℕ, rules}
use Rattle.bi_base.specs.declared.fault.Error.{Error}
use Rattle.bi_base.specs.declared.fault.Error.TheVariants.{Refused, OutOfMemory, ReadFailed, WriteFailed}
use Rattle.bi_base.specs.Checks.{HasNoFault}
use Rattle.bi_base.specs.Commands.{AppendFailed, WasRefused, SinkFailed}
use Rattle.bi_base.specs.Errors.{IsFaultOrNoMemory}
use Rattle.bi_base.specs.Limits.{Limits}
use Rattle.bi_base.proofs.FirstFault.{IsFirstFault-after}
use Rattle.bi_base.proofs.ListMembers.{each-append, each-front}
use Rattle.bi_blob.specs.Layout.{longest_text}
use Rattle.bi_fit.specs.declared.form.Form.{Form}
use Rattle.bi_fit.specs.declared.building.Head.{Head}
use Rattle.bi_fit.specs.Building.{CanBeBuilt, IsPlanFor, names_of_images}
use Rattle.bi_fit.specs.Documents.{IsTextOfTree, IsTextFault}
use Rattle.bi_fit.specs.Laws.{IsAcceptedAs}
use Rattle.bi_fit.specs.NamedImages.{head_model}
use Rattle.bi_fit.specs.Text.{fit_text}
use Rattle.bi_fit.proofs.BuiltVerdicts.{built_is_accepted, built_has_good_payloads}
use Rattle.bi_fit.proofs.BuiltConfigurations.{built_has_configurations, built_by_types_has_configuration}
use Rattle.bi_norm.specs.declared.fit_building.ImageSpec.{ImageSpec}
use Rattle.bi_norm.specs.FitBuilding.{PlanSpecModel, spec_models, plan_of_tree, tree_of_images, BuildPasses}
use Rattle.bi_norm.specs.FitBuilding.{FitsLimit, early_checks, checks_without_memory}
use Rattle.bi_norm.specs.FitBuilding.{IsBuiltAs, IsBuildErrorAs}
use Rattle.bi_norm.proofs.BuiltChecks.{first_of_images}

-- The text of a tree of images is what is built, and an error of laying it out is one of building it.

-- The checks without memory are the first of all.
without_memory : (limits : Limits) (form : Form) (head : Head) (plan : PlanSpecModel) (images : List ImageSpec) →
    HasNoFault (BuildPasses limits form head plan images) (early_checks plan images) →
    HasNoFault (BuildPasses limits form head plan images) (checks_without_memory plan images)
without_memory limits form head plan images fine = search (rules, first_of_images)

module _ (limits : Limits) (form : Form) (head : Head) (plan : PlanSpecModel) (images : List ImageSpec)
    (fine : HasNoFault (BuildPasses limits form head plan images) (early_checks plan images))
    (can : CanBeBuilt (head_model head) (spec_models plan images))
    (is_plan : IsPlanFor (names_of_images (spec_models plan images)) (plan_of_tree plan images)) (most : limits.file ≤ longest_text) where
  -- The text of the tree is what is built.
  pub text_is_built : (text : List ℕ) → IsTextOfTree limits form (tree_of_images head plan images) text →
      IsBuiltAs limits form head plan images text
  text_is_built text is =
      let short : length (fit_text form (tree_of_images head plan images)) ≤ limits.file = subst
      (λ text. length text ≤ limits.file) is.is_text is.short in
      record {
        no_fault = each-append (BuildPasses limits form head plan images) (early_checks plan images) (FitsLimit ∷ []) fine (short, tt);
        is_text = is.is_text;
        accepted = λ bounds same deep.
            subst (λ text. IsAcceptedAs bounds text (tree_of_images head plan images)) (sym is.is_text)
            (built_is_accepted bounds form (head_model head) (plan_of_tree plan images) (spec_models plan images) can is_plan deep
            (omega (arith, same, short)) (omega (arith, same, most)));
        payloads = built_has_good_payloads (head_model head) (plan_of_tree plan images) (spec_models plan images);
        configurations = built_has_configurations (head_model head) (plan_of_tree plan images) (spec_models plan images) can is_plan;
        by_types = λ none. built_by_types_has_configuration (head_model head) plan.algorithms (spec_models plan images) can;
      }

  -- An error of laying out the text is one of building.
  pub text_build_error : (error : Error) → IsFaultOrNoMemory (IsTextFault limits form (tree_of_images head plan images)) error →
      IsBuildErrorAs limits form head plan images error
  text_build_error (Refused fault) is = search (rules, IsFirstFault-after)
  text_build_error OutOfMemory is = without_memory limits form head plan images fine
  text_build_error ReadFailed is = is
  text_build_error WriteFailed is = is

-- An error of building into memory is one of building.
pub memory_build_error : {S : Type 0} (fails : S → List ℕ → S → Error → Type 0) (limits : Limits) (form : Form) (head : Head)
    (plan : PlanSpecModel) (images : List ImageSpec) (old new : S) (error : Error) →
    ((text : List ℕ) → fails old text new error → error ≡ OutOfMemory) →
    AppendFailed fails (IsBuiltAs limits form head plan images) (IsBuildErrorAs limits form head plan images) old new error →
    IsBuildErrorAs limits form head plan images error
memory_build_error fails limits form head plan images old new error full (WasRefused is same) = is
memory_build_error fails limits form head plan images old new error full (SinkFailed text cause is failed same) =
    subst (IsBuildErrorAs limits form head plan images) (sym (full text (subst (fails old text new) (sym same) failed)))
    (without_memory limits form head plan images
    (each-front (BuildPasses limits form head plan images) (early_checks plan images) (FitsLimit ∷ []) is.no_fault))
