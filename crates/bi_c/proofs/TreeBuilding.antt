use Rattle.std.proofs.Common.{◌≡◌, List, [], ◌∷◌, ◌++◌, ℕ, refl, sym, subst}
use Rattle.std.specs.List.{AllZip}
use Rattle.bi_base.specs.declared.fault.Error.{Error}
use Rattle.bi_base.specs.declared.fault.Error.TheVariants as error
use Rattle.bi_base.specs.Limits.{Limits}
use Rattle.bi_fit.specs.declared.building.Head.{Head}
use Rattle.bi_norm.specs.declared.fit_building.ImageSpec.{ImageSpec}
use Rattle.bi_norm.specs.FitBuilding.{IsBuildError, IsBuilt}
use Rattle.bi_c.specs.declared.failure.Failure.{Failure}
use Rattle.bi_c.specs.declared.failure.Failure.TheVariants.{WrongArgument, Refused, OutOfMemory, NotFound}
use Rattle.bi_c.specs.declared.fit_building.BuildElement.{BuildElement}
use Rattle.bi_c.specs.Answers.{failure_of_error}
use Rattle.bi_c.specs.Arguments.{bounds, HasForm}
use Rattle.bi_c.specs.TreeBuilding.{IsSpecOf, IsToBeBuilt, IsTreeBuildFailure, IsTreeOfPieces}
use Rattle.bi_c.specs.declared.argument.Argument.{Argument}
use Rattle.bi_c.specs.declared.argument.Argument.TheVariants.{Images}
use Rattle.bi_c.specs.Checks.{IsElementFailure, IsWrong}
use Rattle.bi_c.specs.TreeBuilding.{IsSpecInside, SpecsCheck}
use Rattle.bi_c.specs.Arguments.{FormCheck}
use Rattle.bi_c.proofs.CheckFacts.{element_is_wrong}

-- A call from C builds the tree of its images, or fails as building that tree fails.

-- An element that is added to a list of elements adds one image.
pub one_spec_added : (input : List ℕ) (images : List BuildElement) (specs : List ImageSpec) (image : BuildElement) (spec : ImageSpec) →
    AllZip (IsSpecOf input) images specs → IsSpecOf input image spec →
    AllZip (IsSpecOf input) (images ++ image ∷ []) (specs ++ spec ∷ [])
one_spec_added input [] [] image spec are is = (is, tt)
one_spec_added input [] (first ∷ specs) image spec are is = absurd are
one_spec_added input (first ∷ images) [] image spec are is = absurd are
one_spec_added input (first ∷ images) (other ∷ specs) image spec are is = (are.0, one_spec_added input images specs image spec are.1 is)

module _ (limit depth number time : ℕ) (input description : List ℕ) (images : List BuildElement) (valid : HasForm limit depth number) where
  -- If an element has no image, the call fails.
  pub no_specs : (failure : Failure) → IsElementFailure Images (IsSpecInside input) images failure →
      IsTreeBuildFailure limit depth number time input description images failure
  no_specs (WrongArgument found index) none =
      subst (λ (wrong : Argument). IsWrong (SpecsCheck limit depth number input images) wrong index) (sym none.0)
      (element_is_wrong (FormCheck limit depth number) Images (IsSpecInside input) images index valid none.1)
  no_specs OutOfMemory none = valid
  no_specs (Refused file fault) none = absurd none
  no_specs (NotFound reason index) none = absurd none

  module _ (limits : Limits) (head : Head) (specs : List ImageSpec) (same : limits ≡ bounds limit depth)
      (are : IsToBeBuilt time input description images head specs) where
    pub tree_of_pieces : (text bytes : List ℕ) → bytes ≡ text → IsBuilt limits valid.form head specs text →
        IsTreeOfPieces limit depth number time input description images bytes 0
    tree_of_pieces text bytes same_bytes is = record {
      arguments = valid;
      head = head;
      specs = specs;
      is_to_be_built = are;
      is = subst (λ (l : Limits). IsBuilt l valid.form head specs bytes) same
          (subst (IsBuilt limits valid.form head specs) (sym same_bytes) is);
      no_value = refl;
    }

    pub no_tree_of_pieces : (cause : Error) → IsBuildError limits valid.form head specs cause →
        IsTreeBuildFailure limit depth number time input description images (failure_of_error cause)
    no_tree_of_pieces (error.Refused fault) is = (
      refl,
      record {
        arguments = valid;
        head = head;
        specs = specs;
        is_to_be_built = are;
        is = subst (λ (l : Limits). IsBuildError l valid.form head specs (error.Refused fault)) same is;
      },
    )
    no_tree_of_pieces error.OutOfMemory is = valid
    no_tree_of_pieces error.ReadFailed is = valid
    no_tree_of_pieces error.WriteFailed is = valid
