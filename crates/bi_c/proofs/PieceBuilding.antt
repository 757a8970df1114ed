use Rattle.std.proofs.Common.{◌≡◌, List, ℕ, refl, sym, subst}
use Rattle.bi_base.specs.declared.fault.Error.{Error}
use Rattle.bi_base.specs.declared.fault.Error.TheVariants as error
use Rattle.bi_base.specs.Limits.{Limits, IsInRange}
use Rattle.bi_legacy.specs.Meaning.{LegacyImage}
use Rattle.bi_norm.specs.LegacyBuilding.{IsBuildLegacyError, IsBuiltLegacy}
use Rattle.bi_c.specs.declared.failure.Failure.{Failure}
use Rattle.bi_c.specs.declared.failure.Failure.TheVariants.{WrongArgument, Refused, OutOfMemory, NotFound}
use Rattle.bi_c.specs.declared.legacy.LegacyFields.{LegacyFields}
use Rattle.bi_c.specs.declared.region.Region.{Region}
use Rattle.bi_c.specs.Answers.{failure_of_error}
use Rattle.bi_c.specs.Arguments.{bounds}
use Rattle.bi_c.specs.PieceBuilding.{HasPieces, IsBuiltOfPieces, IsPieceBuildFailure, IsPieceInside, PiecesCheck, legacy_in}
use Rattle.bi_c.specs.declared.argument.Argument.{Argument}
use Rattle.bi_c.specs.declared.argument.Argument.TheVariants.{Fields, Parts}
use Rattle.bi_c.specs.Checks.{IsElementFailure, IsWrong, LimitsCheck, NextCheck}
use Rattle.bi_c.proofs.CheckFacts.{element_is_wrong}

-- A call from C builds the image of its pieces, or fails as building that image fails.

module _ (limit depth : ℕ) (input : List ℕ) (fields : LegacyFields) (parts : List Region) where
  -- If a region is outside the input, the call fails.
  pub no_pieces : (failure : Failure) → IsInRange limit depth → IsPieceInside input fields.name →
      IsElementFailure Parts (IsPieceInside input) parts failure →
      IsPieceBuildFailure limit depth input fields parts failure
  no_pieces (WrongArgument found index) in_range inside none =
      subst (λ (wrong : Argument). IsWrong (PiecesCheck limit depth input fields parts) wrong index) (sym none.0)
      (element_is_wrong
      (NextCheck (LimitsCheck limit depth) Fields (IsInRange limit depth × IsPieceInside input fields.name)) Parts (IsPieceInside input)
      parts index (in_range, inside) none.1)
  no_pieces OutOfMemory in_range inside none = (in_range, inside)
  no_pieces (Refused file fault) in_range inside none = absurd none
  no_pieces (NotFound reason index) in_range inside none = absurd none

  module _ (limits : Limits) (image : LegacyImage) (has : HasPieces limit depth input fields parts) (same : limits ≡ bounds limit depth)
      (is_image : image ≡ legacy_in input fields parts) where
    pub built_of_pieces : (text bytes : List ℕ) → bytes ≡ text → IsBuiltLegacy limits image text →
        IsBuiltOfPieces limit depth input fields parts bytes 0
    built_of_pieces text bytes same_bytes is = record {
      arguments = has;
      is = subst (λ (l : Limits). IsBuiltLegacy l (legacy_in input fields parts) bytes) same
          (subst (λ (built : LegacyImage). IsBuiltLegacy limits built bytes) is_image
          (subst (IsBuiltLegacy limits image) (sym same_bytes) is));
      no_value = refl;
    }

    pub not_built_of_pieces : (cause : Error) → IsBuildLegacyError limits image cause →
        IsPieceBuildFailure limit depth input fields parts (failure_of_error cause)
    not_built_of_pieces (error.Refused fault) is = (
      has,
      refl,
      subst (λ (l : Limits). IsBuildLegacyError l (legacy_in input fields parts) (error.Refused fault)) same
          (subst (λ (built : LegacyImage). IsBuildLegacyError limits built (error.Refused fault)) is_image is),
    )
    not_built_of_pieces error.OutOfMemory is = (has.limits, has.name)
    not_built_of_pieces error.ReadFailed is = (has.limits, has.name)
    not_built_of_pieces error.WriteFailed is = (has.limits, has.name)
