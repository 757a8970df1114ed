use Rattle.std.specs.Prelude.{ℕ, ◌<◌, ◌≡◌, Bool, List, Option, None, Some, if◌then◌else◌}
use Rattle.std.specs.List.{AllZip}
use Rattle.bi_base.specs.declared.fault.Fault.{Fault}
use Rattle.bi_base.specs.declared.fault.Error.TheVariants as error
use Rattle.bi_fit.specs.declared.building.Head.{Head}
use Rattle.bi_norm.specs.declared.fit_building.ImageSpec.{ImageSpec}
use Rattle.bi_norm.specs.FitBuilding.{IsBuildError, IsBuilt}
use Rattle.bi_c.specs.Arguments.{bounds, has_bit, FormCheck, HasForm}
use Rattle.bi_c.specs.Checks.{ArrayCheck, IsWrong}
use Rattle.bi_c.specs.PieceBuilding.{IsPieceInside, bytes_of_piece}
use Rattle.bi_c.specs.declared.argument.Argument.{Argument}
use Rattle.bi_c.specs.declared.argument.Argument.TheVariants as argument
use Rattle.bi_c.specs.declared.failure.Failure.{Failure}
use Rattle.bi_c.specs.declared.failure.Failure.TheVariants.{WrongArgument, Refused, OutOfMemory}
use Rattle.bi_c.specs.declared.failure.Failure.TheVariants.{NotFound}
use Rattle.bi_c.specs.declared.fit_building.BuildElement.{BuildElement}

-- The FITs that a call from C builds from pieces of the caller's memory (profile of this project).

-- An address that may not be there.
abbrev pub address_if : (is_there : Bool) → (address : ℕ) → Option ℕ
address_if is_there address = if is_there then Some address else None

-- The name and the payload of an image to be built are inside the input. The number says which of
-- the two addresses the image has.
pub record IsSpecInside (input : List ℕ) (image : BuildElement) : Type 0 where
  pub name : IsPieceInside input image.name
  pub payload : IsPieceInside input image.payload
  pub addresses : image.addresses < 4

-- The image to be built that an element of the caller's array is.
pub record IsSpecOf (input : List ℕ) (image : BuildElement) (spec : ImageSpec) : Type 0 where
  pub inside : IsSpecInside input image
  pub name : spec.name.now ≡ bytes_of_piece input image.name
  pub payload : spec.payload.now ≡ bytes_of_piece input image.payload
  pub image_type : spec.image_type ≡ image.image_type
  pub arch : spec.arch ≡ image.arch
  pub os : spec.os ≡ image.os
  pub compression : spec.compression ≡ image.compression
  pub load : spec.load ≡ address_if (has_bit 1 image.addresses) image.load
  pub entry : spec.entry ≡ address_if (has_bit 2 image.addresses) image.entry

-- What is to be built: this head, and these images.
pub record IsToBeBuilt (time : ℕ) (input description : List ℕ) (images : List BuildElement)
    (head : Head) (specs : List ImageSpec) : Type 0
  where
    pub is_description : head.description.now ≡ description
    pub is_time : head.time ≡ time
    pub are_specs : AllZip (IsSpecOf input) images specs

-- The text is that of the tree that is built.
pub record IsTreeOfPieces (limit depth form time : ℕ) (input description : List ℕ)
    (images : List BuildElement) (text : List ℕ) (value : ℕ) : Type 0
  where
    pub arguments : HasForm limit depth form
    pub head : Head
    pub specs : List ImageSpec
    pub is_to_be_built : IsToBeBuilt time input description images head specs
    pub is : IsBuilt (bounds limit depth) arguments.form head specs text
    pub no_value : value ≡ 0

-- The fault that building a FIT from these values has.
pub record IsTreeRefusal (limit depth form time : ℕ) (input description : List ℕ)
    (images : List BuildElement) (fault : Fault) : Type 0
  where
    pub arguments : HasForm limit depth form
    pub head : Head
    pub specs : List ImageSpec
    pub is_to_be_built : IsToBeBuilt time input description images head specs
    pub is : IsBuildError (bounds limit depth) arguments.form head specs (error.Refused fault)

-- The limits, the form and then the images are checked.
abbrev pub SpecsCheck : (limit depth form : ℕ) → (input : List ℕ) → List BuildElement
    → Option (Argument × ℕ) → Type 0
SpecsCheck limit depth form input images =
    ArrayCheck (FormCheck limit depth form) argument.Images (IsSpecInside input) images

-- Why no tree is built. Memory may run out before the images are looked at.
abbrev pub IsTreeBuildFailure : (limit depth form time : ℕ) → (input description : List ℕ)
    → List BuildElement → Failure → Type 0
IsTreeBuildFailure limit depth form time input description images (WrongArgument found index) =
    IsWrong (SpecsCheck limit depth form input images) found index
IsTreeBuildFailure limit depth form time input description images (Refused file fault) =
    (file ≡ 1) × IsTreeRefusal limit depth form time input description images fault
IsTreeBuildFailure limit depth form time input description images OutOfMemory =
    HasForm limit depth form
IsTreeBuildFailure limit depth form time input description images (NotFound reason index) = ⊥
