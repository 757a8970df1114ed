use Rattle.std.specs.Prelude.{ℕ, ◌+◌, ◌≤◌, ◌≡◌, List, Option, length, map}
use Rattle.std.specs.List.{AllByRecursion}
use Rattle.bi_base.specs.Cells.{slice}
use Rattle.bi_base.specs.declared.fault.Error.TheVariants as error
use Rattle.bi_base.specs.Limits.{IsInRange}
use Rattle.bi_legacy.specs.Meaning.{LegacyImage}
use Rattle.bi_norm.specs.LegacyBuilding.{IsBuildLegacyError, IsBuiltLegacy}
use Rattle.bi_c.specs.Arguments.{bounds}
use Rattle.bi_c.specs.Checks.{ArrayCheck, IsWrong, LimitsCheck, NextCheck}
use Rattle.bi_c.specs.declared.argument.Argument.{Argument}
use Rattle.bi_c.specs.declared.argument.Argument.TheVariants as argument
use Rattle.bi_c.specs.declared.failure.Failure.{Failure}
use Rattle.bi_c.specs.declared.failure.Failure.TheVariants.{WrongArgument, Refused, OutOfMemory}
use Rattle.bi_c.specs.declared.failure.Failure.TheVariants.{NotFound}
use Rattle.bi_c.specs.declared.legacy.LegacyFields.{LegacyFields}
use Rattle.bi_c.specs.declared.region.Region.{Region}

-- The legacy images that a call from C builds from pieces of the caller's memory (profile of this
-- project).

-- The bytes of a region of an input.
abbrev pub bytes_of_piece : (input : List ℕ) → Region → List ℕ
bytes_of_piece input region = slice input region.offset region.size

-- The region is inside the input.
abbrev pub IsPieceInside : (input : List ℕ) → Region → Type 0
IsPieceInside input region = region.offset + region.size ≤ length input

-- The image with this name and these parts. All other fields are those of this struct.
abbrev pub legacy_of_pieces : (name : List ℕ) → LegacyFields → (parts : List (List ℕ))
    → LegacyImage
legacy_of_pieces name fields parts = record {
  time = fields.time;
  load = fields.load;
  entry = fields.entry;
  os = fields.os;
  arch = fields.arch;
  image_type = fields.image_type;
  compression = fields.compression;
  name = name;
  parts = parts;
}

-- The image whose name and parts are these regions of an input.
abbrev pub legacy_in : (input : List ℕ) → LegacyFields → List Region → LegacyImage
legacy_in input fields parts =
    legacy_of_pieces (bytes_of_piece input fields.name) fields (map (bytes_of_piece input) parts)

-- The limits are in their ranges, and the regions are inside the input.
pub record HasPieces (limit depth : ℕ) (input : List ℕ) (fields : LegacyFields)
    (parts : List Region) : Type 0
  where
    pub limits : IsInRange limit depth
    pub name : IsPieceInside input fields.name
    pub parts_inside : AllByRecursion (IsPieceInside input) parts

-- The limits, the region of the name and then the parts are checked.
abbrev pub PiecesCheck : (limit depth : ℕ) → (input : List ℕ) → LegacyFields → List Region
    → Option (Argument × ℕ) → Type 0
PiecesCheck limit depth input fields parts =
    ArrayCheck
    (NextCheck (LimitsCheck limit depth) argument.Fields
    (IsInRange limit depth × IsPieceInside input fields.name))
    argument.Parts (IsPieceInside input) parts

-- The text is that of the image that is built.
pub record IsBuiltOfPieces (limit depth : ℕ) (input : List ℕ) (fields : LegacyFields)
    (parts : List Region) (text : List ℕ) (value : ℕ) : Type 0
  where
    pub arguments : HasPieces limit depth input fields parts
    pub is : IsBuiltLegacy (bounds limit depth) (legacy_in input fields parts) text
    pub no_value : value ≡ 0

-- Why no image is built. Memory may run out before the parts are looked at.
abbrev pub IsPieceBuildFailure : (limit depth : ℕ) → (input : List ℕ) → LegacyFields → List Region
    → Failure → Type 0
IsPieceBuildFailure limit depth input fields parts (WrongArgument found index) =
    IsWrong (PiecesCheck limit depth input fields parts) found index
IsPieceBuildFailure limit depth input fields parts (Refused file fault) =
    HasPieces limit depth input fields parts × (file ≡ 1)
    × IsBuildLegacyError (bounds limit depth) (legacy_in input fields parts) (error.Refused fault)
IsPieceBuildFailure limit depth input fields parts OutOfMemory =
    IsInRange limit depth × IsPieceInside input fields.name
IsPieceBuildFailure limit depth input fields parts (NotFound reason index) = ⊥
