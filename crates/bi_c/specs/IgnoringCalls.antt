use Rattle.std.specs.Prelude.{ℕ, ◌≡◌, Bool, false, true, List, Option, map}
use Rattle.std.specs.List.{AllByRecursion}
use Rattle.bi_base.specs.Limits.{IsInRange, Limits}
use Rattle.bi_common.specs.declared.format.Format.{Format}
use Rattle.bi_describe.specs.ComparingWithout.{AreComparedWithout, IgnoringOptionsModel}
use Rattle.bi_describe.specs.ComparingWithout.{IsIgnoringError}
use Rattle.bi_describe.specs.DeepComparing.{AreComparedDeepWithout, IsDeepIgnoringError}
use Rattle.bi_describe.specs.IgnoredWords.{AreWordsOfValues, IsFirstBadIgnored}
use Rattle.bi_describe.specs.Ignoring.{Ignored}
use Rattle.bi_describe.specs.declared.compare.CompareError.{CompareError}
use Rattle.bi_describe.specs.declared.ignored.IgnoredError.{IgnoredError}
use Rattle.bi_describe.specs.declared.ignored.IgnoredError.TheVariants as ignored
use Rattle.bi_c.specs.Arguments.{bounds}
use Rattle.bi_c.specs.Calls.{IsFailureOfTwo, flag}
use Rattle.bi_c.specs.PieceBuilding.{IsPieceInside, bytes_of_piece}
use Rattle.bi_c.specs.Checks.{ArrayCheck, IsElementFailure, IsWrong, LimitsCheck}
use Rattle.bi_c.specs.declared.argument.Argument.{Argument}
use Rattle.bi_c.specs.declared.argument.Argument.TheVariants as argument
use Rattle.bi_c.specs.declared.failure.Failure.{Failure}
use Rattle.bi_c.specs.declared.failure.Failure.TheVariants.{WrongArgument, Refused, OutOfMemory}
use Rattle.bi_c.specs.declared.failure.Failure.TheVariants.{NotFound}
use Rattle.bi_c.specs.declared.region.Region.{Region}

-- What a call from C returns that compares two files without what words name (profile of this
-- project).

-- What it is to compare two files: with these options and limits they are the same or not, and this
-- text is written.
abbrev pub Comparing : Type 1
Comparing =
    IgnoringOptionsModel → Limits → (one other : List ℕ) → (same : Bool) → (text : List ℕ) → Type 0

-- The errors that this can have.
abbrev pub ComparingErrors : Type 1
ComparingErrors = Limits → (one other : List ℕ) → CompareError → Type 0

-- Files are compared with the devicetrees inside their payloads, or without them.
abbrev pub AreComparedAs : (deep : Bool) → Comparing
AreComparedAs false = AreComparedWithout
AreComparedAs true = AreComparedDeepWithout

abbrev pub IsErrorAs : (deep : Bool) → ComparingErrors
IsErrorAs false = IsIgnoringError
IsErrorAs true = IsDeepIgnoringError

-- The bytes of regions of an input.
abbrev pub pieces_in : (input : List ℕ) → List Region → List (List ℕ)
pieces_in input regions = map (bytes_of_piece input) regions

-- The limits are in their ranges, and the regions are inside the input.
pub record HasInsideWords (limit depth : ℕ) (input : List ℕ) (regions : List Region) : Type 0 where
  pub limits : IsInRange limit depth
  pub inside : AllByRecursion (IsPieceInside input) regions

-- The limits and then the words are checked.
abbrev pub WordsCheck : (limit depth : ℕ) → (input : List ℕ) → List Region
    → Option (Argument × ℕ) → Type 0
WordsCheck limit depth input regions =
    ArrayCheck (LimitsCheck limit depth) argument.Words (IsPieceInside input) regions

-- The arguments are so, and the bytes in the regions are for these words.
pub record HasIgnoredWords (limit depth : ℕ) (input : List ℕ) (regions : List Region)
    (words : List Ignored) : Type 0
  where
    pub arguments : HasInsideWords limit depth input regions
    pub are_words : AreWordsOfValues (pieces_in input regions) words

-- The text is what differs between two files without what the words name, in a form, and the
-- number says whether they mean the same thing without it.
pub record IsWithoutWords (AreCompared : Comparing) (format : Format) (limit depth : ℕ)
    (input : List ℕ) (regions : List Region) (one other text : List ℕ) (value : ℕ) : Type 0
  where
    pub words : List Ignored
    pub arguments : HasIgnoredWords limit depth input regions words
    pub same : Bool
    pub number : value ≡ flag same
    pub is : AreCompared (record { words = words; quiet = false; format = format })
        (bounds limit depth) one other same text

-- The failure for an error of reading words.
abbrev pub failure_of_ignored_error : IgnoredError → Failure
failure_of_ignored_error (ignored.BadValue index) = NotFound 16 index
failure_of_ignored_error ignored.OutOfMemory = OutOfMemory

-- The numbers of the reason that the word with this index is the first that names nothing.
pub record IsBadWord (input : List ℕ) (regions : List Region) (reason index : ℕ) : Type 0 where
  pub is_reason : reason ≡ 16
  pub is_first : IsFirstBadIgnored (pieces_in input regions) index

-- Why regions of an input have no words.
abbrev pub IsWordsFailure : (input : List ℕ) → List Region → Failure → Type 0
IsWordsFailure input regions (NotFound reason index) =
    AllByRecursion (IsPieceInside input) regions × IsBadWord input regions reason index
IsWordsFailure input regions failure =
    IsElementFailure argument.Words (IsPieceInside input) regions failure

-- Two files with valid words are refused.
pub record IsRefusedWithWords (HasError : ComparingErrors) (limit depth : ℕ) (input : List ℕ)
    (regions : List Region) (one other : List ℕ) (failure : Failure) : Type 0
  where
    pub words : List Ignored
    pub arguments : HasIgnoredWords limit depth input regions words
    pub is_failure : IsFailureOfTwo limit depth (HasError (bounds limit depth) one other) failure

-- Why two files were not compared without what words name: an argument is not valid, a word names
-- nothing, or comparing them fails. Memory can run out as soon as the limits are in their ranges.
abbrev pub IsIgnoringFailure : ComparingErrors → (limit depth : ℕ) → (input : List ℕ)
    → List Region → (one other : List ℕ) → Failure → Type 0
IsIgnoringFailure HasError limit depth input regions one other (WrongArgument found index) =
    IsWrong (WordsCheck limit depth input regions) found index
IsIgnoringFailure HasError limit depth input regions one other (NotFound reason index) =
    HasInsideWords limit depth input regions × IsBadWord input regions reason index
IsIgnoringFailure HasError limit depth input regions one other OutOfMemory = IsInRange limit depth
IsIgnoringFailure HasError limit depth input regions one other (Refused file fault) =
    IsRefusedWithWords HasError limit depth input regions one other (Refused file fault)
