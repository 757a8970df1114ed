use Rattle.std.specs.Prelude.{ℕ, ◌<◌, ◌≡◌, ◌⊎◌, Bool, List, codes}
use Rattle.std.specs.Prelude.{if◌then◌else◌, Option, None}
use Rattle.bi_base.specs.declared.fault.Cause.{Cause}
use Rattle.bi_base.specs.Causes.{number_of, name_of}
use Rattle.bi_base.specs.declared.fault.Error.{Error}
use Rattle.bi_base.specs.Limits.{Limits, IsInRange}
use Rattle.bi_fit.specs.Reading.{IsFitReadError}
use Rattle.bi_norm.specs.Comparing.{AreCompared}
use Rattle.bi_norm.specs.declared.kind.Kind.{Kind}
use Rattle.bi_norm.specs.declared.kind.Kind.TheVariants.{Legacy, Fit}
use Rattle.bi_norm.specs.Kinds.{BeginsAs, IsKindFault}
use Rattle.bi_norm.specs.NormalForm.{IsNormaliseOutput, IsNormaliseError}
use Rattle.bi_common.specs.declared.format.Format.{Format}
use Rattle.bi_report.specs.declared.check.Checker.{Checker}
use Rattle.bi_report.specs.Checking.{allowed_under}
use Rattle.bi_report.specs.CheckedFiles.{IsCheckError, IsCheckOutput}
use Rattle.bi_describe.specs.declared.compare.CompareError.{CompareError}
use Rattle.bi_describe.specs.declared.compare.CompareError.TheVariants as compare
use Rattle.bi_show.specs.ShownFiles.{IsPage}
use Rattle.bi_commands.specs.CauseSentences.{sentence_of}
use Rattle.bi_commands.specs.UpdatedFiles.{IsUpdateOutput, IsUpdateError}
use Rattle.bi_c.specs.Answers.{IsFailure}
use Rattle.bi_c.specs.Arguments.{bounds, changes_of, checker_of, HasForm, HasChanges}
use Rattle.bi_c.specs.Arguments.{HasLayout, IsErrorInForm, is_yes, ChangesCheck, FormCheck}
use Rattle.bi_c.specs.Arguments.{LayoutCheck}
use Rattle.bi_c.specs.Checks.{IsWrong, LimitsCheck, NextCheck}
use Rattle.bi_c.specs.declared.argument.Argument.{Argument}
use Rattle.bi_c.specs.declared.argument.Argument.TheVariants as argument
use Rattle.bi_c.specs.declared.failure.Failure.{Failure}
use Rattle.bi_c.specs.declared.failure.Failure.TheVariants.{WrongArgument, Refused, OutOfMemory}
use Rattle.bi_c.specs.declared.failure.Failure.TheVariants.{NotFound}

-- What each call from C returns (profile of this project).

-- A yes or no as a number.
abbrev pub flag : Bool → ℕ
flag is = if is then 1 else 0

-- The number of a kind.
abbrev pub kind_number : Kind → ℕ
kind_number Legacy = 1
kind_number Fit = 2

-- The number of the file's kind. There is no output.
pub record IsKindNumber (file : List ℕ) (size value : ℕ) : Type 0 where
  pub nothing : size ≡ 0
  pub kind : Kind
  pub begins : BeginsAs file kind
  pub number : value ≡ kind_number kind

-- The file does not have a kind.
abbrev pub IsKindFailure : List ℕ → Failure → Type 0
IsKindFailure file (Refused number fault) = (number ≡ 1) × IsKindFault file fault
IsKindFailure file other = ⊥

-- The name of the cause with this number.
pub record IsCauseName (number : ℕ) (text : List ℕ) (value : ℕ) : Type 0 where
  pub cause : Cause
  pub is_cause : number_of cause ≡ number
  pub is_name : text ≡ name_of cause
  pub no_value : value ≡ 0

-- What the cause with this number means.
pub record IsCauseSentence (number : ℕ) (text : List ℕ) (value : ℕ) : Type 0 where
  pub cause : Cause
  pub is_cause : number_of cause ≡ number
  pub is_sentence : text ≡ sentence_of cause
  pub no_value : value ≡ 0

-- No cause has this number.
abbrev pub IsNoCause : ℕ → Failure → Type 0
IsNoCause number (WrongArgument found index) =
    ((cause : Cause) → ¬ (number_of cause ≡ number)) × (found ≡ argument.Number) × (index ≡ 0)
IsNoCause number other = ⊥

-- The normal form of the file, and the number of its signature nodes.
pub record IsNormalised (limit depth form : ℕ) (file text : List ℕ) (value : ℕ) : Type 0 where
  pub arguments : HasForm limit depth form
  pub is : IsNormaliseOutput (bounds limit depth) arguments.form value file text

-- Why a file was not normalised.
abbrev pub IsNormaliseFailure : (limit depth form : ℕ) → List ℕ → Failure → Type 0
IsNormaliseFailure limit depth form file =
    IsFailure (FormCheck limit depth form)
    (IsErrorInForm form (λ kind. IsNormaliseError (bounds limit depth) kind file))

-- The normal form of the file with these changes, and the number of its signature nodes.
pub record IsUpdatedText (limit depth form changes time : ℕ) (file text : List ℕ) (value : ℕ)
    : Type 0
  where
    pub arguments : HasChanges limit depth form changes
    pub is : IsUpdateOutput (changes_of changes time) (bounds limit depth) arguments.has_form.form
        value file text

-- Why a file was not updated.
abbrev pub IsUpdateFailure : (limit depth form changes time : ℕ) → List ℕ → Failure → Type 0
IsUpdateFailure limit depth form changes time file =
    IsFailure (ChangesCheck limit depth form changes)
    (IsErrorInForm form
    (λ kind. IsUpdateError (changes_of changes time) (bounds limit depth) kind file))

-- Whether two files mean the same, as a number. There is no output.
pub record IsSame (limit depth : ℕ) (one other : List ℕ) (size value : ℕ) : Type 0 where
  pub limits : IsInRange limit depth
  pub nothing : size ≡ 0
  pub same : Bool
  pub number : value ≡ flag same
  pub compared : AreCompared (bounds limit depth) one other same

-- The failure of a call on two files. Its limits must be in range, and its error is one of these.
abbrev pub IsFailureOfTwo : (limit depth : ℕ) → (HasError : CompareError → Type 0) → Failure
    → Type 0
IsFailureOfTwo limit depth HasError (WrongArgument found index) =
    IsWrong (LimitsCheck limit depth) found index
IsFailureOfTwo limit depth HasError (Refused file fault) =
    IsInRange limit depth
    × (((file ≡ 1) × HasError (compare.One fault)) ⊎ ((file ≡ 2) × HasError (compare.Other fault)))
IsFailureOfTwo limit depth HasError OutOfMemory =
    IsInRange limit depth × HasError compare.OutOfMemory
IsFailureOfTwo limit depth HasError (NotFound reason index) = ⊥

-- The failure for an error of a call on two files.
abbrev pub failure_of_compare_error : CompareError → Failure
failure_of_compare_error (compare.One fault) = Refused 1 fault
failure_of_compare_error (compare.Other fault) = Refused 2 fault
failure_of_compare_error compare.OutOfMemory = OutOfMemory

-- The version of the library, which is that of the program.
pub record IsVersion (text : List ℕ) (value : ℕ) : Type 0 where
  pub is_version : text ≡ codes "0.4.0"
  pub no_value : value ≡ 0

-- The output of a call on files, which returns no number. Its limits must be in range.
pub record IsTextOnly (limit depth : ℕ) (Is : Limits → List ℕ → Type 0) (text : List ℕ) (value : ℕ)
    : Type 0
  where
    pub limits : IsInRange limit depth
    pub is : Is (bounds limit depth) text
    pub no_value : value ≡ 0

-- The output of a call on files, which returns a yes or no as its number. Its limits must be in
-- range.
pub record IsTextWithFlag (limit depth : ℕ) (Is : Limits → Bool → List ℕ → Type 0) (text : List ℕ)
    (value : ℕ) : Type 0
  where
    pub limits : IsInRange limit depth
    pub yes : Bool
    pub number : value ≡ flag yes
    pub is : Is (bounds limit depth) yes text

-- The failure of a call on one file. Its limits must be in range, and its error is one of these.
abbrev pub IsFailureOfOne : (limit depth : ℕ) → (HasError : Limits → Error → Type 0) → Failure
    → Type 0
IsFailureOfOne limit depth HasError =
    IsFailure (LimitsCheck limit depth) (HasError (bounds limit depth))

-- Why a call that looks something up in a FIT fails. If what it looks up is not there, it names a
-- reason and an index.
abbrev pub IsTreeFailure : (Check : Option (Argument × ℕ) → Type 0) → Limits → (file : List ℕ)
    → (IsReason : (reason index : ℕ) → Type 0) → Failure → Type 0
IsTreeFailure Check limits file IsReason (NotFound reason index) =
    Check None × IsReason reason index
IsTreeFailure Check limits file IsReason other =
    IsFailure Check (IsFitReadError limits file) other

-- The limits are in range, and the number is that of a policy.
pub record HasKinds (limit depth kinds : ℕ) : Type 0 where
  pub limits : IsInRange limit depth
  pub are_kinds : kinds < 65536

-- The limits and then the kinds are checked.
abbrev pub KindsCheck : (limit depth kinds : ℕ) → Option (Argument × ℕ) → Type 0
KindsCheck limit depth kinds =
    NextCheck (LimitsCheck limit depth) argument.Kinds (HasKinds limit depth kinds)

-- The text of the concerns that a checker finds in a file, and whether there are none.
pub record IsConcernsText (checker : Checker) (limits : Limits) (file text : List ℕ) (value : ℕ)
    : Type 0
  where
    pub clean : Bool
    pub number : value ≡ flag clean
    pub is : IsCheckOutput checker.format (allowed_under checker.policy) limits clean file text

-- The text of the concerns about the file that a policy does not allow, in a form, and whether
-- there are none.
pub record IsCheckText (format : Format) (limit depth kinds : ℕ) (file text : List ℕ) (value : ℕ)
    : Type 0
  where
    pub arguments : HasKinds limit depth kinds
    pub is : IsConcernsText (checker_of format kinds) (bounds limit depth) file text value

-- The page of the file. It has the layout if the number is 1.
pub record IsPageText (limit depth layout : ℕ) (file text : List ℕ) (value : ℕ) : Type 0 where
  pub arguments : HasLayout limit depth layout
  pub is : IsPage (is_yes layout) (bounds limit depth) file text
  pub no_value : value ≡ 0

-- Why there is no page.
abbrev pub IsPageFailure : (limit depth layout : ℕ) → List ℕ → Failure → Type 0
IsPageFailure limit depth layout file =
    IsFailure (LayoutCheck limit depth layout) (IsCheckError (bounds limit depth) file)
