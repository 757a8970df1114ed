use Rattle.std.specs.Prelude.{◌≡◌, ℕ, Bool, true, false, List, ⊤}
use Rattle.std.proofs.Common.{ap, subst, sym}
use Rattle.bi_base.specs.declared.fault.Error.{Error}
use Rattle.bi_base.specs.declared.fault.Error.TheVariants.{Refused, OutOfMemory, ReadFailed}
use Rattle.bi_base.specs.declared.fault.Error.TheVariants.{WriteFailed}
use Rattle.bi_base.specs.Commands.{CommandPromise, PromiseLaws}
use Rattle.bi_base.specs.Limits.{Limits}
use Rattle.bi_edit.specs.declared.edit_notes.EditNotes.{EditNotes}
use Rattle.bi_fit.specs.Kept.{SaysNothing}
use Rattle.bi_norm.specs.Converting.{IsConvertedFile, IsConvertError}
use Rattle.bi_norm.specs.NormalForm.{IsNormalForm, IsNormaliseError, IsNormaliseKept}
use Rattle.bi_norm.specs.Reading.{IsBootImageReadError}
use Rattle.bi_report.specs.CheckedFiles.{IsChecked, IsCheckError, IsCheckOutput}
use Rattle.bi_report.specs.Checking.{allowed_under}
use Rattle.bi_report.specs.ListedFiles.{IsListing}
use Rattle.bi_report.specs.Scanning.{IsScanText, IsScanError, IsScanOutput}
use Rattle.bi_report.specs.VerifiedFiles.{IsReport, IsVerifyOutput}
use Rattle.bi_common.specs.declared.format.Format.{Format}
use Rattle.bi_describe.specs.DeepDescribing.{IsDeepDescription, IsDeepDescribeError}
use Rattle.bi_describe.specs.Describing.{IsDescription, IsDescribeError}
use Rattle.bi_show.specs.ShownFiles.{IsPage}
use Rattle.bi_show.specs.ShownObjects.{IsShownObject}
use Rattle.bi_values.specs.Getting.{IsGetError, IsTextOfValues}
use Rattle.bi_values.specs.ValueNames.{ValueNameModel, value_name_models}
use Rattle.bi_values.specs.declared.get_error.GetError.{GetError}
use Rattle.bi_values.specs.declared.get_error.GetError.TheVariants as get
use Rattle.bi_values.specs.declared.value_form.ValueForm.{ValueForm}
use Rattle.bi_commands.specs.declared.extract.ExtractError.{ExtractError}
use Rattle.bi_commands.specs.declared.extract.ExtractError.TheVariants as extract
use Rattle.bi_commands.specs.Extracting.{IsChosen, IsExtractError}
use Rattle.bi_fit.specs.declared.configurations.ConfigError.TheVariants as list
use Rattle.bootimg.specs.declared.command_line.ImagePlan.{ImagePlan}
use Rattle.bootimg.specs.declared.command_line.Task.{Task}
use Rattle.bootimg.specs.declared.command_line.Task.TheVariants.{Normalise, List as ListImage}
use Rattle.bootimg.specs.declared.command_line.Task.TheVariants.{Verify, Check, Describe, Extract}
use Rattle.bootimg.specs.declared.command_line.Task.TheVariants.{Convert, Scan, Show, Get}
use Rattle.bootimg.specs.declared.command_line.show.ShowForm.{ShowForm}
use Rattle.bootimg.specs.declared.command_line.show.ShowForm.TheVariants as show_form
use Rattle.bootimg.specs.declared.command_line.values.ValueWords.{ValueWords}
use Rattle.bootimg.specs.declared.failure.Failure.{Failure}
use Rattle.bootimg.specs.declared.failure.Failure.TheVariants.{Call}
use Rattle.bootimg.specs.declared.tasks.Done.{Done}
use Rattle.bootimg.specs.Failures.{IsFailureOfGetting, failure_of}
use Rattle.bootimg.specs.Offsets.{laws_at, promise_at}
use Rattle.bootimg.specs.Selections.{select_of}

-- What each task of the program does (profile of this project).

-- The exit status of a job that did not fail, by whether its answer is good.
abbrev pub status_of : (good : Bool) → ℕ
status_of true = 0
status_of false = 1

-- A job with nothing to note ended with this answer.
pub record EndedWith (good : Bool) (done : Done) : Type 0 where
  pub is_answer : done.good ≡ good
  pub no_signatures : done.kept.signatures ≡ 0
  pub says_nothing : SaysNothing done.kept
  pub none_inside : done.inside ≡ 0

-- A job ended well, with what a user should know after an edit.
pub record EndedWithNotes (notes : EditNotes) (done : Done) : Type 0 where
  pub is_good : done.good ≡ true
  pub same_kept : done.kept ≡ notes.kept
  pub same_inside : done.inside ≡ notes.inside

-- An image is shown in this way: as a page, or as JSON.
abbrev pub IsShownAs : ShowForm → Limits → (input output : List ℕ) → Type 0
IsShownAs (show_form.Page presenter) limits input output =
    IsPage presenter.layout limits input output
IsShownAs show_form.Json limits input output = IsShownObject limits input output

-- The text is the description of an image, in a form: the deep one if the flag is set.
abbrev pub IsDescribedAs : (deep : Bool) → Format → Limits → (input output : List ℕ) → Type 0
IsDescribedAs false format limits = IsDescription format limits
IsDescribedAs true format limits = IsDeepDescription format limits

-- The error that it can have.
abbrev pub IsDescribeErrorAs : (deep : Bool) → Format → Limits → (input : List ℕ) → Error → Type 0
IsDescribeErrorAs false format limits input = IsDescribeError format limits input
IsDescribeErrorAs true format limits input = IsDeepDescribeError format limits input

-- The task makes this output of the input, and ends so. The answer of `verify` is good if no
-- verdict is other than Good, that of `check` if it wrote no concern, and that of `scan` if it
-- found an image. The answer of any other task is good.
abbrev pub TaskDone : Task → Limits → Done → (input output : List ℕ) → Type 0
TaskDone (Normalise form) limits done input output =
    IsNormaliseKept limits form done.kept input output × (done.good ≡ true) × (done.inside ≡ 0)
TaskDone (Show how) limits done input output =
    IsShownAs how limits input output × EndedWith true done
TaskDone (ListImage format) limits done input output =
    IsListing format limits input output × EndedWith true done
TaskDone (Describe deep format) limits done input output =
    IsDescribedAs deep format limits input output × EndedWith true done
TaskDone (Verify format) limits done input output =
    (good : Bool) × IsVerifyOutput format limits good input output × EndedWith good done
TaskDone (Check policy format) limits done input output =
    (clean : Bool) × IsCheckOutput format (allowed_under policy) limits clean input output
    × EndedWith clean done
TaskDone (Scan format) limits done input output =
    (found : Bool) × IsScanOutput format limits found input output × EndedWith found done
TaskDone (Get plan) limits done input output =
    IsTextOfValues plan.form (value_name_models plan.names.items) limits input output
    × EndedWith true done
TaskDone (Extract selection) limits done input output =
    IsChosen (select_of selection) limits input output × EndedWith true done
TaskDone Convert limits done input output =
    IsConvertedFile limits input output × EndedWith true done

-- The task may begin to write this output for the input.
abbrev pub TaskText : Task → Limits → (input output : List ℕ) → Type 0
TaskText (Normalise form) limits input output = IsNormalForm limits form input output
TaskText (Show how) limits input output = IsShownAs how limits input output
TaskText (ListImage format) limits input output = IsListing format limits input output
TaskText (Describe deep format) limits input output =
    IsDescribedAs deep format limits input output
TaskText (Verify format) limits input output = IsReport format limits input output
TaskText (Check policy format) limits input output =
    IsChecked format (allowed_under policy) limits input output
TaskText (Scan format) limits input output = IsScanText format limits input output
TaskText (Get plan) limits input output =
    IsTextOfValues plan.form (value_name_models plan.names.items) limits input output
TaskText (Extract selection) limits input output =
    IsChosen (select_of selection) limits input output
TaskText Convert limits input output = IsConvertedFile limits input output

-- The failure is one of these errors of a call.
pub record IsCallFailure (HasError : Error → Type 0) (failure : Failure) : Type 0 where
  pub error : Error
  pub has_error : HasError error
  pub is : failure ≡ Call error

-- The failure is one of these errors of extracting.
pub record IsExtractFailure (HasError : ExtractError → Type 0) (failure : Failure) : Type 0 where
  pub error : ExtractError
  pub has_error : HasError error
  pub is : failure ≡ failure_of error

-- The failure is that of getting values with these words.
pub record IsGetFailure (HasError : GetError → Type 0) (words : List ValueWords)
    (failure : Failure) : Type 0
  where
    pub error : GetError
    pub has_error : HasError error
    pub is : IsFailureOfGetting words error failure

-- The task fails so for the input.
abbrev pub TaskFails : Task → Limits → (input : List ℕ) → Failure → Type 0
TaskFails (Normalise form) limits input failure =
    IsCallFailure (IsNormaliseError limits form input) failure
TaskFails (Show how) limits input failure =
    IsCallFailure (IsCheckError limits input) failure
TaskFails (ListImage format) limits input failure =
    IsCallFailure (IsBootImageReadError limits input) failure
TaskFails (Describe deep format) limits input failure =
    IsCallFailure (IsDescribeErrorAs deep format limits input) failure
TaskFails (Verify format) limits input failure =
    IsCallFailure (IsBootImageReadError limits input) failure
TaskFails (Check policy format) limits input failure =
    IsCallFailure (IsCheckError limits input) failure
TaskFails (Scan format) limits input failure =
    IsCallFailure (IsScanError limits input) failure
TaskFails (Get plan) limits input failure =
    IsGetFailure (IsGetError plan.form (value_name_models plan.names.items) limits input)
    plan.words.items failure
TaskFails (Extract selection) limits input failure =
    IsExtractFailure (IsExtractError (select_of selection) limits input) failure
TaskFails Convert limits input failure = IsCallFailure (IsConvertError limits input) failure

-- What a task promises as a command.
abbrev pub task_promise : Task → Limits → CommandPromise Done Failure
task_promise task limits = record {
  is_output = λ done input output. TaskDone task limits done input output;
  is_text = λ input output. TaskText task limits input output;
  has_error = λ input failure. TaskFails task limits input failure;
  wraps = λ error. Call error;
}

-- An output of a task is one that it may begin to write.
task_text : (task : Task) (limits : Limits) (done : Done) (input output : List ℕ)
    → TaskDone task limits done input output → TaskText task limits input output
task_text (Normalise form) limits done input output is = is.0.output.normal
task_text (Show how) limits done input output is = is.0
task_text (ListImage format) limits done input output is = is.0
task_text (Describe deep format) limits done input output is = is.0
task_text (Verify format) limits done input output is = is.1.report
task_text (Check policy format) limits done input output is = is.1.checked
task_text (Scan format) limits done input output is = is.1.is_scan
task_text (Get plan) limits done input output is = is.0
task_text (Extract selection) limits done input output is = is.0
task_text Convert limits done input output is = is.0

-- The error of a call that a failure has inside.
abbrev error_in_failure : Failure → Error
error_in_failure (Call error) = error
error_in_failure other = OutOfMemory

-- The failure is not that a read or a write failed.
abbrev IsNoStreamFailure : Failure → Type 0
IsNoStreamFailure (Call ReadFailed) = ⊥
IsNoStreamFailure (Call WriteFailed) = ⊥
IsNoStreamFailure other = ⊤

-- An error of a call in memory is not a failed read or write.
call_in_memory : (HasError : Error → Type 0) → ¬ HasError ReadFailed → ¬ HasError WriteFailed
    → (failure : Failure) → IsCallFailure HasError failure → IsNoStreamFailure failure
call_in_memory HasError no_read no_write failure is =
    subst IsNoStreamFailure (sym is.is) (by is.error is.has_error) where
      by : (error : Error) → HasError error → IsNoStreamFailure (Call error)
      by (Refused fault) has = tt
      by OutOfMemory has = tt
      by ReadFailed has = no_read has
      by WriteFailed has = no_write has

-- An error of extracting from a file in memory is not a failed read or write.
extract_in_memory : (HasError : ExtractError → Type 0) → ¬ HasError (extract.Failed ReadFailed)
    → ¬ HasError (extract.Failed WriteFailed)
    → (failure : Failure) → IsExtractFailure HasError failure → IsNoStreamFailure failure
extract_in_memory HasError no_read no_write failure is =
    subst IsNoStreamFailure (sym is.is) (by is.error is.has_error) where
      by : (error : ExtractError) → HasError error → IsNoStreamFailure (failure_of error)
      by (extract.Failed (Refused fault)) has = tt
      by (extract.Failed OutOfMemory) has = tt
      by (extract.Failed ReadFailed) has = no_read has
      by (extract.Failed WriteFailed) has = no_write has
      by extract.WrongKind has = tt
      by extract.NoPart has = tt
      by extract.NoImage has = tt
      by (extract.Config list.NoConfig) has = tt
      by (extract.Config list.NoKey) has = tt
      by (extract.Config list.BadList) has = tt
      by (extract.Config (list.Missing index)) has = tt
      by (extract.Config list.OutOfMemory) has = tt
      by extract.NoIndex has = tt
      by extract.NoPayload has = tt

-- An error of getting values of a file in memory is not a failed read or write.
get_in_memory : (form : ValueForm) (names : List ValueNameModel) (limits : Limits)
    (input : List ℕ) (words : List ValueWords) (failure : Failure)
    → IsGetFailure (IsGetError form names limits input) words failure → IsNoStreamFailure failure
get_in_memory form names limits input words failure is = by is.error is.has_error is.is where
  by : (error : GetError) → IsGetError form names limits input error
      → IsFailureOfGetting words error failure → IsNoStreamFailure failure
  by (get.Failed (Refused fault)) has same = subst IsNoStreamFailure (sym same) tt
  by (get.Failed OutOfMemory) has same = subst IsNoStreamFailure (sym same) tt
  by (get.Failed ReadFailed) has same = absurd has
  by (get.Failed WriteFailed) has same = absurd has
  by get.WrongKind has same = subst IsNoStreamFailure (sym same) tt
  by (get.NoProperty index) has named = subst IsNoStreamFailure (sym named.2) tt
  by (get.NoText index) has named = subst IsNoStreamFailure (sym named.2) tt
  by (get.NoNumber index) has named = subst IsNoStreamFailure (sym named.2) tt

-- A task neither reads nor writes.
task_in_memory : (task : Task) (limits : Limits) (input : List ℕ) (failure : Failure)
    → TaskFails task limits input failure → IsNoStreamFailure failure
task_in_memory (Normalise form) limits input failure is =
    call_in_memory (IsNormaliseError limits form input) (λ no. no) (λ no. no) failure is
task_in_memory (Show how) limits input failure is =
    call_in_memory (IsCheckError limits input) (λ no. no) (λ no. no) failure is
task_in_memory (ListImage format) limits input failure is =
    call_in_memory (IsBootImageReadError limits input) (λ no. no) (λ no. no) failure is
task_in_memory (Describe false format) limits input failure is =
    call_in_memory (IsDescribeError format limits input) (λ no. no) (λ no. no) failure is
task_in_memory (Describe true format) limits input failure is =
    call_in_memory (IsDeepDescribeError format limits input) (λ no. no) (λ no. no) failure is
task_in_memory (Verify format) limits input failure is =
    call_in_memory (IsBootImageReadError limits input) (λ no. no) (λ no. no) failure is
task_in_memory (Check policy format) limits input failure is =
    call_in_memory (IsCheckError limits input) (λ no. no) (λ no. no) failure is
task_in_memory (Scan format) limits input failure is =
    call_in_memory (IsScanError limits input) (λ no. no) (λ no. no) failure is
task_in_memory (Get plan) limits input failure is =
    get_in_memory plan.form (value_name_models plan.names.items) limits input plan.words.items
    failure is
task_in_memory (Extract selection) limits input failure is =
    extract_in_memory (IsExtractError (select_of selection) limits input)
    (λ no. no) (λ no. no) failure is
task_in_memory Convert limits input failure is =
    call_in_memory (IsConvertError limits input) (λ no. no) (λ no. no) failure is

pub task_laws : (task : Task) (limits : Limits) → PromiseLaws (task_promise task limits)
task_laws task limits = record {
  is_text = task_text task limits;
  wraps_once = λ a b same. ap error_in_failure same;
  no_read_error = λ input is. task_in_memory task limits input (Call ReadFailed) is;
  no_write_error = λ input is. task_in_memory task limits input (Call WriteFailed) is;
}

-- What a task promises on the image at an offset of its input.
abbrev pub placed_promise : (offset : ℕ) → Task → Limits → CommandPromise Done Failure
placed_promise offset task = promise_at offset (task_promise task)

-- This promise has the laws of promises.
pub placed_laws : (offset : ℕ) (task : Task) (limits : Limits)
    → PromiseLaws (placed_promise offset task limits)
placed_laws offset task = laws_at offset (task_promise task) (task_laws task)

-- What a plan promises.
abbrev pub plan_promise : ImagePlan → Limits → CommandPromise Done Failure
plan_promise plan = placed_promise plan.offset plan.task
