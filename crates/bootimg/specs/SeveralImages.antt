use Rattle.std.specs.Prelude.{◌≡◌, ◌<◌, ℕ, max, Bool, true, false, List, [], ◌∷◌, codes}
use Rattle.std.specs.Prelude.{Option, Some, Result, Ok, Err}
use Rattle.std.specs.Borrow.{Bor}
use Rattle.bi_base.specs.declared.fault.Error.TheVariants.{OutOfMemory, WriteFailed}
use Rattle.bi_base.specs.Commands.{CommandPromise}
use Rattle.bi_base.specs.Traces.{ReadTrace, WriteTrace, WritesWell}
use Rattle.bi_common.specs.declared.format.Format.{Format}
use Rattle.bi_common.specs.declared.format.Format.TheVariants.{Lines}
use Rattle.bi_common.specs.Shown.{shown_text}
use Rattle.bi_files.specs.declared.saving.SaveError.{SaveError}
use Rattle.bi_files.specs.Files.{FileStep, KnownFiles, IsSaved, IsNotSaved}
use Rattle.bi_labels.specs.InTurn.{AreDoneInTurn}
use Rattle.bi_labels.specs.LabelledCommands.{labelled_promise}
use Rattle.bootimg.specs.declared.command_line.Task.{Task}
use Rattle.bootimg.specs.declared.command_line.Task.TheVariants as task
use Rattle.bootimg.specs.declared.command_line.images.ImagesRequest.{ImagesRequest}
use Rattle.bootimg.specs.declared.command_line.source.ImageSource.{ImageSource}
use Rattle.bootimg.specs.declared.command_line.source.ImageSource.TheVariants.{Standard, File}
use Rattle.bootimg.specs.declared.failure.Failure.{Failure}
use Rattle.bootimg.specs.declared.failure.Failure.TheVariants.{Call}
use Rattle.bootimg.specs.declared.several.ImageEnd.{ImageEnd}
use Rattle.bootimg.specs.declared.jobs.SourceFailure.{SourceFailure}
use Rattle.bootimg.specs.declared.tasks.Done.{Done}
use Rattle.bootimg.specs.Failures.{failure_to_save}
use Rattle.bootimg.specs.Hints.{hint_given}
use Rattle.bootimg.specs.Runs.{Inputs, IsEnd, IsImageWork, Reports, Work, failure_in_memory}
use Rattle.bootimg.specs.Runs.{source_failure}
use Rattle.bootimg.specs.Tasks.{placed_promise, status_of}

-- What is done with several images: a task with each of them, one after another (profile of this
-- project).

-- ---- one image of several

-- The name of an image as it is printed: `-` for standard input.
abbrev pub source_text : ImageSource → List ℕ
source_text Standard = codes "-"
source_text (File name) = shown_text name.now

-- The form of what a task writes.
abbrev pub format_of_task : Task → Format
format_of_task (task.List format) = format
format_of_task (task.Describe deep format) = format
format_of_task (task.Verify format) = format
format_of_task (task.Check policy format) = format
format_of_task (task.Scan format) = format
format_of_task other = Lines

-- What a task promises for one of several images: what it promises for the image alone, with the
-- name of the image in each line.
abbrev pub image_promise : ImagesRequest → ImageSource → CommandPromise Done Failure
image_promise request source =
    labelled_promise (format_of_task request.task) (source_text source)
    (placed_promise request.offset request.task request.limits)

-- The streams and the steps with files, before an image or after it.
pub record Streams : Type 0 where
  pub input : ReadTrace
  pub output : WriteTrace
  pub errors : WriteTrace
  pub steps : Option (List FileStep)

-- What was done with an image between two states of the streams, with this outcome.
abbrev pub work_between : (old new : Streams) → Result Done SourceFailure → Work
work_between old new outcome = record {
  input = old.input;
  new_input = new.input;
  output = old.output;
  new_output = new.output;
  outcome = outcome;
}

-- A failure as it is reported. A failed write to memory means that memory ran out.
abbrev pub reported_failure : (in_memory : Bool) → Failure → Failure
reported_failure false failure = failure
reported_failure true failure = failure_in_memory failure

-- The outcome as it is reported.
abbrev pub reported_outcome : (in_memory : Bool) → Result Done SourceFailure
    → Result Done SourceFailure
reported_outcome in_memory (Ok done) = Ok done
reported_outcome in_memory (Err failed) =
    Err (source_failure failed.source (reported_failure in_memory failed.failure))

-- The status for this outcome.
abbrev pub status_of_outcome : Result Done SourceFailure → ℕ
status_of_outcome (Ok done) = status_of done.good
status_of_outcome (Err failed) = 2

-- One image was read, its text was written and flushed, and then the line of its failure was
-- written, if it has one, with a hint if hints are given. `in_memory` is whether the output is held
-- in memory.
pub record IsImageDone (files : KnownFiles) (hints : Bool) (request : ImagesRequest)
    (in_memory : Bool) (source : ImageSource) (outcome : Result Done SourceFailure)
    (old new : Streams) : Type 0
  where
    pub work : IsImageWork files (image_promise request source) source request.limits
        (work_between old new outcome) old.steps new.steps
    pub end : IsEnd hints old.errors new.errors (status_of_outcome outcome)
        (reported_outcome in_memory outcome)

-- ---- one after another

-- Whether no image follows after this failure: a write failed, or memory ran out.
abbrev pub is_last_failure : Failure → Bool
is_last_failure (Call WriteFailed) = true
is_last_failure (Call OutOfMemory) = true
is_last_failure other = false

-- Whether none follows after this outcome.
abbrev pub is_last : Result Done SourceFailure → Bool
is_last (Ok done) = false
is_last (Err failed) = is_last_failure failed.failure

-- One image was done, with this status, and it is known whether none follows.
pub record IsImageEnd (files : KnownFiles) (hints : Bool) (request : ImagesRequest)
    (in_memory : Bool) (source : ImageSource) (old new : Streams) (end : ImageEnd) : Type 0
  where
    pub outcome : Result Done SourceFailure
    pub done : IsImageDone files hints request in_memory source outcome old new
    pub status : end.status ≡ status_of_outcome outcome
    pub last : end.is_last ≡ is_last outcome

-- The greatest status.
abbrev pub greatest_status : List (Result Done SourceFailure) → ℕ
greatest_status [] = 0
greatest_status (outcome ∷ later) = max (status_of_outcome outcome) (greatest_status later)

-- The images of a request were done in turn, and the status is the greatest.
pub record AreDone (files : KnownFiles) (hints : Bool) (request : ImagesRequest)
    (in_memory : Bool) (old new : Streams) (status : ℕ) : Type 0
  where
    pub outcomes : List (Result Done SourceFailure)
    pub in_turn : AreDoneInTurn (IsImageDone files hints request in_memory) is_last
        request.sources.items outcomes old new
    pub is_greatest : status ≡ greatest_status outcomes

-- ---- an output in a file

-- The images of a request were done with an output that is held in memory, and was empty before. If
-- its bytes are known, they are these.
pub record AreHeld (files : KnownFiles) (hints : Bool) (request : ImagesRequest)
    (before after : Inputs) (errors new_errors : WriteTrace) (status : ℕ)
    (held : Option (List ℕ)) : Type 0
  where
    pub memory : WriteTrace
    pub new_memory : WriteTrace
    pub empty : memory.contents ≡ Some []
    pub writes_well : WritesWell memory
    pub holds : new_memory.contents ≡ held
    pub done : AreDone files hints request true
        (record {
          input = before.input;
          output = memory;
          errors = errors;
          steps = before.steps;
        })
        (record {
          input = after.input;
          output = new_memory;
          errors = new_errors;
          steps = after.steps;
        })
        status

-- The images of a request were done, and their texts were saved in the file of this name, or that
-- failed. If an image was refused or failed, the file is as it was.
pub data AreSaved (files : KnownFiles) (hints : Bool) (request : ImagesRequest)
    (name : Bor (List ℕ)) (before after : Inputs) (errors new_errors : WriteTrace) (status : ℕ)
    : Type 0
  where
    TextsSaved : (output : List ℕ) (worked : Option (List FileStep))
        → AreHeld files hints request before (record { input = after.input; steps = worked })
        errors new_errors status (Some output)
        → status < 2 → IsSaved files name.now output worked after.steps
        → AreSaved files hints request name before after errors new_errors status
    TextsNotSaved : (output : List ℕ) (worked : Option (List FileStep)) (middle : WriteTrace)
        (other : ℕ)
        → AreHeld files hints request before (record { input = after.input; steps = worked })
        errors middle other (Some output)
        → other < 2
        → (error : SaveError) → IsNotSaved files name.now output error worked after.steps
        → Reports (File name) (failure_to_save error) (hint_given hints (failure_to_save error))
        middle new_errors
        → status ≡ 2
        → AreSaved files hints request name before after errors new_errors status
    OneHasFailed : (held : Option (List ℕ))
        → AreHeld files hints request before after errors new_errors status held → status ≡ 2
        → AreSaved files hints request name before after errors new_errors status
