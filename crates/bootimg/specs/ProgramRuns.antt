use Rattle.std.specs.Prelude.{◌≡◌, ℕ, Bool, false, List, Option, None, Some}
use Rattle.std.specs.Borrow.{Bor}
use Rattle.bi_base.specs.Traces.{ReadsWell, WriteTrace, WritesWell}
use Rattle.clap.specs.declared.error.kind.ErrorKind.{ErrorKind}
use Rattle.bootimg.specs.declared.command_line.Request.{Request}
use Rattle.bootimg.specs.declared.command_line.extract.AllRequest.{AllRequest}
use Rattle.bootimg.specs.declared.command_line.source.ImageSource.TheVariants.{Standard}
use Rattle.bootimg.specs.declared.failure.Failure.{Failure}
use Rattle.bootimg.specs.declared.terminal.Terminal.{Terminal}
use Rattle.bootimg.specs.CommandLine.{HasJobLengths, IsTextFor, IsRejected, IsRequest}
use Rattle.bootimg.specs.CommandLine.{IsAllRequested, IsImagesRequested}
use Rattle.bi_files.specs.Files.{FileStep, KnownFiles}
use Rattle.bootimg.specs.Hints.{IsHintAt}
use Rattle.bootimg.specs.Runs.{IsAllRun, IsRejection, IsRequestRun, IsTextRun, Run, inputs_after}
use Rattle.bootimg.specs.Runs.{Reports, inputs_before}
use Rattle.bootimg.specs.SeveralImages.{Streams, AreDone, AreSaved}
use Rattle.bootimg.specs.declared.command_line.images.ImagesRequest.{ImagesRequest}

-- What a run of the program does with its arguments (profile of this project).

-- The streams of a run before it and after it.
abbrev pub streams_before : Run → Streams
streams_before run = record {
  input = run.input;
  output = run.output;
  errors = run.errors;
  steps = run.steps;
}

abbrev pub streams_after : Run → Streams
streams_after run = record {
  input = run.new_input;
  output = run.new_output;
  errors = run.new_errors;
  steps = run.new_steps;
}

-- The images of a request were done with this output: standard output if no file is named, or else
-- the file of this name, and then nothing was written to standard output.
pub data IsImagesRun (files : KnownFiles) (hints : Bool) (request : ImagesRequest) (run : Run)
    : (output : Option (Bor (List ℕ))) → Type 0
  where
    EachToStandardOutput :
        AreDone files hints request false (streams_before run) (streams_after run) run.status
        → IsImagesRun files hints request run None
    EachToFile : (name : Bor (List ℕ))
        → AreSaved files hints request name (inputs_before run) (inputs_after run) run.errors
        run.new_errors run.status
        → run.new_output ≡ run.output → IsImagesRun files hints request run (Some name)

-- The line of a failure of these arguments was written, and its hint after it, if there is one.
abbrev pub IsUsageReport : (hints : Bool) → List (List ℕ) → Failure
    → (old new : WriteTrace) → Type 0
IsUsageReport hints arguments failure old new =
    (hint : Option (List ℕ)) × IsHintAt hints arguments failure hint
    × Reports Standard failure hint old new

-- The program ran with these arguments: it did the job that they request, also with each of several
-- images, or extracted all payloads, rejected them, or wrote a text that clap has for them. Where
-- standard error is a terminal, a hint follows the line of a failure; where it is none, there are
-- no hints.
pub data IsRun (terminal : Terminal) (arguments : List (List ℕ)) (files : KnownFiles) (run : Run)
    : Type 0
  where
    RanJob : (request : Request) → IsRequest arguments request → HasJobLengths request.job
        → IsRequestRun terminal files request run → IsRun terminal arguments files run
    RanEach : (request : ImagesRequest) → IsImagesRequested arguments request
        → IsImagesRun files terminal.errors request run request.output
        → IsRun terminal arguments files run
    ExtractedAll : (request : AllRequest) → IsAllRequested arguments request
        → IsAllRun terminal.errors files request run → IsRun terminal arguments files run
    Rejected : (failure : Failure) → IsRejected arguments failure → (hint : Option (List ℕ))
        → IsHintAt terminal.errors arguments failure hint
        → IsRejection Standard failure hint run → IsRun terminal arguments files run
    WroteText : (kind : ErrorKind) (text : List ℕ) → IsTextFor arguments kind
        → IsTextRun terminal.errors kind text run → IsRun terminal arguments files run

-- The program ran over plain streams: it did what traces of these streams record, which begin when
-- the run does.
pub record IsPlainRun (terminal : Terminal) (arguments : List (List ℕ)) (files : KnownFiles)
    (steps new_steps : Option (List FileStep))
    (remaining new_remaining contents new_contents : Option (List ℕ))
    (errors new_errors : Option (List ℕ)) (status : ℕ) : Type 0 where
  pub run : Run
  pub is_run : IsRun terminal arguments files run
  pub is_status : run.status ≡ status
  pub reads_well : ReadsWell run.input
  pub none_taken : run.input.taken ≡ 0
  pub writes_well : WritesWell run.output
  pub errors_write_well : WritesWell run.errors
  pub steps_before : run.steps ≡ steps
  pub steps_after : run.new_steps ≡ new_steps
  pub remaining_before : run.input.remaining ≡ remaining
  pub remaining_after : run.new_input.remaining ≡ new_remaining
  pub contents_before : run.output.contents ≡ contents
  pub contents_after : run.new_output.contents ≡ new_contents
  pub errors_before : run.errors.contents ≡ errors
  pub errors_after : run.new_errors.contents ≡ new_errors
