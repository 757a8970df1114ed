use Rattle.std.specs.Prelude.{◌≡◌, ◌⊎◌, ◌++◌, ℕ, Bool, true}
use Rattle.std.specs.Prelude.{false, List, [], ◌∷◌, length, map, codes}
use Rattle.std.specs.Prelude.{Option, Some, None, IfSome, Result, Ok, Err}
use Rattle.std.specs.Borrow.{Bor}
use Rattle.bi_base.specs.declared.fault.Cause.TheVariants.{BadDataCrc}
use Rattle.bi_base.specs.declared.fault.Error.TheVariants.{Refused, OutOfMemory, ReadFailed}
use Rattle.bi_base.specs.declared.fault.Error.TheVariants.{WriteFailed}
use Rattle.bi_base.specs.Limits.{widest}
use Rattle.bi_base.specs.Writing.{Writes}
use Rattle.bi_commands.specs.KnownChoices.{lent}
use Rattle.bi_commands.specs.declared.extract.ExtractError.TheVariants as extract
use Rattle.bi_commands.specs.declared.extract.Select.TheVariants as select
use Rattle.bi_commands.specs.declared.parts.Part.{Part}
use Rattle.bi_commands.specs.declared.parts.Part.TheVariants.{Bytes, Length}
use Rattle.bi_common.specs.KnownWords.{lines}
use Rattle.bi_common.specs.declared.format.Format.TheVariants.{Lines}
use Rattle.bootimg.specs.KnownWords.{words_of_line}
use Rattle.bi_files.specs.declared.saving.SaveError.TheVariants as save
use Rattle.bi_files.specs.Files.{FileStep, KnownFiles, NotOpened}
use Rattle.bi_files.specs.KnownSteps.{AreSavingSteps}
use Rattle.bi_fit.specs.declared.form.Form.TheVariants.{Embedded}
use Rattle.bi_fit.specs.declared.key.Key.TheVariants.{Kernel}
use Rattle.bi_fit.specs.Text.{fit_text}
use Rattle.bi_legacy.specs.KnownFiles.{kernel_file_with_rest}
use Rattle.bi_legacy.specs.KnownImages.{kernel_file, kernel_image}
use Rattle.bi_norm.specs.Converting.{fit_of}
use Rattle.bi_norm.specs.KnownComparisons.{file_without_magic, no_magic}
use Rattle.bootimg.specs.CommandLine.{HasJobLengths, sources_of}
use Rattle.bootimg.specs.Explanations.{explain_text}
use Rattle.bootimg.specs.declared.explanations.Topic.TheVariants as topic
use Rattle.bootimg.specs.Failures.{failure_to_save}
use Rattle.bootimg.specs.KnownHints.{no_terminal}
use Rattle.bootimg.specs.KnownInputs.{one_file, two_files, without_files}
use Rattle.bootimg.specs.Runs.{ArePartsRead, AreFirstRead, IsAllWork, IsExplainWork, IsHeldFailure}
use Rattle.bootimg.specs.Runs.{IsOutputRun, IsPart, IsPartNotRead, IsPlanWork, Inputs}
use Rattle.bootimg.specs.ProgramRuns.{IsPlainRun}
use Rattle.bootimg.specs.Runs.{Run, Work, failure_in_memory, no_input, plan_of_options}
use Rattle.bootimg.specs.Runs.{source_failure}
use Rattle.bootimg.specs.Selections.{select_of}
use Rattle.bootimg.specs.Tasks.{IsCallFailure, IsExtractFailure, TaskDone, TaskFails, TaskText}
use Rattle.bootimg.specs.Tasks.{plan_promise}
use Rattle.bootimg.specs.declared.command_line.ImagePlan.{ImagePlan}
use Rattle.bootimg.specs.declared.command_line.Job.{Job}
use Rattle.bootimg.specs.declared.command_line.Job.TheVariants.{Run as RunTask, Build}
use Rattle.bootimg.specs.declared.command_line.Task.{Task}
use Rattle.bootimg.specs.declared.command_line.Task.TheVariants as task
use Rattle.bootimg.specs.declared.command_line.build.BuildPlan.TheVariants.{Fit}
use Rattle.bootimg.specs.declared.command_line.build.FitPlan.{FitPlan}
use Rattle.bootimg.specs.declared.command_line.extract.AllRequest.{AllRequest}
use Rattle.bootimg.specs.declared.command_line.extract.Selected.TheVariants as selected
use Rattle.bootimg.specs.declared.command_line.part.PartSource.{PartSource}
use Rattle.bootimg.specs.declared.command_line.part.PartSource.TheVariants as part
use Rattle.bootimg.specs.declared.command_line.source.ImageSource.{ImageSource}
use Rattle.bootimg.specs.declared.command_line.source.ImageSource.TheVariants.{Standard, File}
use Rattle.bootimg.specs.declared.failure.Failure.{Failure}
use Rattle.bootimg.specs.declared.failure.Failure.TheVariants.{Call, CannotOpen, NoIndex}
use Rattle.bootimg.specs.declared.failure.Failure.TheVariants.{NotWritten}
use Rattle.bootimg.specs.declared.jobs.SourceFailure.{SourceFailure}
use Rattle.bootimg.specs.declared.tasks.Done.{Done}

-- What tasks and jobs do with small files, by which a reader can judge the definitions.

-- ---- tasks

-- The task ends so for this input, whatever it writes.
abbrev pub HasAnswer : Task → (input : List ℕ) → (good : Bool) → Type 0
HasAnswer given input good =
    (done : Done) (output : List ℕ) → TaskDone given widest done input output → done.good ≡ good

-- The task writes this for an input, and nothing else, and may begin to write nothing else.
pub record Makes (given : Task) (input output : List ℕ) : Type 0 where
  pub done : (done : Done) (other : List ℕ) → TaskDone given widest done input other
      → other ≡ output
  pub text : (other : List ℕ) → TaskText given widest input other → other ≡ output

-- The output of `normalise` and that of `convert`, and their answers. `scan` has a good answer if
-- it writes a line.
pub record TaskOutputsAreKnown : Type 0 where
  pub normalise : Makes (task.Normalise Embedded) kernel_file_with_rest kernel_file
  pub normalised : HasAnswer (task.Normalise Embedded) kernel_file_with_rest true
  pub convert : Makes task.Convert kernel_file_with_rest (fit_text Embedded (fit_of kernel_image))
  pub converted : HasAnswer task.Convert kernel_file_with_rest true
  pub nothing_found : (input : List ℕ) (done : Done)
      → TaskDone (task.Scan Lines) widest done input [] → done.good ≡ false
  pub found : (input : List ℕ) (byte : ℕ) (later : List ℕ) (done : Done)
      → TaskDone (task.Scan Lines) widest done input (byte ∷ later) → done.good ≡ true
  pub at_offset : (done : Done) (output : List ℕ)
      → (plan_promise (record { task = task.Normalise Embedded; offset = 3; source = Standard })
      widest).is_output done (codes "xyz" ++ kernel_file_with_rest) output
      → output ≡ kernel_file

-- The failures of tasks: those of the calls behind them. The selections are those of the library.
pub record TaskFailuresAreKnown : Type 0 where
  pub normalise : (failure : Failure)
      → TaskFails (task.Normalise Embedded) widest file_without_magic failure
      → failure ≡ Call (Refused no_magic)
  pub convert : (failure : Failure) → TaskFails task.Convert widest file_without_magic failure
      → failure ≡ Call (Refused no_magic)
  pub call : (failure : Failure) → IsCallFailure (λ error. error ≡ OutOfMemory) failure
      → failure ≡ Call OutOfMemory
  pub extract : (failure : Failure) → IsExtractFailure (λ error. error ≡ extract.NoIndex) failure
      → failure ≡ NoIndex
  pub part : select_of (selected.Part 7) ≡ select.Part 7
  pub default : select_of (selected.Default Kernel 7) ≡ select.Default Kernel 7
  pub not_written : failure_to_save save.NotWritten ≡ NotWritten
  pub no_memory : failure_to_save save.OutOfMemory ≡ Call OutOfMemory

-- ---- explain

-- What `explain BadDataCrc` writes.
abbrev pub explanation : List ℕ
explanation =
    lines (codes "The data checksum of a legacy image is wrong: fetch the image again." ∷ [])

-- It writes this and reads nothing, or memory runs out, or the output fails.
pub record ExplainWorkIsKnown : Type 0 where
  pub done : (work : Work) (done : Done) → IsExplainWork (Some (topic.Cause BadDataCrc)) work
      → work.outcome ≡ Ok done
      → Writes work.output explanation work.new_output × (done.good ≡ true)
  pub failed : (work : Work) (failed : SourceFailure)
      → IsExplainWork (Some (topic.Cause BadDataCrc)) work
      → work.outcome ≡ Err failed
      → (failed ≡ source_failure Standard (Call WriteFailed))
      ⊎ ((failed ≡ source_failure Standard (Call OutOfMemory))
      × (work.new_output ≡ work.output))
  pub reads_nothing : (work : Work) → IsExplainWork (Some (topic.Cause BadDataCrc)) work
      → work.new_input ≡ work.input

-- A whole run without a terminal: standard input is `x`, both outputs are empty, and there are no
-- files.
abbrev pub RunsExplain : (left output errors : List ℕ) (steps : List FileStep) (status : ℕ) → Type 0
RunsExplain left output errors steps status =
    IsPlainRun no_terminal (words_of_line (codes "explain")) without_files (Some []) (Some steps)
    (Some (codes "x")) (Some left) (Some []) (Some output) (Some []) (Some errors) status

-- With the status 0 it has written all explanations, and nothing else has changed. There is one
-- other status.
pub record ExplainRunsAreKnown : Type 0 where
  pub done : (left output errors : List ℕ) (steps : List FileStep)
      → RunsExplain left output errors steps 0
      → (left ≡ codes "x") × (output ≡ explain_text None) × (errors ≡ []) × (steps ≡ [])
  pub statuses : (left output errors : List ℕ) (steps : List FileStep) (status : ℕ)
      → RunsExplain left output errors steps status → (status ≡ 0) ⊎ (status ≡ 2)

-- ---- an image

-- Normalising the image in this source.
abbrev pub normalising : ImageSource → ImagePlan
normalising source = record { task = task.Normalise Embedded; offset = 0; source = source }

-- An image in the file `in`, and its plan.
abbrev pub file_in : ImageSource
file_in = File (lent (codes "in"))

abbrev pub in_plan : ImagePlan
in_plan = normalising file_in

-- There is only the file `in`, which is a kernel image.
abbrev pub only_in : KnownFiles
only_in = one_file (codes "in") kernel_file_with_rest

-- The image that is named is read, and its normal form is written. A file that is not there is not
-- opened, and nothing is written. Standard input stays as it is beside a file.
pub record ImageWorksAreKnown : Type 0 where
  pub of_input : (work : Work) (done : Done) (old new : Option (List FileStep))
      → IsPlanWork without_files (normalising Standard) widest work old new
      → work.input.remaining ≡ Some kernel_file_with_rest → work.outcome ≡ Ok done
      → Writes work.output kernel_file work.new_output × (new ≡ old)
  pub of_file : (work : Work) (done : Done) (old new : Option (List FileStep))
      → IsPlanWork only_in in_plan widest work old new → work.outcome ≡ Ok done
      → Writes work.output kernel_file work.new_output × (work.new_input ≡ work.input)
  pub no_file : (work : Work) (new : Option (List FileStep))
      → IsPlanWork without_files in_plan widest work (Some []) new
      → (work.outcome ≡ Err (source_failure file_in CannotOpen))
      × (work.new_output ≡ work.output) × (work.new_input ≡ work.input)
      × IfSome new (λ steps. steps ≡ NotOpened (codes "in") ∷ [])

-- ---- an output in a file

-- The job of that plan.
abbrev pub in_job : Job
in_job = RunTask in_plan

-- With `-o out` the normal form is saved, and nothing is written to standard output. A job without
-- an output fails as it does without `-o`, but for a failed write to memory.
pub record OutputsInFilesAreKnown : Type 0 where
  pub to_output : (run : Run) (done : Done) → IsOutputRun only_in in_job widest run (Ok done) None
      → Writes run.output kernel_file run.new_output
  pub to_file : (run : Run) (done : Done) (after : List FileStep)
      → IsOutputRun only_in in_job widest run (Ok done) (Some (lent (codes "out")))
      → run.new_steps ≡ Some after
      → (run.new_output ≡ run.output) × (before : List FileStep) × (steps : List FileStep)
      × (after ≡ before ++ steps) × AreSavingSteps (codes "out") kernel_file steps
  pub not_held : (before after : Inputs) (failed : SourceFailure)
      → IsHeldFailure without_files in_job widest before after failed
      → failed ≡ source_failure file_in CannotOpen
  pub write_failed : failure_in_memory (Call WriteFailed) ≡ Call OutOfMemory
  pub read_failed : failure_in_memory (Call ReadFailed) ≡ Call ReadFailed
  pub cannot_open : failure_in_memory CannotOpen ≡ CannotOpen

-- ---- parts and payloads

-- The bytes of a part that has them.
abbrev pub bytes_in_part : Part → Option (List ℕ)
bytes_in_part (Bytes bytes) = Some bytes.now
bytes_in_part (Length size) = None

-- The files `a` and `b`, in this order.
abbrev pub parts_a_and_b : List PartSource
parts_a_and_b = part.File (lent (codes "a")) ∷ part.File (lent (codes "b")) ∷ []

-- The files of parts are read in their order. A file that is not there is the failure, and with no
-- files none is read.
pub record PartsOfFilesAreKnown : Type 0 where
  pub read : (parts : List Part) (old new : Option (List FileStep))
      → ArePartsRead (two_files (codes "x") (codes "yz")) widest parts_a_and_b parts old new
      → map bytes_in_part parts ≡ Some (codes "x") ∷ Some (codes "yz") ∷ []
  pub length : (given : Part) (old new : Option (List FileStep))
      → IsPart without_files widest (part.Input 5) given old new
      → (given ≡ Length 5) × (new ≡ old)
  pub not_read : (failed : SourceFailure) (old new : Option (List FileStep))
      → IsPartNotRead without_files widest parts_a_and_b failed old new
      → failed ≡ source_failure (File (lent (codes "a"))) CannotOpen
  pub none_read : (old new : Option (List FileStep))
      → AreFirstRead without_files widest parts_a_and_b old new → new ≡ old
  pub no_input : no_input.remaining ≡ Some []

-- The plan of a tree has what the options have, and there is a payload for each image.
pub record FitPlansAreKnown : Type 0 where
  pub default : (plan : FitPlan)
      → (plan_of_options (record plan { default = Some (lent (codes "c")) })).default
      ≡ Some (codes "c")
  pub no_default : (plan : FitPlan)
      → (plan_of_options (record plan { default = None })).default ≡ None
  pub algorithms : (plan : FitPlan) → (plan_of_options plan).algorithms ≡ plan.algorithms.items
  pub sources : (plan : FitPlan) → sources_of (Fit plan) ≡ plan.payloads.items
  pub lengths : (plan : FitPlan) → HasJobLengths (Build (Fit plan))
      → length (sources_of (Fit plan)) ≡ length plan.images.items

-- Extracting all payloads of that file.
abbrev pub all_of_in : Bor (List ℕ) → AllRequest
all_of_in directory =
    record { directory = directory; offset = 0; source = file_in; limits = widest }

-- If the file is not there nothing is written: the one step is the try to open it.
pub record AllWorksAreKnown : Type 0 where
  pub no_file : (directory : Bor (List ℕ)) (before after : Inputs)
      (outcome : Result Done SourceFailure)
      → IsAllWork without_files (all_of_in directory) before after outcome
      → before.steps ≡ Some []
      → (outcome ≡ Err (source_failure file_in CannotOpen))
      × IfSome after.steps (λ steps. steps ≡ NotOpened (codes "in") ∷ [])
