use Rattle.std.proofs.Common.{◌≡◌, ◌∷◌, ℕ, List, [], Option, None, Some, Bor, Result, Ok, Err, IfOk, IfErr, refl, subst, sym}
use Rattle.bootimg.specs.declared.explanations.Topic.{Topic}
use Rattle.bi_base.specs.Limits.{Limits}
use Rattle.bi_base.specs.Reading.{IsInputRead}
use Rattle.bi_base.specs.Traces.{ReadTrace, WriteTrace, WritesWell}
use Rattle.bootimg.specs.declared.command_line.ImagePlan.{ImagePlan}
use Rattle.bootimg.specs.declared.command_line.Job.{Job}
use Rattle.bootimg.specs.declared.command_line.Job.TheVariants.{Run as RunTask, Compare, Build, Explain}
use Rattle.bootimg.specs.declared.command_line.build.BuildPlan.{BuildPlan}
use Rattle.bootimg.specs.declared.command_line.source.ComparePlan.{ComparePlan}
use Rattle.bootimg.specs.declared.command_line.source.ImageSource.{ImageSource}
use Rattle.bootimg.specs.declared.command_line.source.ImageSource.TheVariants.{Standard, File}
use Rattle.bootimg.specs.declared.failure.Failure.{Failure}
use Rattle.bi_files.specs.declared.saving.SaveError.{SaveError}
use Rattle.bi_files.specs.Files.{FileStep, NameHas, IsNoRegularFile, IsOpenFile, KnownFiles, NotOpened, Opened, ReaderClosed}
use Rattle.bi_files.specs.Files.{IsNotSaved, IsSaved, TookSteps, WasNotOpened, WasOpened}
use Rattle.bootimg.specs.declared.jobs.SourceFailure.{SourceFailure}
use Rattle.bootimg.specs.declared.tasks.Done.{Done}
use Rattle.bootimg.specs.Failures.{failure_to_save}
use Rattle.bootimg.specs.Runs.{Inputs, Work, source_failure, IsNotRead, IsImageRead, InputRead, FileRead, IsImageNotRead, InputNotRead}
use Rattle.bootimg.specs.Runs.{FileNotRead, IsEditWork, IsFileRead, IsFileNotRead, OpenedNotRead}
use Rattle.bootimg.specs.declared.command_line.Job.TheVariants.{Edit as EditJob}
use Rattle.bootimg.specs.declared.command_line.edits.EditPlan.{EditPlan}
use Rattle.bootimg.specs.Runs.{IsComparedWork, IsCompareWork, BothRead, OtherNotRead, IsFailedWork, IsBuildWork}
use Rattle.bootimg.specs.Runs.{IsExplainWork, IsJobWork, IsPlanWork, IsHeldWork, IsHeldFailure, failure_in_memory, Run, work_of}
use Rattle.bootimg.specs.Runs.{inputs_before, inputs_after, IsOutputRun, IsSavedWork, OutputSaved, OutputNotSaved, ToStandardOutput, ToFile}
use Rattle.bi_files.proofs.NewFiles.{steps_in_turn}

-- Reading standard input or a file that was opened reads the image, and each job that was done with it is the work of the job.

-- ---- files that were opened

-- A file was opened, and then closed.
pub opened_and_closed : (files : KnownFiles) (name : List ℕ) (opened end : ReadTrace) (old middle new : Option (List FileStep))
    → IsOpenFile files name opened → TookSteps old middle (Opened name opened ∷ [])
    → TookSteps middle new (ReaderClosed name end ∷ []) → WasOpened files name opened end old new
opened_and_closed files name opened end old middle new is_open opens closes = record {
  is_open = is_open;
  steps = steps_in_turn old middle new (Opened name opened ∷ []) (ReaderClosed name end ∷ []) opens closes;
}

-- No file was opened.
pub no_file_opened : (files : KnownFiles) (name : List ℕ) (old new : Option (List FileStep)) → NameHas files name IsNoRegularFile
    → TookSteps old new (NotOpened name ∷ []) → WasNotOpened files name old new
no_file_opened files name old new none steps = record { is_no_file = none; steps = steps }

-- Reading a file that was opened reads the whole file.
pub whole_file_read : {V E : Type 0} (items : V → List ℕ) (files : KnownFiles) (limits : Limits) (name : List ℕ)
    (opened end : ReadTrace) (old new : Option (List FileStep)) (result : Result V E) → WasOpened files name opened end old new
    → IfOk result (λ v. IsInputRead limits opened end (items v))
    → IfOk result (λ v. IsFileRead files limits name (items v) old new)
whole_file_read items files limits name opened end old new (Err error) was_opened read = tt
whole_file_read items files limits name opened end old new (Ok v) was_opened read =
    record { opened = opened; end = end; was_opened = was_opened; is_read = read }

pub whole_file_not_read : {V : Type 0} (files : KnownFiles) (limits : Limits) (name : List ℕ) (opened end : ReadTrace)
    (old new : Option (List FileStep)) (result : Result V Failure) → WasOpened files name opened end old new
    → IfErr result (λ failure. IsNotRead limits opened end failure)
    → IfErr result (λ failure. IsFileNotRead files limits name failure old new)
whole_file_not_read files limits name opened end old new (Ok v) was_opened not_read = tt
whole_file_not_read files limits name opened end old new (Err failure) was_opened not_read = OpenedNotRead opened end was_opened not_read

-- ---- images

-- Reading standard input reads the image, and takes no step with a file.
pub input_read : {V E : Type 0} (items : V → List ℕ) (files : KnownFiles) (limits : Limits) (old new : Inputs)
    (source : ImageSource) (result : Result V E) → source ≡ Standard → new.steps ≡ old.steps
    → IfOk result (λ v. IsInputRead limits old.input new.input (items v))
    → IfOk result (λ v. IsImageRead files limits old new (items v) source)
input_read items files limits old new source (Err error) is same read = tt
input_read items files limits old new source (Ok v) is same read =
    subst (λ s. IsImageRead files limits old new (items v) s) (sym is) (InputRead read same)

pub input_not_read : {V : Type 0} (files : KnownFiles) (limits : Limits) (old new : Inputs) (source : ImageSource)
    (result : Result V Failure) → source ≡ Standard → new.steps ≡ old.steps
    → IfErr result (λ failure. IsNotRead limits old.input new.input failure)
    → IfErr result (λ failure. IsImageNotRead files limits old new failure source)
input_not_read files limits old new source (Ok v) is same not_read = tt
input_not_read files limits old new source (Err failure) is same not_read =
    subst (λ s. IsImageNotRead files limits old new failure s) (sym is) (InputNotRead not_read same)

-- Reading a file reads the image, and leaves standard input as it was.
pub file_read : {V E : Type 0} (items : V → List ℕ) (files : KnownFiles) (limits : Limits) (old new : Inputs) (source : ImageSource)
    (name : Bor (List ℕ)) (result : Result V E) → source ≡ File name → new.input ≡ old.input
    → IfOk result (λ v. IsFileRead files limits name.now (items v) old.steps new.steps)
    → IfOk result (λ v. IsImageRead files limits old new (items v) source)
file_read items files limits old new source name (Err error) is same read = tt
file_read items files limits old new source name (Ok v) is same read =
    subst (λ s. IsImageRead files limits old new (items v) s) (sym is) (FileRead name read same)

pub file_not_read : {V : Type 0} (files : KnownFiles) (limits : Limits) (old new : Inputs) (source : ImageSource)
    (name : Bor (List ℕ)) (result : Result V Failure) → source ≡ File name → new.input ≡ old.input
    → IfErr result (λ failure. IsFileNotRead files limits name.now failure old.steps new.steps)
    → IfErr result (λ failure. IsImageNotRead files limits old new failure source)
file_not_read files limits old new source name (Ok v) is same not_read = tt
file_not_read files limits old new source name (Err failure) is same not_read =
    subst (λ s. IsImageNotRead files limits old new failure s) (sym is) (FileNotRead name not_read same)

-- ---- comparing

-- Two images that were read were compared. Reading the first one did not change what is known of the files.
pub both_read : (files later : KnownFiles) (plan : ComparePlan) (limits : Limits) (work : Work) (old new : Option (List FileStep))
    (one other same_one same_other : List ℕ) (middle : Inputs)
    → IsImageRead files limits (record { input = work.input; steps = old }) middle one plan.one → later ≡ files
    → IsImageRead later limits middle (record { input = work.new_input; steps = new }) other plan.other → same_one ≡ one
    → same_other ≡ other → IsComparedWork plan limits same_one same_other work → IsCompareWork files plan limits work old new
both_read files later plan limits work old new one other same_one same_other middle one_read same other_read ones others compared =
    BothRead one other middle one_read
    (subst (λ f. IsImageRead f limits middle (record { input = work.new_input; steps = new }) other plan.other) same other_read)
    (subst (λ file. IsComparedWork plan limits file other work) ones
    (subst (λ file. IsComparedWork plan limits same_one file work) others compared))

-- The second image was not read.
pub other_not_read : (files later : KnownFiles) (plan : ComparePlan) (limits : Limits) (work : Work) (old new : Option (List FileStep))
    (one : List ℕ) (middle : Inputs) (failure : Failure)
    → IsImageRead files limits (record { input = work.input; steps = old }) middle one plan.one → later ≡ files
    → IsImageNotRead later limits middle (record { input = work.new_input; steps = new }) failure plan.other
    → IsFailedWork plan.other failure work → IsCompareWork files plan limits work old new
other_not_read files later plan limits work old new one middle failure one_read same not_read failed =
    OtherNotRead one middle failure one_read
    (subst (λ f. IsImageNotRead f limits middle (record { input = work.new_input; steps = new }) failure plan.other) same not_read)
    failed

-- ---- jobs

-- The job is to do a task with one image.
pub task_is_done : (files : KnownFiles) (job : Job) (plan : ImagePlan) (limits : Limits) (work : Work)
    (old new : Option (List FileStep)) → job ≡ RunTask plan → IsPlanWork files plan limits work old new
    → IsJobWork files job limits work old new
task_is_done files job plan limits work old new is done = subst (λ j. IsJobWork files j limits work old new) (sym is) done

-- The job is to compare two images.
pub images_are_compared : (files : KnownFiles) (job : Job) (plan : ComparePlan) (limits : Limits) (work : Work)
    (old new : Option (List FileStep)) → job ≡ Compare plan → IsCompareWork files plan limits work old new
    → IsJobWork files job limits work old new
images_are_compared files job plan limits work old new is done = subst (λ j. IsJobWork files j limits work old new) (sym is) done

-- The job is to edit an image.
pub image_is_edited : (files : KnownFiles) (job : Job) (plan : EditPlan) (limits : Limits) (work : Work)
    (old new : Option (List FileStep)) → job ≡ EditJob plan → IsEditWork files plan limits work old new
    → IsJobWork files job limits work old new
image_is_edited files job plan limits work old new is done = subst (λ j. IsJobWork files j limits work old new) (sym is) done

-- The job is to explain.
pub explained_work : (files : KnownFiles) (job : Job) (topic : Option Topic) (limits : Limits) (work : Work)
    (steps : Option (List FileStep)) → job ≡ Explain topic → IsExplainWork topic work → IsJobWork files job limits work steps steps
explained_work files job topic limits work steps is done =
    subst (λ j. IsJobWork files j limits work steps steps) (sym is) (done, refl)

-- The job is to build an image.
pub image_is_built : (files : KnownFiles) (job : Job) (plan : BuildPlan) (limits : Limits) (work : Work)
    (old new : Option (List FileStep)) → job ≡ Build plan → IsBuildWork files plan limits work old new
    → IsJobWork files job limits work old new
image_is_built files job plan limits work old new is done = subst (λ j. IsJobWork files j limits work old new) (sym is) done

-- ---- outputs in memory and in files

-- The output of a job is held in memory.
pub held_work : (files : KnownFiles) (job : Job) (limits : Limits) (before after : Inputs) (memory new_memory : WriteTrace)
    (result outcome : Result Done SourceFailure) (held : Option (List ℕ)) → result ≡ outcome → memory.contents ≡ Some [] → WritesWell memory
    → new_memory.contents ≡ held
    → IsJobWork files job limits
    (record { input = before.input; new_input = after.input; output = memory; new_output = new_memory; outcome = result })
    before.steps after.steps
    → IsHeldWork files job limits before after outcome held
held_work files job limits before after memory new_memory result outcome held same empty well holds done = record {
  memory = memory;
  new_memory = new_memory;
  empty = empty;
  writes_well = well;
  holds = holds;
  work = subst
      (λ (r : Result Done SourceFailure). IsJobWork files job limits
      (record { input = before.input; new_input = after.input; output = memory; new_output = new_memory; outcome = r })
      before.steps after.steps)
      same done;
}

-- A job failed whose output is held in memory.
pub held_failure : (files : KnownFiles) (job : Job) (limits : Limits) (before after : Inputs) (memory new_memory : WriteTrace)
    (result : Result Done SourceFailure) (cause failed : SourceFailure) → result ≡ Err cause → memory.contents ≡ Some [] → WritesWell memory
    → IsJobWork files job limits
    (record { input = before.input; new_input = after.input; output = memory; new_output = new_memory; outcome = result })
    before.steps after.steps
    → failed.source ≡ cause.source → failed.failure ≡ failure_in_memory cause.failure
    → IsHeldFailure files job limits before after failed
held_failure files job limits before after memory new_memory result cause failed same empty well done source failure = record {
  cause = cause;
  held = new_memory.contents;
  work = held_work files job limits before after memory new_memory result (Err cause) new_memory.contents same empty well refl done;
  source = source;
  failure = failure;
}

-- A job was done and its output was saved, or not. The job did not change what is known of the files.
pub output_saved : (files later : KnownFiles) (job : Job) (limits : Limits) (name : Bor (List ℕ)) (before after : Inputs)
    (worked : Option (List FileStep)) (done : Done) (output saved : List ℕ) (outcome : Result Done SourceFailure)
    → IsHeldWork files job limits before (record { input = after.input; steps = worked }) (Ok done) (Some output) → later ≡ files
    → saved ≡ output → IsSaved later name.now saved worked after.steps → outcome ≡ Ok done
    → IsSavedWork files job limits name before after outcome
output_saved files later job limits name before after worked done output saved outcome work same bytes is ends =
    OutputSaved done output worked work
    (subst (λ f. IsSaved f name.now output worked after.steps) same
    (subst (λ b. IsSaved later name.now b worked after.steps) bytes is))
    ends

pub output_not_saved : (files later : KnownFiles) (job : Job) (limits : Limits) (name : Bor (List ℕ)) (before after : Inputs)
    (worked : Option (List FileStep)) (done : Done) (output saved : List ℕ) (outcome : Result Done SourceFailure) (error : SaveError)
    → IsHeldWork files job limits before (record { input = after.input; steps = worked }) (Ok done) (Some output) → later ≡ files
    → saved ≡ output → IsNotSaved later name.now saved error worked after.steps
    → outcome ≡ Err (source_failure (File name) (failure_to_save error))
    → IsSavedWork files job limits name before after outcome
output_not_saved files later job limits name before after worked done output saved outcome error work same bytes is ends =
    OutputNotSaved done output worked work error
    (subst (λ f. IsNotSaved f name.now output error worked after.steps) same
    (subst (λ b. IsNotSaved later name.now b error worked after.steps) bytes is))
    ends

-- The output goes to standard output, or to the file that is named.
pub to_standard_output : (files : KnownFiles) (job : Job) (limits : Limits) (run : Run) (outcome : Result Done SourceFailure)
    (output : Option (Bor (List ℕ))) → output ≡ None
    → IsJobWork files job limits (work_of run outcome) run.steps run.new_steps → IsOutputRun files job limits run outcome output
to_standard_output files job limits run outcome output is done =
    subst (λ o. IsOutputRun files job limits run outcome o) (sym is) (ToStandardOutput done)

pub to_file : (files : KnownFiles) (job : Job) (limits : Limits) (run : Run) (outcome : Result Done SourceFailure)
    (output : Option (Bor (List ℕ))) (name : Bor (List ℕ)) → output ≡ Some name
    → IsSavedWork files job limits name (inputs_before run) (inputs_after run) outcome
    → run.new_output ≡ run.output → IsOutputRun files job limits run outcome output
to_file files job limits run outcome output name is saved same =
    subst (λ o. IsOutputRun files job limits run outcome o) (sym is) (ToFile name saved same)
