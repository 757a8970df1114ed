use Rattle.std.specs.Prelude.{◌≡◌, ◌≢◌, ◌⊎◌, ◌++◌, ◌<◌, ℕ, Bool, true, false, List, []}
use Rattle.std.specs.Prelude.{◌∷◌, ◌&&◌, is_some, not}
use Rattle.std.specs.Prelude.{Option, None, Some, option_map}
use Rattle.std.specs.Prelude.{Result, Ok, Err, codes}
use Rattle.std.specs.Borrow.{Bor}
use Rattle.std.specs.Fmt.{decimal}
use Rattle.bi_base.specs.declared.fault.Error.{Error}
use Rattle.bi_base.specs.declared.fault.Error.TheVariants.{OutOfMemory, WriteFailed}
use Rattle.bi_base.specs.Limits.{Limits}
use Rattle.bi_base.specs.Pipes.{IsTracedPipe}
use Rattle.bi_base.specs.Reading.{IsInputRead, IsInputNotRead}
use Rattle.bi_base.specs.Traces.{ReadTrace, WriteTrace, WritesWell}
use Rattle.bi_base.specs.Writing.{WroteAll, WriteStopped, WroteAndFlushed, WriteOrFlushStopped}
use Rattle.bi_base.specs.Commands.{CommandPromise}
use Rattle.bi_edit.specs.declared.edit.Edit.{Edit}
use Rattle.bi_edit.specs.declared.edit_error.EditError.{EditError}
use Rattle.bi_edit.specs.declared.edit_notes.EditNotes.{EditNotes}
use Rattle.bi_edit.specs.declared.words.PayloadWord.{PayloadWord}
use Rattle.bi_edit.specs.EditedFiles.{IsEdited, IsEditFileError, IsEditOutput}
use Rattle.bi_common.specs.Offsets.{input_from}
use Rattle.bi_describe.specs.declared.compare.CompareError.{CompareError}
use Rattle.bi_describe.specs.MadeWords.{ignored_words}
use Rattle.bi_commands.specs.BuildCommands.{build_legacy_promise, build_fit_promise}
use Rattle.bootimg.specs.OwnTexts.{planned_configurations, planned_descriptions}
use Rattle.bi_norm.specs.FitBuilding.{PlanSpecModel, texts_models}
use Rattle.bi_commands.specs.ExtractingAll.{AreAllPayloads, IsExtractAllError, PayloadFile}
use Rattle.bi_commands.specs.declared.parts.Part.{Part}
use Rattle.bi_commands.specs.declared.parts.Part.TheVariants.{Bytes, Length}
use Rattle.clap.specs.declared.error.kind.ErrorKind.{ErrorKind}
use Rattle.clap.specs.declared.error.kind.ErrorKind.TheVariants.{DisplayHelp, DisplayVersion}
use Rattle.bootimg.specs.declared.command_line.ImagePlan.{ImagePlan}
use Rattle.bootimg.specs.declared.command_line.Job.{Job}
use Rattle.bootimg.specs.declared.command_line.Job.TheVariants.{Run as RunTask, Compare, Build}
use Rattle.bootimg.specs.declared.command_line.Job.TheVariants.{Explain, Edit as EditJob}
use Rattle.bootimg.specs.declared.command_line.Request.{Request}
use Rattle.bootimg.specs.declared.command_line.build.BuildPlan.{BuildPlan}
use Rattle.bootimg.specs.declared.command_line.build.BuildPlan.TheVariants.{Legacy, Fit}
use Rattle.bootimg.specs.declared.command_line.build.FitPlan.{FitPlan}
use Rattle.bootimg.specs.declared.command_line.edits.EditPlan.{EditPlan}
use Rattle.bootimg.specs.declared.command_line.extract.AllRequest.{AllRequest}
use Rattle.bootimg.specs.declared.command_line.part.PartSource.{PartSource}
use Rattle.bootimg.specs.declared.command_line.part.PartSource.TheVariants as part
use Rattle.bootimg.specs.declared.command_line.source.ComparePlan.{ComparePlan}
use Rattle.bootimg.specs.declared.command_line.source.ImageSource.{ImageSource}
use Rattle.bootimg.specs.declared.command_line.source.ImageSource.TheVariants.{Standard, File}
use Rattle.bootimg.specs.declared.failure.Failure.{Failure}
use Rattle.bootimg.specs.declared.failure.Failure.TheVariants.{Call, CannotOpen}
use Rattle.bootimg.specs.declared.failure.Failure.TheVariants.{OutputIsTerminal}
use Rattle.bootimg.specs.declared.jobs.SourceFailure.{SourceFailure}
use Rattle.bootimg.specs.declared.tasks.Done.{Done}
use Rattle.bootimg.specs.declared.terminal.Terminal.{Terminal}
use Rattle.bootimg.specs.CommandLine.{reads_input, sources_of}
use Rattle.bootimg.specs.ComparedFiles.{IsCompareOutput, IsCompareFailure}
use Rattle.bootimg.specs.ComparedFiles.{failure_of_comparing, refused_source}
use Rattle.bootimg.specs.EditedImages.{AreEditsOf, IsFailureOfEditing}
use Rattle.bi_files.specs.declared.saving.SaveError.{SaveError}
use Rattle.bi_files.specs.Directories.{IsDirectorySaved, IsDirectoryNotSaved, IsWithoutSlashes}
use Rattle.bootimg.specs.Explanations.{explain_text}
use Rattle.bootimg.specs.declared.explanations.Topic.{Topic}
use Rattle.bootimg.specs.Failures.{failure_text, failure_to_save, name_text}
use Rattle.bootimg.specs.Hints.{hint_given, hint_line}
use Rattle.bi_files.specs.Files.{FileStep, KnownFiles, WasOpened, WasNotOpened, IsSaved, IsNotSaved}
use Rattle.bi_files.specs.Files.{WereReadInTurn}
use Rattle.bootimg.specs.Tasks.{EndedWith, EndedWithNotes, plan_promise, status_of}

-- What a run of the program does: which bytes it writes to which stream, and its exit status
-- (profile of this project).

-- These bytes were written to standard error, or writing them stopped, which is ignored.
pub data Logs (old : WriteTrace) (bytes : List ℕ) (new : WriteTrace) : Type 0 where
  IsLogged : WroteAll old bytes new → Logs old bytes new
  HasStopped : (error : Error) → WriteStopped old bytes new error → Logs old bytes new

-- The line of a failure with an image from this source.
abbrev pub failure_line : ImageSource → Failure → List ℕ
failure_line source failure =
    codes "bootimg: " ++ ((name_text source failure ++ failure_text failure) ++ 10 ∷ [])

-- The line of a failure was written, and after it that of a hint, if there is one.
abbrev pub Reports : ImageSource → Failure → (hint : Option (List ℕ)) → (old new : WriteTrace)
    → Type 0
Reports source failure hint old new = Logs old (failure_line source failure ++ hint_line hint) new

-- The line on the signature nodes of a normal form.
abbrev pub note_line : (signatures : ℕ) → List ℕ
note_line signatures =
    codes "bootimg: note: "
    ++ (decimal signatures ++ (codes " signature nodes carried, not checked" ++ 10 ∷ []))

-- The line on payloads that are inside the blob, and were not in the input.
abbrev pub inside_line : (inside : ℕ) → List ℕ
inside_line inside =
    codes "bootimg: note: "
    ++ (decimal inside ++ (codes " payloads are inside the blob now, see --external" ++ 10 ∷ []))

-- The line on an alignment in bytes that payloads lose.
abbrev pub alignment_line : (bytes : ℕ) → List ℕ
alignment_line bytes =
    codes "bootimg: note: payloads are no longer aligned to "
    ++ (decimal bytes ++ (codes " bytes, see --align" ++ 10 ∷ []))

-- The line on payloads whose positions in the file are fixed.
abbrev pub positions_line : (positions : ℕ) → List ℕ
positions_line positions =
    codes "bootimg: note: "
    ++ (decimal positions ++ (codes " fixed positions of payloads were not kept" ++ 10 ∷ []))

-- A line on so many of something was written, if there are any.
pub data NotesCount (count : ℕ) (line : List ℕ) (old new : WriteTrace) : Type 0 where
  HasNone : count ≡ 0 → new ≡ old → NotesCount count line old new
  HasSome : 0 < count → Logs old line new → NotesCount count line old new

-- The line on an alignment was written, if one is lost.
abbrev pub NotesAlignment : (alignment : Option ℕ) → (old new : WriteTrace) → Type 0
NotesAlignment None old new = new ≡ old
NotesAlignment (Some bytes) old new = Logs old (alignment_line bytes) new

-- The notes were written: the lines on signature nodes, on payloads inside the blob, on an
-- alignment and on fixed positions, in this order, each if there is something to say.
pub record Notes (done : Done) (old new : WriteTrace) : Type 0 where
  pub first : WriteTrace
  pub second : WriteTrace
  pub third : WriteTrace
  pub signatures : NotesCount done.kept.signatures (note_line done.kept.signatures) old first
  pub inside : NotesCount done.inside (inside_line done.inside) first second
  pub alignment : NotesAlignment done.kept.lost_alignment second third
  pub positions :
      NotesCount done.kept.lost_positions (positions_line done.kept.lost_positions) third new

-- The failure is about an image from this source, or about the output file of this name.
abbrev pub source_failure : ImageSource → Failure → SourceFailure
source_failure source failure = record { source = source; failure = failure }

-- What a job read from standard input and wrote to its output, and how it ended.
pub record Work : Type 0 where
  pub input : ReadTrace
  pub new_input : ReadTrace
  pub output : WriteTrace
  pub new_output : WriteTrace
  pub outcome : Result Done SourceFailure

-- Standard input, and the steps with files so far.
pub record Inputs : Type 0 where
  pub input : ReadTrace
  pub steps : Option (List FileStep)

-- Work with another input.
abbrev pub with_input : Work → (old new : ReadTrace) → Work
with_input work old new = record {
  input = old;
  new_input = new;
  output = work.output;
  new_output = work.new_output;
  outcome = work.outcome;
}

-- Nothing was written, and it ended with this failure.
pub record IsFailedWork (source : ImageSource) (failure : Failure) (work : Work) : Type 0 where
  pub nothing_written : work.new_output ≡ work.output
  pub outcome : work.outcome ≡ Err (source_failure source failure)

-- ---- a task

-- The promise of a task on an image from a source.
abbrev pub Promise : Type 1
Promise = CommandPromise Done Failure

-- A task with this promise was done on the image from this source, from `input` to its output.
pub data IsTaskWork (promise : Promise) (source : ImageSource) (limits : Limits) (work : Work)
    : Type 0
  where
    Succeeded : (done : Done)
        → IsTracedPipe promise limits work.input work.new_input work.output work.new_output
        (Ok done)
        → work.outcome ≡ Ok done → IsTaskWork promise source limits work
    HasFailed : (failure : Failure)
        → IsTracedPipe promise limits work.input work.new_input work.output work.new_output
        (Err failure)
        → work.outcome ≡ Err (source_failure source failure)
        → IsTaskWork promise source limits work

-- The task was done with the input from its source: standard input, and no step with a file was
-- taken; or a file that was opened and closed. Standard input is not read beside a file. `old` and
-- `new` are the steps with files before the work and after it.
pub data IsImageWork (files : KnownFiles) (promise : Promise) (source : ImageSource)
    (limits : Limits) (work : Work) (old new : Option (List FileStep)) : Type 0
  where
    DoneOnInput : source ≡ Standard → IsTaskWork promise source limits work → new ≡ old
        → IsImageWork files promise source limits work old new
    DoneOnFile : (name : Bor (List ℕ)) → source ≡ File name → (opened end : ReadTrace)
        → WasOpened files name.now opened end old new
        → IsTaskWork promise source limits (with_input work opened end)
        → work.new_input ≡ work.input → IsImageWork files promise source limits work old new
    FileNotOpened : (name : Bor (List ℕ)) → source ≡ File name
        → WasNotOpened files name.now old new
        → IsFailedWork source CannotOpen work → work.new_input ≡ work.input
        → IsImageWork files promise source limits work old new

-- The task of a plan was done on its image.
abbrev pub IsPlanWork : KnownFiles → ImagePlan → Limits → Work → (old new : Option (List FileStep))
    → Type 0
IsPlanWork files plan limits work old new =
    IsImageWork files (plan_promise plan limits) plan.source limits work old new

-- ---- whole inputs and files

-- Reading a whole input failed.
pub record IsNotRead (limits : Limits) (old new : ReadTrace) (failure : Failure) : Type 0 where
  pub error : Error
  pub not_read : IsInputNotRead limits old new error
  pub is : failure ≡ Call error

-- The file of this name was opened, read as a whole and closed.
pub record IsFileRead (files : KnownFiles) (limits : Limits) (name bytes : List ℕ)
    (old new : Option (List FileStep)) : Type 0
  where
    pub opened : ReadTrace
    pub end : ReadTrace
    pub was_opened : WasOpened files name opened end old new
    pub is_read : IsInputRead limits opened end bytes

-- The file of this name was not read, for this reason: it could not be opened, or it was opened,
-- reading it failed, and it was closed.
pub data IsFileNotRead (files : KnownFiles) (limits : Limits) (name : List ℕ) (failure : Failure)
    (old new : Option (List FileStep)) : Type 0
  where
    CouldNotOpen : WasNotOpened files name old new → failure ≡ CannotOpen
        → IsFileNotRead files limits name failure old new
    OpenedNotRead : (opened end : ReadTrace) → WasOpened files name opened end old new
        → IsNotRead limits opened end failure → IsFileNotRead files limits name failure old new

-- ---- comparing

-- The image was read from its source. Standard input is as before if it is a file.
pub data IsImageRead (files : KnownFiles) (limits : Limits) (old new : Inputs) (image : List ℕ)
    : (source : ImageSource) → Type 0
  where
    InputRead : IsInputRead limits old.input new.input image → new.steps ≡ old.steps
        → IsImageRead files limits old new image Standard
    FileRead : (name : Bor (List ℕ)) → IsFileRead files limits name.now image old.steps new.steps
        → new.input ≡ old.input → IsImageRead files limits old new image (File name)

-- The image was not read from its source, for this reason.
pub data IsImageNotRead (files : KnownFiles) (limits : Limits) (old new : Inputs)
    (failure : Failure) : (source : ImageSource) → Type 0
  where
    InputNotRead : IsNotRead limits old.input new.input failure → new.steps ≡ old.steps
        → IsImageNotRead files limits old new failure Standard
    FileNotRead : (name : Bor (List ℕ))
        → IsFileNotRead files limits name.now failure old.steps new.steps
        → new.input ≡ old.input → IsImageNotRead files limits old new failure (File name)

-- Two images were compared: their differences were written, or that failed, or they could not be
-- compared.
pub data IsComparedWork (plan : ComparePlan) (limits : Limits) (one other : List ℕ) (work : Work)
    : Type 0
  where
    WroteDifferences : (same : Bool) (text : List ℕ)
        → IsCompareOutput (ignored_words plan.ignored.items) plan.quiet plan.deep plan.format limits
        one other same text
        → WroteAndFlushed work.output text work.new_output
        → (done : Done) → EndedWith same done → work.outcome ≡ Ok done
        → IsComparedWork plan limits one other work
    NotAllWritten : (same : Bool) (text : List ℕ)
        → IsCompareOutput (ignored_words plan.ignored.items) plan.quiet plan.deep plan.format limits
        one other same text
        → (error : Error) → WriteOrFlushStopped work.output text work.new_output error
        → work.outcome ≡ Err (source_failure Standard (Call error))
        → IsComparedWork plan limits one other work
    NotCompared : (error : CompareError)
        → IsCompareFailure (ignored_words plan.ignored.items) plan.quiet plan.deep limits one other
        error
        → IsFailedWork (refused_source plan error) (failure_of_comparing error) work
        → IsComparedWork plan limits one other work

-- The first image was read, then the second one, and then both were compared. If an image was not
-- read, nothing else was.
pub data IsCompareWork (files : KnownFiles) (plan : ComparePlan) (limits : Limits) (work : Work)
    (old new : Option (List FileStep)) : Type 0
  where
    BothRead : (one other : List ℕ) (middle : Inputs)
        → IsImageRead files limits (record { input = work.input; steps = old }) middle one plan.one
        → IsImageRead files limits middle (record { input = work.new_input; steps = new }) other
        plan.other
        → IsComparedWork plan limits one other work → IsCompareWork files plan limits work old new
    OneNotRead : (failure : Failure)
        → IsImageNotRead files limits (record { input = work.input; steps = old })
        (record { input = work.new_input; steps = new }) failure plan.one
        → IsFailedWork plan.one failure work → IsCompareWork files plan limits work old new
    OtherNotRead : (one : List ℕ) (middle : Inputs) (failure : Failure)
        → IsImageRead files limits (record { input = work.input; steps = old }) middle one plan.one
        → IsImageNotRead files limits middle (record { input = work.new_input; steps = new })
        failure plan.other
        → IsFailedWork plan.other failure work → IsCompareWork files plan limits work old new

-- ---- editing

-- The files of these words for payloads were read, in this order, and have these contents.
abbrev pub ArePayloadsRead : KnownFiles → Limits → List PayloadWord → (contents : List (List ℕ))
    → (old new : Option (List FileStep)) → Type 0
ArePayloadsRead files limits =
    WereReadInTurn (λ word bytes. IsFileRead files limits word.file.now bytes)

-- The file of a payload was not read, for this reason, and those of the payloads before it were.
pub record IsPayloadNotRead (files : KnownFiles) (limits : Limits) (words : List PayloadWord)
    (failed : SourceFailure) (old new : Option (List FileStep)) : Type 0
  where
    pub before : List PayloadWord
    pub word : PayloadWord
    pub later : List PayloadWord
    pub contents : List (List ℕ)
    pub middle : Option (List FileStep)
    pub is : words ≡ before ++ word ∷ later
    pub are_read : ArePayloadsRead files limits before contents old middle
    pub not_read : IsFileNotRead files limits word.file.now failed.failure middle new
    pub named : failed.source ≡ File word.file

-- The files of the first of these payloads were read, and of no others.
pub record AreFirstPayloads (files : KnownFiles) (limits : Limits) (words : List PayloadWord)
    (old new : Option (List FileStep)) : Type 0
  where
    pub first : List PayloadWord
    pub later : List PayloadWord
    pub contents : List (List ℕ)
    pub is : words ≡ first ++ later
    pub are_read : ArePayloadsRead files limits first contents old new

-- The file of the first of these payloads that could not be read was not read, or memory ran out.
abbrev pub IsPayloadsFailure : KnownFiles → Limits → List PayloadWord → SourceFailure
    → (old new : Option (List FileStep)) → Type 0
IsPayloadsFailure files limits words failed old new =
    IsPayloadNotRead files limits words failed old new
    ⊎ (AreFirstPayloads files limits words old new
    × (failed ≡ source_failure Standard (Call OutOfMemory)))

-- An image was edited with payloads of these contents: the text was written, or that failed, or the
-- edits could not be made.
pub data IsEditedWork (plan : EditPlan) (limits : Limits) (image : List ℕ)
    (contents : List (List ℕ)) (work : Work) : Type 0
  where
    WroteEdited : (edits : List Edit) → AreEditsOf plan contents edits
        → (notes : EditNotes) (text : List ℕ)
        → IsEditOutput edits plan.choice limits notes (input_from plan.offset image) text
        → WroteAndFlushed work.output text work.new_output
        → (done : Done) → EndedWithNotes notes done → work.outcome ≡ Ok done
        → IsEditedWork plan limits image contents work
    NotWholeWritten : (edits : List Edit) → AreEditsOf plan contents edits → (text : List ℕ)
        → IsEdited edits plan.choice limits (input_from plan.offset image) text
        → (error : Error) → WriteOrFlushStopped work.output text work.new_output error
        → work.outcome ≡ Err (source_failure plan.source (Call error))
        → IsEditedWork plan limits image contents work
    CouldNotEdit : (edits : List Edit) → AreEditsOf plan contents edits → (error : EditError)
        → IsEditFileError edits plan.choice limits (input_from plan.offset image) error
        → (failure : Failure)
        → IsFailureOfEditing plan.removal_words.items (input_from plan.offset image) error failure
        → IsFailedWork plan.source failure work → IsEditedWork plan limits image contents work
    NoRoomForEdits : IsFailedWork Standard (Call OutOfMemory) work
        → IsEditedWork plan limits image contents work

-- The image was read, then the files of the payloads, in their order, and then the image was
-- edited. If something was not read, nothing after it was.
pub data IsEditWork (files : KnownFiles) (plan : EditPlan) (limits : Limits) (work : Work)
    (old new : Option (List FileStep)) : Type 0
  where
    AllRead : (image : List ℕ) (contents : List (List ℕ)) (middle : Option (List FileStep))
        → IsImageRead files limits (record { input = work.input; steps = old })
        (record { input = work.new_input; steps = middle }) image plan.source
        → ArePayloadsRead files limits plan.payloads.items contents middle new
        → IsEditedWork plan limits image contents work → IsEditWork files plan limits work old new
    ImageNotRead : (failure : Failure)
        → IsImageNotRead files limits (record { input = work.input; steps = old })
        (record { input = work.new_input; steps = new }) failure plan.source
        → IsFailedWork plan.source failure work → IsEditWork files plan limits work old new
    PayloadsNotRead : (image : List ℕ) (middle : Option (List FileStep)) (failed : SourceFailure)
        → IsImageRead files limits (record { input = work.input; steps = old })
        (record { input = work.new_input; steps = middle }) image plan.source
        → IsPayloadsFailure files limits plan.payloads.items failed middle new
        → IsFailedWork failed.source failed.failure work
        → IsEditWork files plan limits work old new

-- ---- explaining

-- What this cause means, or what each one means, was written, or that failed. Nothing was read.
pub data IsExplainWork (topic : Option Topic) (work : Work) : Type 0 where
  WroteExplanation : WroteAndFlushed work.output (explain_text topic) work.new_output
      → (done : Done) → EndedWith true done → work.outcome ≡ Ok done → work.new_input ≡ work.input
      → IsExplainWork topic work
  ExplanationNotWritten : (error : Error)
      → WriteOrFlushStopped work.output (explain_text topic) work.new_output error
      → work.outcome ≡ Err (source_failure Standard (Call error)) → work.new_input ≡ work.input
      → IsExplainWork topic work
  NoMemoryForExplanation : IsFailedWork Standard (Call OutOfMemory) work
      → work.new_input ≡ work.input → IsExplainWork topic work

-- ---- building

-- A part from its source: of the length that is given, or with the bytes of the whole file.
abbrev pub IsPart : KnownFiles → Limits → PartSource → Part → (old new : Option (List FileStep))
    → Type 0
IsPart files limits (part.Input size) (Length other) old new = (other ≡ size) × (new ≡ old)
IsPart files limits (part.File name) (Bytes bytes) old new =
    IsFileRead files limits name.now bytes.now old new
IsPart files limits source other old new = ⊥

-- The parts are those of their sources, whose files were read in this order.
abbrev pub ArePartsRead : KnownFiles → Limits → List PartSource → List Part
    → (old new : Option (List FileStep)) → Type 0
ArePartsRead files limits = WereReadInTurn (IsPart files limits)

-- The file of a part was not read, for this reason, and those of the parts before it were.
pub record IsPartNotRead (files : KnownFiles) (limits : Limits) (sources : List PartSource)
    (failed : SourceFailure) (old new : Option (List FileStep)) : Type 0
  where
    pub before : List PartSource
    pub name : Bor (List ℕ)
    pub later : List PartSource
    pub parts : List Part
    pub middle : Option (List FileStep)
    pub is : sources ≡ before ++ part.File name ∷ later
    pub are_read : ArePartsRead files limits before parts old middle
    pub not_read : IsFileNotRead files limits name.now failed.failure middle new
    pub named : failed.source ≡ File name

-- The files of the first of these parts were read, and of no others.
pub record AreFirstRead (files : KnownFiles) (limits : Limits) (sources : List PartSource)
    (old new : Option (List FileStep)) : Type 0
  where
    pub first : List PartSource
    pub later : List PartSource
    pub parts : List Part
    pub is : sources ≡ first ++ later
    pub are_read : ArePartsRead files limits first parts old new

-- The plan of a flattened image tree, as the options give it.
abbrev pub plan_of_options : FitPlan → PlanSpecModel
plan_of_options plan = record {
  configurations = planned_configurations plan.own_texts plan.configurations.items;
  default = option_map (λ name. name.now) plan.default;
  algorithms = plan.algorithms.items;
  texts = texts_models plan.texts.items;
  descriptions = planned_descriptions plan.own_texts plan.images.items;
}

-- What building a flattened image tree with these payloads promises as a command.
abbrev pub fit_promise : FitPlan → List Part → Limits → CommandPromise (Unit {0}) Error
fit_promise plan payloads =
    build_fit_promise plan.form plan.head (plan_of_options plan) plan.images.items payloads

-- What building an image of these parts promises as a command.
abbrev pub build_promise : BuildPlan → List Part → Limits → CommandPromise (Unit {0}) Error
build_promise (Legacy plan) parts = build_legacy_promise plan.fields parts
build_promise (Fit plan) parts = fit_promise plan parts

-- The image of these parts was built, from `input` to its output, or that failed.
pub data IsBuiltWork (plan : BuildPlan) (parts : List Part) (limits : Limits) (work : Work) : Type 0
  where
    WasBuilt : (done : Done)
        → IsTracedPipe (build_promise plan parts limits) limits work.input work.new_input
        work.output work.new_output (Ok tt)
        → EndedWith true done → work.outcome ≡ Ok done → IsBuiltWork plan parts limits work
    WasNotBuilt : (error : Error)
        → IsTracedPipe (build_promise plan parts limits) limits work.input work.new_input
        work.output work.new_output (Err error)
        → work.outcome ≡ Err (source_failure Standard (Call error))
        → IsBuiltWork plan parts limits work

-- An input without bytes, before each call and after it. No call on it fails.
abbrev pub no_input : ReadTrace
no_input = record {
  reader = 0;
  remaining = Some [];
  taken = 0;
  failed = false;
  interruptions = 0;
  stopped = false;
}

-- The files of the parts were read, in their order, and then the image was built: with standard
-- input if it is to be read, and else with an input without bytes, which is not a step. Or that
-- failed before standard input was read.
pub data IsBuildWork (files : KnownFiles) (plan : BuildPlan) (limits : Limits) (work : Work)
    (old new : Option (List FileStep)) : Type 0
  where
    BuiltWithInput : (parts : List Part) → ArePartsRead files limits (sources_of plan) parts old new
        → reads_input (sources_of plan) ≡ true → IsBuiltWork plan parts limits work
        → IsBuildWork files plan limits work old new
    BuiltOfFiles : (parts : List Part) → ArePartsRead files limits (sources_of plan) parts old new
        → reads_input (sources_of plan) ≡ false
        → IsBuiltWork plan parts limits (with_input work no_input no_input)
        → work.new_input ≡ work.input → IsBuildWork files plan limits work old new
    PartNotRead : (failed : SourceFailure)
        → IsPartNotRead files limits (sources_of plan) failed old new
        → IsFailedWork failed.source failed.failure work → work.new_input ≡ work.input
        → IsBuildWork files plan limits work old new
    -- Memory ran out for the list of parts.
    NoRoom : AreFirstRead files limits (sources_of plan) old new
        → IsFailedWork Standard (Call OutOfMemory) work → work.new_input ≡ work.input
        → IsBuildWork files plan limits work old new

-- ---- a job

-- The job was done. `old` and `new` are the steps with files before it and after it.
abbrev pub IsJobWork : KnownFiles → Job → Limits → Work → (old new : Option (List FileStep))
    → Type 0
IsJobWork files (RunTask plan) limits work old new = IsPlanWork files plan limits work old new
IsJobWork files (Compare plan) limits work old new = IsCompareWork files plan limits work old new
IsJobWork files (EditJob plan) limits work old new = IsEditWork files plan limits work old new
IsJobWork files (Explain topic) limits work old new = IsExplainWork topic work × (new ≡ old)
IsJobWork files (Build plan) limits work old new = IsBuildWork files plan limits work old new

-- ---- an output in a file

-- A job was done with an output that is held in memory, which was empty before.
pub record IsHeldWork (files : KnownFiles) (job : Job) (limits : Limits) (before after : Inputs)
    (outcome : Result Done SourceFailure) (held : Option (List ℕ)) : Type 0
  where
    pub memory : WriteTrace
    pub new_memory : WriteTrace
    pub empty : memory.contents ≡ Some []
    pub writes_well : WritesWell memory
    pub holds : new_memory.contents ≡ held
    pub work : IsJobWork files job limits
        (record {
          input = before.input;
          new_input = after.input;
          output = memory;
          new_output = new_memory;
          outcome = outcome;
        })
        before.steps after.steps

-- A failed write to memory means that memory ran out.
abbrev pub failure_in_memory : Failure → Failure
failure_in_memory (Call WriteFailed) = Call OutOfMemory
failure_in_memory failure = failure

-- A job with an output that is held in memory failed in this way.
pub record IsHeldFailure (files : KnownFiles) (job : Job) (limits : Limits) (before after : Inputs)
    (failed : SourceFailure) : Type 0
  where
    pub cause : SourceFailure
    pub held : Option (List ℕ)
    pub work : IsHeldWork files job limits before after (Err cause) held
    pub source : failed.source ≡ cause.source
    pub failure : failed.failure ≡ failure_in_memory cause.failure

-- A job was done, and then its whole output was saved in the file of this name; or that failed, or
-- the job did, and the file is as it was.
pub data IsSavedWork (files : KnownFiles) (job : Job) (limits : Limits) (name : Bor (List ℕ))
    (before after : Inputs) (outcome : Result Done SourceFailure) : Type 0
  where
    OutputSaved : (done : Done) (output : List ℕ) (worked : Option (List FileStep))
        → IsHeldWork files job limits before (record { input = after.input; steps = worked })
        (Ok done) (Some output)
        → IsSaved files name.now output worked after.steps → outcome ≡ Ok done
        → IsSavedWork files job limits name before after outcome
    OutputNotSaved : (done : Done) (output : List ℕ) (worked : Option (List FileStep))
        → IsHeldWork files job limits before (record { input = after.input; steps = worked })
        (Ok done) (Some output)
        → (error : SaveError) → IsNotSaved files name.now output error worked after.steps
        → outcome ≡ Err (source_failure (File name) (failure_to_save error))
        → IsSavedWork files job limits name before after outcome
    NoOutput : (failed : SourceFailure) → IsHeldFailure files job limits before after failed
        → outcome ≡ Err failed → IsSavedWork files job limits name before after outcome

-- ---- extracting all payloads

-- All payloads of the image at the offset were saved in a new directory of the name; or that
-- failed, or the image was read and its payloads could not be extracted, or it was not read.
-- Nothing is written before all is read and extracted.
pub data IsAllWork (files : KnownFiles) (request : AllRequest) (before after : Inputs)
    (outcome : Result Done SourceFailure) : Type 0
  where
    PayloadsSaved : (file name : List ℕ) (payloads : List PayloadFile)
        (read : Option (List FileStep))
        → IsImageRead files request.limits before (record { input = after.input; steps = read })
        file request.source
        → AreAllPayloads request.limits (input_from request.offset file) payloads
        → IsWithoutSlashes request.directory.now name
        → IsDirectorySaved files name payloads read after.steps
        → (done : Done) → EndedWith true done → outcome ≡ Ok done
        → IsAllWork files request before after outcome
    PayloadsNotSaved : (file name : List ℕ) (payloads : List PayloadFile)
        (read : Option (List FileStep))
        → IsImageRead files request.limits before (record { input = after.input; steps = read })
        file request.source
        → AreAllPayloads request.limits (input_from request.offset file) payloads
        → IsWithoutSlashes request.directory.now name
        → (error : SaveError) → IsDirectoryNotSaved files name payloads error read after.steps
        → outcome ≡ Err (source_failure (File request.directory) (failure_to_save error))
        → IsAllWork files request before after outcome
    NotExtracted : (file : List ℕ)
        → IsImageRead files request.limits before after file request.source
        → (error : Error)
        → IsExtractAllError request.limits (input_from request.offset file) error
        → outcome ≡ Err (source_failure request.source (Call error))
        → IsAllWork files request before after outcome
    NothingRead : (failure : Failure)
        → IsImageNotRead files request.limits before after failure request.source
        → outcome ≡ Err (source_failure request.source failure)
        → IsAllWork files request before after outcome

-- ---- a run

-- The three streams and the steps with files, before and after a call, and the exit status that it
-- returns.
pub record Run : Type 0 where
  pub input : ReadTrace
  pub new_input : ReadTrace
  pub output : WriteTrace
  pub new_output : WriteTrace
  pub errors : WriteTrace
  pub new_errors : WriteTrace
  pub steps : Option (List FileStep)
  pub new_steps : Option (List FileStep)
  pub status : ℕ

-- What a run did with its streams before it wrote to standard error, with this outcome.
abbrev pub work_of : Run → Result Done SourceFailure → Work
work_of run outcome = record {
  input = run.input;
  new_input = run.new_input;
  output = run.output;
  new_output = run.new_output;
  outcome = outcome;
}

-- The inputs of a run before it and after it.
abbrev pub inputs_before : Run → Inputs
inputs_before run = record { input = run.input; steps = run.steps }

abbrev pub inputs_after : Run → Inputs
inputs_after run = record { input = run.new_input; steps = run.new_steps }

-- Nothing was read or written, no step with a file was taken, and a failure with an image from this
-- source was reported, with this hint.
pub record IsRejection (source : ImageSource) (failure : Failure) (hint : Option (List ℕ))
    (run : Run) : Type 0
  where
    pub nothing_read : run.new_input ≡ run.input
    pub nothing_written : run.new_output ≡ run.output
    pub no_steps : run.new_steps ≡ run.steps
    pub reports : Reports source failure hint run.errors run.new_errors
    pub status : run.status ≡ 2

-- A job was done with this output: standard output if no file is named, or else the file of this
-- name, and then nothing was written to standard output.
pub data IsOutputRun (files : KnownFiles) (job : Job) (limits : Limits) (run : Run)
    (outcome : Result Done SourceFailure) : (output : Option (Bor (List ℕ))) → Type 0
  where
    ToStandardOutput : IsJobWork files job limits (work_of run outcome) run.steps run.new_steps
        → IsOutputRun files job limits run outcome None
    ToFile : (name : Bor (List ℕ))
        → IsSavedWork files job limits name (inputs_before run) (inputs_after run) outcome
        → run.new_output ≡ run.output → IsOutputRun files job limits run outcome (Some name)

-- How a run ends: with the notes, if there is something to note, or with the line of a failure and
-- its hint, if hints are given.
pub data IsEnd (hints : Bool) (errors new_errors : WriteTrace) (status : ℕ)
    (outcome : Result Done SourceFailure) : Type 0
  where
    EndsWell : (done : Done) → outcome ≡ Ok done → Notes done errors new_errors
        → status ≡ status_of done.good → IsEnd hints errors new_errors status outcome
    EndsWithFailure : (failed : SourceFailure) → outcome ≡ Err failed
        → Reports failed.source failed.failure (hint_given hints failed.failure) errors new_errors
        → status ≡ 2 → IsEnd hints errors new_errors status outcome

-- Whether the output of a request would be an image or a payload on a terminal.
abbrev pub is_for_terminal : Terminal → Request → Bool
is_for_terminal terminal request =
    (terminal.output && request.writes_image) && not (is_some request.output)

-- The job that is requested was done with the output that is requested; or it would write an image
-- or a payload to a terminal, and this was reported.
pub data IsRequestRun (terminal : Terminal) (files : KnownFiles) (request : Request) (run : Run)
    : Type 0
  where
    DidJob : is_for_terminal terminal request ≡ false → (outcome : Result Done SourceFailure)
        → IsOutputRun files request.job request.limits run outcome request.output
        → IsEnd terminal.errors run.errors run.new_errors run.status outcome
        → IsRequestRun terminal files request run
    KeptFromTerminal : is_for_terminal terminal request ≡ true
        → IsRejection Standard OutputIsTerminal (hint_given terminal.errors OutputIsTerminal) run
        → IsRequestRun terminal files request run

-- All payloads that are requested were extracted, or that failed. Nothing was written to standard
-- output.
pub record IsAllRun (hints : Bool) (files : KnownFiles) (request : AllRequest) (run : Run) : Type 0
  where
    pub outcome : Result Done SourceFailure
    pub done : IsAllWork files request (inputs_before run) (inputs_after run) outcome
    pub nothing_written : run.new_output ≡ run.output
    pub end : IsEnd hints run.errors run.new_errors run.status outcome

-- A text of this kind is what the arguments ask for: help or the version.
abbrev pub IsAskedFor : ErrorKind → Type 0
IsAskedFor kind = (kind ≡ DisplayHelp) ⊎ (kind ≡ DisplayVersion)

-- A text of this kind is the reason why the arguments are wrong.
abbrev pub IsMistake : ErrorKind → Type 0
IsMistake kind = (kind ≢ DisplayHelp) × (kind ≢ DisplayVersion)

-- A text of this kind about the arguments was written: help or the version to standard
-- output, or why the arguments are wrong to standard error. Nothing was read, and no step with a
-- file was taken.
pub data IsTextRun (hints : Bool) (kind : ErrorKind) (text : List ℕ) (run : Run) : Type 0 where
  IsWritten : IsAskedFor kind → WroteAndFlushed run.output text run.new_output
      → run.new_errors ≡ run.errors → run.new_input ≡ run.input → run.new_steps ≡ run.steps
      → run.status ≡ 0 → IsTextRun hints kind text run
  IsNotWritten : IsAskedFor kind → (error : Error)
      → WriteOrFlushStopped run.output text run.new_output error
      → Reports Standard (Call error) (hint_given hints (Call error)) run.errors run.new_errors
      → run.new_input ≡ run.input → run.new_steps ≡ run.steps → run.status ≡ 2
      → IsTextRun hints kind text run
  IsUsage : IsMistake kind → Logs run.errors text run.new_errors → run.new_output ≡ run.output
      → run.new_input ≡ run.input → run.new_steps ≡ run.steps → run.status ≡ 2
      → IsTextRun hints kind text run
