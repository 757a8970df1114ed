use Rattle.std.proofs.Common.{Bool, true, false, ◌≡◌, ◌∙◌, ℕ, List, Option, None, Some, Bor, Result, ap, refl}
use Rattle.clap.specs.declared.error.kind.ErrorKind.{ErrorKind}
use Rattle.bi_base.specs.Limits.{Limits}
use Rattle.bi_base.specs.Traces.{WriteTrace}
use Rattle.bi_commands.specs.declared.parts.Part.{Part}
use Rattle.bootimg.specs.declared.command_line.Job.{Job}
use Rattle.bootimg.specs.declared.command_line.Job.TheVariants.{Run as RunTask, Compare, Build, Explain}
use Rattle.bootimg.specs.declared.command_line.Job.TheVariants.{Edit as EditJob}
use Rattle.bootimg.specs.declared.command_line.build.BuildPlan.{BuildPlan}
use Rattle.bootimg.specs.declared.command_line.source.ComparePlan.{ComparePlan}
use Rattle.bootimg.specs.declared.command_line.source.ImageSource.{ImageSource}
use Rattle.bootimg.specs.declared.explanations.Topic.{Topic}
use Rattle.bootimg.specs.declared.failure.Failure.{Failure}
use Rattle.bi_files.specs.Files.{FileStep, KnownFiles}
use Rattle.bootimg.specs.declared.command_line.Request.{Request}
use Rattle.bootimg.specs.declared.command_line.extract.AllRequest.{AllRequest}
use Rattle.bootimg.specs.declared.jobs.SourceFailure.{SourceFailure}
use Rattle.bootimg.specs.declared.tasks.Done.{Done}
use Rattle.bootimg.specs.declared.terminal.Terminal.{Terminal}
use Rattle.bootimg.specs.Runs.{Inputs, Promise, Run, Work, no_input, work_of, with_input, Logs, IsLogged, HasStopped, Notes}
use Rattle.bootimg.specs.Runs.{NotesCount, NotesAlignment, note_line, inside_line, alignment_line, positions_line}
use Rattle.bootimg.specs.Runs.{AllRead, CouldNotEdit, ImageNotRead, IsEditWork, IsEditedWork, NoRoomForEdits, NotWholeWritten}
use Rattle.bootimg.specs.Runs.{PayloadsNotRead, WroteEdited}
use Rattle.bootimg.specs.declared.command_line.edits.EditPlan.{EditPlan}
use Rattle.bootimg.specs.Runs.{HasNone, HasSome, IsRejection, IsTaskWork, Succeeded, HasFailed, IsImageWork, DoneOnInput, DoneOnFile}
use Rattle.bootimg.specs.Runs.{FileNotOpened, IsImageRead, InputRead, FileRead, IsImageNotRead, InputNotRead, FileNotRead, IsComparedWork}
use Rattle.bootimg.specs.Runs.{WroteDifferences, NotAllWritten, NotCompared, IsCompareWork, BothRead, OneNotRead, OtherNotRead}
use Rattle.bootimg.specs.Runs.{IsExplainWork, WroteExplanation, ExplanationNotWritten, NoMemoryForExplanation, IsBuiltWork, WasBuilt}
use Rattle.bootimg.specs.Runs.{WasNotBuilt, IsBuildWork, BuiltWithInput, BuiltOfFiles, PartNotRead, NoRoom, IsJobWork, IsHeldWork}
use Rattle.bootimg.specs.Runs.{IsSavedWork, OutputSaved, OutputNotSaved, NoOutput, IsOutputRun, ToStandardOutput, ToFile, IsEnd, EndsWell}
use Rattle.bootimg.specs.Runs.{DidJob, EndsWithFailure, IsRequestRun, KeptFromTerminal, IsTextRun, IsWritten, IsNotWritten, IsUsage}
use Rattle.bootimg.specs.declared.command_line.images.ImagesRequest.{ImagesRequest}
use Rattle.bootimg.specs.SeveralImages.{AreHeld, AreSaved, IsImageDone, OneHasFailed, Streams, TextsNotSaved, TextsSaved}
use Rattle.bootimg.specs.SeveralImages.{is_last}
use Rattle.bi_labels.specs.InTurn.{AllDone, AreDoneInTurn, LastDone, NextDone}
use Rattle.bootimg.specs.ProgramRuns.{EachToFile, EachToStandardOutput, IsImagesRun, RanEach, streams_after, streams_before}
use Rattle.bootimg.specs.ProgramRuns.{IsRun, RanJob, Rejected}
use Rattle.bootimg.specs.Runs.{IsAllRun, IsAllWork, PayloadsSaved, PayloadsNotSaved, NotExtracted, NothingRead}
use Rattle.bootimg.specs.ProgramRuns.{WroteText, ExtractedAll}

-- A run has the same streams before and after it.

-- The streams of a run are the same before and after it.
pub record KeepsStreams (run : Run) : Type 0 where
  pub reader : run.new_input.reader ≡ run.input.reader
  pub writer : run.new_output.writer ≡ run.output.writer
  pub log : run.new_errors.writer ≡ run.errors.writer

logs_keep : (old new : WriteTrace) (bytes : List ℕ) → Logs old bytes new → new.writer ≡ old.writer
logs_keep old new bytes (IsLogged wrote) = wrote.same_writer
logs_keep old new bytes (HasStopped error stopped) = stopped.same_writer

count_keeps : (count : ℕ) (line : List ℕ) (old new : WriteTrace) → NotesCount count line old new → new.writer ≡ old.writer
count_keeps count line old new (HasNone none same) = ap (λ trace. trace.writer) same
count_keeps count line old new (HasSome some logs) = logs_keep old new line logs

alignment_keeps : (alignment : Option ℕ) (old new : WriteTrace) → NotesAlignment alignment old new → new.writer ≡ old.writer
alignment_keeps None old new same = ap (λ trace. trace.writer) same
alignment_keeps (Some bytes) old new logs = logs_keep old new (alignment_line bytes) logs

notes_keep : (done : Done) (old new : WriteTrace) → Notes done old new → new.writer ≡ old.writer
notes_keep done old new notes =
    count_keeps done.kept.lost_positions (positions_line done.kept.lost_positions) notes.third new notes.positions
    ∙ alignment_keeps done.kept.lost_alignment notes.second notes.third notes.alignment
    ∙ count_keeps done.inside (inside_line done.inside) notes.first notes.second notes.inside
    ∙ count_keeps done.kept.signatures (note_line done.kept.signatures) old notes.first notes.signatures

-- The reader is the same after an image was read, or not read, from its source.
read_keeps : (files : KnownFiles) (limits : Limits) (old new : Inputs) (image : List ℕ) (source : ImageSource)
    → IsImageRead files limits old new image source → new.input.reader ≡ old.input.reader
read_keeps files limits old new image source (InputRead read same) = read.same_reader
read_keeps files limits old new image source (FileRead name read same) = ap (λ trace. trace.reader) same

not_read_keeps : (files : KnownFiles) (limits : Limits) (old new : Inputs) (failure : Failure) (source : ImageSource)
    → IsImageNotRead files limits old new failure source → new.input.reader ≡ old.input.reader
not_read_keeps files limits old new failure source (InputNotRead read same) = read.not_read.same_reader
not_read_keeps files limits old new failure source (FileNotRead name read same) = ap (λ trace. trace.reader) same

rejection_keeps : (source : ImageSource) (failure : Failure) (hint : Option (List ℕ)) (run : Run) → IsRejection source failure hint run
    → KeepsStreams run
rejection_keeps source failure hint run is = record {
  reader = ap (λ trace. trace.reader) is.nothing_read;
  writer = ap (λ trace. trace.writer) is.nothing_written;
  log = logs_keep _ _ _ is.reports;
}

-- The input and the output of work are the same before and after it.
pub record KeepsWork (work : Work) : Type 0 where
  pub reader : work.new_input.reader ≡ work.input.reader
  pub writer : work.new_output.writer ≡ work.output.writer

task_work_keeps : (promise : Promise) (source : ImageSource) (limits : Limits) (work : Work) → IsTaskWork promise source limits work
    → KeepsWork work
task_work_keeps promise source limits work (Succeeded done piped outcome) =
    record { reader = piped.same_streams.same_reader; writer = piped.same_streams.same_writer }
task_work_keeps promise source limits work (HasFailed failure piped outcome) =
    record { reader = piped.same_streams.same_reader; writer = piped.same_streams.same_writer }

image_work_keeps : (files : KnownFiles) (promise : Promise) (source : ImageSource) (limits : Limits) (work : Work)
    (old new : Option (List FileStep)) → IsImageWork files promise source limits work old new → KeepsWork work
image_work_keeps files promise source limits work old new (DoneOnInput standard done steps) = task_work_keeps _ _ _ _ done
image_work_keeps files promise source limits work old new (DoneOnFile name file opened end is done same) = record {
  reader = ap (λ trace. trace.reader) same;
  writer = (task_work_keeps promise source limits (with_input work opened end) done).writer;
}
image_work_keeps files promise source limits work old new (FileNotOpened name file none failed same) =
    record { reader = ap (λ trace. trace.reader) same; writer = ap (λ trace. trace.writer) failed.nothing_written }

-- The output is the same after two images were compared.
compared_keeps_writer : (plan : ComparePlan) (limits : Limits) (one other : List ℕ) (work : Work)
    → IsComparedWork plan limits one other work → work.new_output.writer ≡ work.output.writer
compared_keeps_writer plan limits one other work (WroteDifferences same text is wrote done ended outcome) = wrote.same_writer
compared_keeps_writer plan limits one other work (NotAllWritten same text is error stopped outcome) = stopped.same_writer
compared_keeps_writer plan limits one other work (NotCompared error is failed) = ap (λ trace. trace.writer) failed.nothing_written

compare_work_keeps : (files : KnownFiles) (plan : ComparePlan) (limits : Limits) (work : Work) (old new : Option (List FileStep))
    → IsCompareWork files plan limits work old new → KeepsWork work
compare_work_keeps files plan limits work old new (BothRead one other middle one_read other_read compared) = record {
  reader = read_keeps _ _ _ _ _ _ other_read ∙ read_keeps _ _ _ _ _ _ one_read;
  writer = compared_keeps_writer _ _ _ _ _ compared;
}
compare_work_keeps files plan limits work old new (OneNotRead failure not_read failed) = record {
  reader = not_read_keeps _ _ _ _ _ _ not_read;
  writer = ap (λ trace. trace.writer) failed.nothing_written;
}
compare_work_keeps files plan limits work old new (OtherNotRead one middle failure one_read not_read failed) = record {
  reader = not_read_keeps _ _ _ _ _ _ not_read ∙ read_keeps _ _ _ _ _ _ one_read;
  writer = ap (λ trace. trace.writer) failed.nothing_written;
}

-- The output is the same after an image was edited.
edited_keeps_writer : (plan : EditPlan) (limits : Limits) (image : List ℕ) (contents : List (List ℕ)) (work : Work)
    → IsEditedWork plan limits image contents work → work.new_output.writer ≡ work.output.writer
edited_keeps_writer plan limits image contents work (WroteEdited edits are notes text is wrote done ended outcome) = wrote.same_writer
edited_keeps_writer plan limits image contents work (NotWholeWritten edits are text is error stopped outcome) = stopped.same_writer
edited_keeps_writer plan limits image contents work (CouldNotEdit edits are error is failure why failed) =
    ap (λ trace. trace.writer) failed.nothing_written
edited_keeps_writer plan limits image contents work (NoRoomForEdits failed) = ap (λ trace. trace.writer) failed.nothing_written

edit_work_keeps : (files : KnownFiles) (plan : EditPlan) (limits : Limits) (work : Work) (old new : Option (List FileStep))
    → IsEditWork files plan limits work old new → KeepsWork work
edit_work_keeps files plan limits work old new (AllRead image contents middle read are edited) =
    record { reader = read_keeps _ _ _ _ _ _ read; writer = edited_keeps_writer _ _ _ _ _ edited }
edit_work_keeps files plan limits work old new (ImageNotRead failure not_read failed) =
    record { reader = not_read_keeps _ _ _ _ _ _ not_read; writer = ap (λ trace. trace.writer) failed.nothing_written }
edit_work_keeps files plan limits work old new (PayloadsNotRead image middle failed read not_read was) =
    record { reader = read_keeps _ _ _ _ _ _ read; writer = ap (λ trace. trace.writer) was.nothing_written }

explain_work_keeps : (topic : Option Topic) (work : Work) → IsExplainWork topic work → KeepsWork work
explain_work_keeps topic work (WroteExplanation wrote done ended outcome input) =
    record { reader = ap (λ trace. trace.reader) input; writer = wrote.same_writer }
explain_work_keeps topic work (ExplanationNotWritten error stopped outcome input) =
    record { reader = ap (λ trace. trace.reader) input; writer = stopped.same_writer }
explain_work_keeps topic work (NoMemoryForExplanation failed input) =
    record { reader = ap (λ trace. trace.reader) input; writer = ap (λ trace. trace.writer) failed.nothing_written }

-- Building keeps the input and the output.
built_keeps : (plan : BuildPlan) (parts : List Part) (limits : Limits) (work : Work) → IsBuiltWork plan parts limits work
    → KeepsWork work
built_keeps plan parts limits work (WasBuilt done piped ended outcome) =
    record { reader = piped.same_streams.same_reader; writer = piped.same_streams.same_writer }
built_keeps plan parts limits work (WasNotBuilt error piped outcome) =
    record { reader = piped.same_streams.same_reader; writer = piped.same_streams.same_writer }

build_work_keeps : (files : KnownFiles) (plan : BuildPlan) (limits : Limits) (work : Work) (old new : Option (List FileStep))
    → IsBuildWork files plan limits work old new → KeepsWork work
build_work_keeps files plan limits work old new (BuiltWithInput parts are reads built) = built_keeps _ _ _ _ built
build_work_keeps files plan limits work old new (BuiltOfFiles parts are reads built same) =
    record {
      reader = ap (λ trace. trace.reader) same;
      writer = (built_keeps plan parts limits (with_input work no_input no_input) built).writer;
    }
build_work_keeps files plan limits work old new (PartNotRead failed not_read is same) =
    record { reader = ap (λ trace. trace.reader) same; writer = ap (λ trace. trace.writer) is.nothing_written }
build_work_keeps files plan limits work old new (NoRoom first is same) =
    record { reader = ap (λ trace. trace.reader) same; writer = ap (λ trace. trace.writer) is.nothing_written }

-- A job keeps its input and its output.
pub job_work_keeps : (files : KnownFiles) (job : Job) (limits : Limits) (work : Work) (old new : Option (List FileStep))
    → IsJobWork files job limits work old new → KeepsWork work
job_work_keeps files (RunTask plan) limits work old new done = image_work_keeps _ _ _ _ _ _ _ done
job_work_keeps files (Compare plan) limits work old new done = compare_work_keeps _ _ _ _ _ _ done
job_work_keeps files (EditJob plan) limits work old new done = edit_work_keeps _ _ _ _ _ _ done
job_work_keeps files (Explain cause) limits work old new done = explain_work_keeps _ _ done.0
job_work_keeps files (Build plan) limits work old new done = build_work_keeps _ _ _ _ _ _ done

held_work_keeps : (files : KnownFiles) (job : Job) (limits : Limits) (before after : Inputs) (outcome : Result Done SourceFailure)
    (held : Option (List ℕ)) → IsHeldWork files job limits before after outcome held → after.input.reader ≡ before.input.reader
held_work_keeps files job limits before after outcome held is = (job_work_keeps files job limits _ _ _ is.work).reader

saved_work_keeps : (files : KnownFiles) (job : Job) (limits : Limits) (name : Bor (List ℕ)) (before after : Inputs)
    (outcome : Result Done SourceFailure) → IsSavedWork files job limits name before after outcome
    → after.input.reader ≡ before.input.reader
saved_work_keeps files job limits name before after outcome (OutputSaved done output worked is saved same) =
    held_work_keeps _ job limits _ _ _ _ is
saved_work_keeps files job limits name before after outcome (OutputNotSaved done output worked is failure not same) =
    held_work_keeps _ job limits _ _ _ _ is
saved_work_keeps files job limits name before after outcome (NoOutput failed is same) = held_work_keeps _ job limits _ _ _ _ is.work

output_run_keeps : (files : KnownFiles) (job : Job) (limits : Limits) (run : Run) (outcome : Result Done SourceFailure)
    (output : Option (Bor (List ℕ))) → IsOutputRun files job limits run outcome output → KeepsWork (work_of run outcome)
output_run_keeps files job limits run outcome output (ToStandardOutput work) = job_work_keeps files job limits _ _ _ work
output_run_keeps files job limits run outcome output (ToFile name saved same) =
    record { reader = saved_work_keeps _ job limits _ _ _ _ saved; writer = ap (λ trace. trace.writer) same }

end_keeps : (hints : Bool) (errors new_errors : WriteTrace) (status : ℕ) (outcome : Result Done SourceFailure)
    → IsEnd hints errors new_errors status outcome
    → new_errors.writer ≡ errors.writer
end_keeps hints errors new_errors status outcome (EndsWell done same notes is) = notes_keep _ _ _ notes
end_keeps hints errors new_errors status outcome (EndsWithFailure failed same reports is) = logs_keep _ _ _ reports

request_run_keeps : (terminal : Terminal) (files : KnownFiles) (request : Request) (run : Run)
    → IsRequestRun terminal files request run → KeepsStreams run
request_run_keeps terminal files request run (DidJob elsewhere outcome done end) =
    let keeps = output_run_keeps files request.job request.limits run outcome request.output done in
    record { reader = keeps.reader; writer = keeps.writer; log = end_keeps _ _ _ _ _ end }
request_run_keeps terminal files request run (KeptFromTerminal there rejection) = rejection_keeps _ _ _ _ rejection

all_work_keeps : (files : KnownFiles) (request : AllRequest) (before after : Inputs) (outcome : Result Done SourceFailure)
    → IsAllWork files request before after outcome → after.input.reader ≡ before.input.reader
all_work_keeps files request before after outcome (PayloadsSaved file name payloads read image all word saved done ended ends) =
    read_keeps _ _ _ _ _ _ image
all_work_keeps files request before after outcome (PayloadsNotSaved file name payloads read image all word failure not ends) =
    read_keeps _ _ _ _ _ _ image
all_work_keeps files request before after outcome (NotExtracted file image error why ends) = read_keeps _ _ _ _ _ _ image
all_work_keeps files request before after outcome (NothingRead failure not ends) = not_read_keeps _ _ _ _ _ _ not

all_run_keeps : (hints : Bool) (files : KnownFiles) (request : AllRequest) (run : Run) → IsAllRun hints files request run → KeepsStreams run
all_run_keeps hints files request run is = record {
  reader = all_work_keeps files request _ _ _ is.done;
  writer = ap (λ trace. trace.writer) is.nothing_written;
  log = end_keeps _ _ _ _ _ is.end;
}

text_run_keeps : (hints : Bool) (kind : ErrorKind) (text : List ℕ) (run : Run) → IsTextRun hints kind text run → KeepsStreams run
text_run_keeps hints kind text run (IsWritten asked wrote errors input steps status) = record {
  reader = ap (λ trace. trace.reader) input;
  writer = wrote.same_writer;
  log = ap (λ trace. trace.writer) errors;
}
text_run_keeps hints kind text run (IsNotWritten asked error stopped reports input steps status) = record {
  reader = ap (λ trace. trace.reader) input;
  writer = stopped.same_writer;
  log = logs_keep _ _ _ reports;
}
text_run_keeps hints kind text run (IsUsage why logs output input steps status) = record {
  reader = ap (λ trace. trace.reader) input;
  writer = ap (λ trace. trace.writer) output;
  log = logs_keep _ _ _ logs;
}

-- ---- several images

-- Two states of the streams are of the same streams.
pub record AreSameStreams (old new : Streams) : Type 0 where
  pub reader : new.input.reader ≡ old.input.reader
  pub writer : new.output.writer ≡ old.output.writer
  pub log : new.errors.writer ≡ old.errors.writer

image_done_keeps : (files : KnownFiles) (hints : Bool) (request : ImagesRequest) (in_memory : Bool) (source : ImageSource)
    (outcome : Result Done SourceFailure) (old new : Streams) → IsImageDone files hints request in_memory source outcome old new
    → AreSameStreams old new
image_done_keeps files hints request in_memory source outcome old new is =
    let keeps = image_work_keeps files _ source request.limits _ old.steps new.steps is.work in
    record { reader = keeps.reader; writer = keeps.writer; log = end_keeps _ _ _ _ _ is.end }

pub done_in_turn_keeps : (files : KnownFiles) (hints : Bool) (request : ImagesRequest) (in_memory : Bool) (sources : List ImageSource)
    (outcomes : List (Result Done SourceFailure)) (old new : Streams)
    → AreDoneInTurn (IsImageDone files hints request in_memory) is_last sources outcomes old new
    → AreSameStreams old new
done_in_turn_keeps files hints request in_memory sources outcomes old new
    (AllDone streams) = record { reader = refl; writer = refl; log = refl }
done_in_turn_keeps files hints request in_memory sources outcomes old new
    (NextDone source later outcome others first middle last done not rest) =
    let one = image_done_keeps files hints request in_memory source outcome old middle done in
    let others = done_in_turn_keeps files hints request in_memory later others middle new rest in
    record { reader = others.reader ∙ one.reader; writer = others.writer ∙ one.writer; log = others.log ∙ one.log }
done_in_turn_keeps files hints request in_memory sources outcomes old new (LastDone source later outcome first last done is) =
    image_done_keeps files hints request in_memory source outcome old new done

held_images_keep : (files : KnownFiles) (hints : Bool) (request : ImagesRequest) (before after : Inputs)
    (errors new_errors : WriteTrace) (status : ℕ)
    (held : Option (List ℕ)) → AreHeld files hints request before after errors new_errors status held
    → (after.input.reader ≡ before.input.reader) × (new_errors.writer ≡ errors.writer)
held_images_keep files hints request before after errors new_errors status held are =
    let keeps = done_in_turn_keeps files hints request true _ are.done.outcomes _ _ are.done.in_turn in
    (keeps.reader, keeps.log)

saved_images_keep : (files : KnownFiles) (hints : Bool) (request : ImagesRequest) (name : Bor (List ℕ)) (before after : Inputs)
    (errors new_errors : WriteTrace) (status : ℕ) → AreSaved files hints request name before after errors new_errors status
    → (after.input.reader ≡ before.input.reader) × (new_errors.writer ≡ errors.writer)
saved_images_keep files hints request name before after errors new_errors status (TextsSaved output worked held less saved) =
    held_images_keep _ hints request _ _ _ _ _ _ held
saved_images_keep files hints request name before after errors new_errors status
    (TextsNotSaved output worked middle other held less failure not reports is) =
    let keeps = held_images_keep _ hints request _ _ _ _ _ _ held in
    (keeps.0, logs_keep _ _ _ reports ∙ keeps.1)
saved_images_keep files hints request name before after errors new_errors status (OneHasFailed held are is) =
    held_images_keep _ hints request _ _ _ _ _ _ are

images_run_keeps : (files : KnownFiles) (hints : Bool) (request : ImagesRequest) (run : Run) (output : Option (Bor (List ℕ)))
    → IsImagesRun files hints request run output → KeepsStreams run
images_run_keeps files hints request run output (EachToStandardOutput done) =
    let keeps = done_in_turn_keeps files hints request false _ done.outcomes (streams_before run) (streams_after run) done.in_turn in
    record { reader = keeps.reader; writer = keeps.writer; log = keeps.log }
images_run_keeps files hints request run output (EachToFile name saved same) =
    let keeps = saved_images_keep files hints request name _ _ run.errors run.new_errors run.status saved in
    record { reader = keeps.0; writer = ap (λ trace. trace.writer) same; log = keeps.1 }

-- A run keeps its streams.
pub run_keeps : (terminal : Terminal) (arguments : List (List ℕ)) (files : KnownFiles) (run : Run)
    → IsRun terminal arguments files run → KeepsStreams run
run_keeps terminal arguments files run (RanJob request is lengths ran) = request_run_keeps _ _ request _ ran
run_keeps terminal arguments files run (RanEach request is ran) = images_run_keeps _ _ request _ _ ran
run_keeps terminal arguments files run (ExtractedAll request is ran) = all_run_keeps _ _ request _ ran
run_keeps terminal arguments files run (Rejected failure why hint is_hint rejection) = rejection_keeps _ _ _ _ rejection
run_keeps terminal arguments files run (WroteText kind text answers is) = text_run_keeps _ _ _ _ is
