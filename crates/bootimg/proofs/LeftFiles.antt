use Rattle.std.proofs.Common.{◌≡◌, ◌∷◌, [], ◌∙◌, ℕ, Bool, true, false, List, Bor, Option, Some, None, Result, Ok, Err, ap, refl, inl, inr}
use Rattle.std.specs.Prelude.{IfSome}
use Rattle.bi_base.specs.Limits.{Limits}
use Rattle.bi_base.specs.Traces.{ReadTrace, WriteTrace}
use Rattle.bi_commands.specs.declared.parts.Part.{Part}
use Rattle.bi_commands.specs.declared.parts.Part.TheVariants.{Bytes, Length}
use Rattle.bootimg.specs.declared.command_line.Job.{Job}
use Rattle.bootimg.specs.declared.command_line.Job.TheVariants.{Run as RunTask, Compare, Build, Explain}
use Rattle.bootimg.specs.declared.command_line.Request.{Request}
use Rattle.bootimg.specs.declared.command_line.extract.AllRequest.{AllRequest}
use Rattle.bootimg.specs.declared.command_line.build.BuildPlan.{BuildPlan}
use Rattle.bootimg.specs.declared.command_line.part.PartSource.{PartSource}
use Rattle.bootimg.specs.declared.command_line.part.PartSource.TheVariants as part
use Rattle.bootimg.specs.declared.command_line.source.ComparePlan.{ComparePlan}
use Rattle.bootimg.specs.declared.command_line.source.ImageSource.{ImageSource}
use Rattle.bootimg.specs.declared.failure.Failure.{Failure}
use Rattle.bootimg.specs.declared.tasks.Done.{Done}
use Rattle.bootimg.specs.declared.terminal.Terminal.{Terminal}
use Rattle.bootimg.specs.CommandLine.{IsAllRequested, IsImagesRequested, IsRequest, sources_of}
use Rattle.bi_files.specs.Files.{FileStep, KnownFiles, Names, Opened, NotOpened, ReaderClosed, WasOpened, WasNotOpened}
use Rattle.clap.specs.declared.error.kind.ErrorKind.{ErrorKind}
use Rattle.bi_files.specs.FilesAfter.{after_steps, AreSameNames, HasDirectory, HasFile, HaveContents}
use Rattle.bootimg.specs.LeftFiles.{LeavesFiles, DirectoryIsThere, OutputIsThere, NoFileIsNamed, NothingIsRequested, HasFailed}
use Rattle.bootimg.specs.LeftFiles.{NoFileIsNamedForEach, TextsAreThere}
use Rattle.bootimg.specs.SeveralImages.{AreHeld, AreSaved, IsImageDone, OneHasFailed, Streams, TextsNotSaved, TextsSaved, is_last}
use Rattle.bi_labels.specs.InTurn.{AllDone, AreDoneInTurn, LastDone, NextDone}
use Rattle.bootimg.specs.ProgramRuns.{EachToFile, EachToStandardOutput, IsImagesRun, RanEach, streams_after, streams_before}
use Rattle.bootimg.specs.declared.command_line.images.ImagesRequest.{ImagesRequest}
use Rattle.bootimg.specs.Runs.{Inputs, Promise, Run, Work, IsFileRead, IsFileNotRead, CouldNotOpen, OpenedNotRead, IsImageRead}
use Rattle.bootimg.specs.Runs.{InputRead, FileRead}
use Rattle.bootimg.specs.Runs.{IsImageNotRead, InputNotRead, FileNotRead, IsPart, ArePartsRead, IsImageWork, DoneOnInput, DoneOnFile}
use Rattle.bootimg.specs.Runs.{FileNotOpened, IsCompareWork, BothRead, OneNotRead, OtherNotRead, IsBuildWork, BuiltWithInput, BuiltOfFiles}
use Rattle.bootimg.specs.Runs.{PartNotRead, NoRoom, IsJobWork, IsSavedWork, OutputSaved, OutputNotSaved, NoOutput, IsOutputRun}
use Rattle.bootimg.specs.Runs.{ToStandardOutput, ToFile, IsEnd, EndsWell, EndsWithFailure, IsTextRun, IsWritten, IsNotWritten}
use Rattle.bootimg.specs.Runs.{DidJob, IsRequestRun, IsUsage, KeptFromTerminal, inputs_before, inputs_after}
use Rattle.bootimg.specs.Runs.{AllRead, ArePayloadsRead, ImageNotRead, IsEditWork, IsPayloadsFailure, PayloadsNotRead}
use Rattle.bootimg.specs.declared.command_line.Job.TheVariants.{Edit as EditJob}
use Rattle.bootimg.specs.declared.command_line.edits.EditPlan.{EditPlan}
use Rattle.bootimg.specs.declared.jobs.SourceFailure.{SourceFailure}
use Rattle.bi_edit.specs.declared.words.PayloadWord.{PayloadWord}
use Rattle.bootimg.specs.ProgramRuns.{IsRun, RanJob, ExtractedAll, Rejected, WroteText}
use Rattle.bootimg.specs.Runs.{IsAllWork, PayloadsSaved, PayloadsNotSaved, NotExtracted, NothingRead}
use Rattle.bootimg.specs.Tasks.{status_of}
use Rattle.bi_files.proofs.FilesAfter.{KeepsNames, keeps_same, keeps_in_turn, keeps_with, LeftAfterFailure, kept_is_left, not_saved_leaves}
use Rattle.bi_files.proofs.FilesAfter.{saved_leaves}
use Rattle.bi_files.proofs.DirectoriesAfter.{directory_not_saved_leaves, directory_saved_leaves}

-- What a run leaves of the files.

-- ---- reading keeps each name

opened_keeps : (base : Names) (files : KnownFiles) (name : List ℕ) (opened end : ReadTrace) (old new : Option (List FileStep))
    → WasOpened files name opened end old new → KeepsNames base old new
opened_keeps base files name opened end old new is =
    keeps_with base old new (Opened name opened ∷ ReaderClosed name end ∷ []) (λ names. refl) is.steps

not_opened_keeps : (base : Names) (files : KnownFiles) (name : List ℕ) (old new : Option (List FileStep))
    → WasNotOpened files name old new → KeepsNames base old new
not_opened_keeps base files name old new is = keeps_with base old new (NotOpened name ∷ []) (λ names. refl) is.steps

file_read_keeps : (base : Names) (files : KnownFiles) (limits : Limits) (name bytes : List ℕ) (old new : Option (List FileStep))
    → IsFileRead files limits name bytes old new → KeepsNames base old new
file_read_keeps base files limits name bytes old new is = opened_keeps base files name is.opened is.end old new is.was_opened

file_not_read_keeps : (base : Names) (files : KnownFiles) (limits : Limits) (name : List ℕ) (failure : Failure)
    (old new : Option (List FileStep)) → IsFileNotRead files limits name failure old new → KeepsNames base old new
file_not_read_keeps base files limits name failure old new (CouldNotOpen not why) = not_opened_keeps base files name old new not
file_not_read_keeps base files limits name failure old new (OpenedNotRead opened end was not) =
    opened_keeps base files name opened end old new was

image_read_keeps : (base : Names) (files : KnownFiles) (limits : Limits) (old new : Inputs) (image : List ℕ) (source : ImageSource)
    → IsImageRead files limits old new image source → KeepsNames base old.steps new.steps
image_read_keeps base files limits old new image source (InputRead read same) = keeps_same base old.steps new.steps same
image_read_keeps base files limits old new image source (FileRead name read same) =
    file_read_keeps base files limits name.now image old.steps new.steps read

image_not_read_keeps : (base : Names) (files : KnownFiles) (limits : Limits) (old new : Inputs) (failure : Failure) (source : ImageSource)
    → IsImageNotRead files limits old new failure source → KeepsNames base old.steps new.steps
image_not_read_keeps base files limits old new failure source (InputNotRead read same) = keeps_same base old.steps new.steps same
image_not_read_keeps base files limits old new failure source (FileNotRead name read same) =
    file_not_read_keeps base files limits name.now failure old.steps new.steps read

part_keeps : (base : Names) (files : KnownFiles) (limits : Limits) (source : PartSource) (given : Part) (old new : Option (List FileStep))
    → IsPart files limits source given old new → KeepsNames base old new
part_keeps base files limits (part.Input size) (Length other) old new is = keeps_same base old new is.1
part_keeps base files limits (part.Input size) (Bytes bytes) old new is = absurd is
part_keeps base files limits (part.File name) (Length other) old new is = absurd is
part_keeps base files limits (part.File name) (Bytes bytes) old new is = file_read_keeps base files limits name.now bytes.now old new is

parts_keep : (base : Names) (files : KnownFiles) (limits : Limits) (sources : List PartSource) (parts : List Part)
    (old new : Option (List FileStep)) → ArePartsRead files limits sources parts old new → KeepsNames base old new
parts_keep base files limits [] [] old new are = keeps_same base old new are
parts_keep base files limits [] (p ∷ parts) old new are = absurd are
parts_keep base files limits (s ∷ sources) [] old new are = absurd are
parts_keep base files limits (s ∷ sources) (p ∷ parts) old new are =
    keeps_in_turn base old are.0 new (part_keeps base files limits s p old are.0 are.1)
    (parts_keep base files limits sources parts are.0 new are.2)

image_work_keeps : (base : Names) (files : KnownFiles) (promise : Promise) (source : ImageSource) (limits : Limits) (work : Work)
    (old new : Option (List FileStep)) → IsImageWork files promise source limits work old new → KeepsNames base old new
image_work_keeps base files promise source limits work old new (DoneOnInput standard done same) = keeps_same base old new same
image_work_keeps base files promise source limits work old new (DoneOnFile name file opened end is done same) =
    opened_keeps base files name.now opened end old new is
image_work_keeps base files promise source limits work old new (FileNotOpened name file none failed same) =
    not_opened_keeps base files name.now old new none

compare_work_keeps : (base : Names) (files : KnownFiles) (plan : ComparePlan) (limits : Limits) (work : Work)
    (old new : Option (List FileStep)) → IsCompareWork files plan limits work old new → KeepsNames base old new
compare_work_keeps base files plan limits work old new (BothRead one other middle one_read other_read compared) =
    keeps_in_turn base old middle.steps new (image_read_keeps base files limits _ middle one plan.one one_read)
    (image_read_keeps base files limits middle _ other plan.other other_read)
compare_work_keeps base files plan limits work old new (OneNotRead failure not_read failed) =
    image_not_read_keeps base files limits _ _ failure plan.one not_read
compare_work_keeps base files plan limits work old new (OtherNotRead one middle failure one_read not_read failed) =
    keeps_in_turn base old middle.steps new (image_read_keeps base files limits _ middle one plan.one one_read)
    (image_not_read_keeps base files limits middle _ failure plan.other not_read)

build_work_keeps : (base : Names) (files : KnownFiles) (plan : BuildPlan) (limits : Limits) (work : Work)
    (old new : Option (List FileStep)) → IsBuildWork files plan limits work old new → KeepsNames base old new
build_work_keeps base files plan limits work old new (BuiltWithInput parts are reads built) =
    parts_keep base files limits (sources_of plan) parts old new are
build_work_keeps base files plan limits work old new (BuiltOfFiles parts are reads built same) =
    parts_keep base files limits (sources_of plan) parts old new are
build_work_keeps base files plan limits work old new (PartNotRead failed is not same) =
    keeps_in_turn base old is.middle new (parts_keep base files limits is.before is.parts old is.middle is.are_read)
    (file_not_read_keeps base files limits is.name.now failed.failure is.middle new is.not_read)
build_work_keeps base files plan limits work old new (NoRoom first is same) =
    parts_keep base files limits first.first first.parts old new first.are_read

payloads_keep : (base : Names) (files : KnownFiles) (limits : Limits) (words : List PayloadWord) (contents : List (List ℕ))
    (old new : Option (List FileStep)) → ArePayloadsRead files limits words contents old new → KeepsNames base old new
payloads_keep base files limits [] [] old new are = keeps_same base old new are
payloads_keep base files limits [] (bytes ∷ contents) old new are = absurd are
payloads_keep base files limits (word ∷ words) [] old new are = absurd are
payloads_keep base files limits (word ∷ words) (bytes ∷ contents) old new are =
    keeps_in_turn base old are.0 new (file_read_keeps base files limits word.file.now bytes old are.0 are.1)
    (payloads_keep base files limits words contents are.0 new are.2)

payloads_failure_keeps : (base : Names) (files : KnownFiles) (limits : Limits) (words : List PayloadWord) (failed : SourceFailure)
    (old new : Option (List FileStep)) → IsPayloadsFailure files limits words failed old new → KeepsNames base old new
payloads_failure_keeps base files limits words failed old new (inl is) =
    keeps_in_turn base old is.middle new (payloads_keep base files limits is.before is.contents old is.middle is.are_read)
    (file_not_read_keeps base files limits is.word.file.now failed.failure is.middle new is.not_read)
payloads_failure_keeps base files limits words failed old new (inr memory) =
    payloads_keep base files limits memory.0.first memory.0.contents old new memory.0.are_read

edit_work_keeps : (base : Names) (files : KnownFiles) (plan : EditPlan) (limits : Limits) (work : Work)
    (old new : Option (List FileStep)) → IsEditWork files plan limits work old new → KeepsNames base old new
edit_work_keeps base files plan limits work old new (AllRead image contents middle read are edited) =
    keeps_in_turn base old middle new (image_read_keeps base files limits _ _ image plan.source read)
    (payloads_keep base files limits plan.payloads.items contents middle new are)
edit_work_keeps base files plan limits work old new (ImageNotRead failure not_read failed) =
    image_not_read_keeps base files limits _ _ failure plan.source not_read
edit_work_keeps base files plan limits work old new (PayloadsNotRead image middle failed read not_read was) =
    keeps_in_turn base old middle new (image_read_keeps base files limits _ _ image plan.source read)
    (payloads_failure_keeps base files limits plan.payloads.items failed middle new not_read)

job_work_keeps_names : (base : Names) (files : KnownFiles) (job : Job) (limits : Limits) (work : Work) (old new : Option (List FileStep))
    → IsJobWork files job limits work old new → KeepsNames base old new
job_work_keeps_names base files (RunTask plan) limits work old new done = image_work_keeps base files _ plan.source limits work old new done
job_work_keeps_names base files (Compare plan) limits work old new done = compare_work_keeps base files plan limits work old new done
job_work_keeps_names base files (EditJob plan) limits work old new done = edit_work_keeps base files plan limits work old new done
job_work_keeps_names base files (Explain cause) limits work old new done = keeps_same base old new done.1
job_work_keeps_names base files (Build plan) limits work old new done = build_work_keeps base files plan limits work old new done

-- ---- runs

-- What has each name after these steps, if they are known.
abbrev AreNames : (base names : Names) → Option (List FileStep) → Type 0
AreNames base names steps = (before : List FileStep) → steps ≡ Some before → after_steps base before ≡ names

kept_names : (base names : Names) (old new : Option (List FileStep)) → AreNames base names old → KeepsNames base old new
    → AreNames base names new
kept_names base names old None are keeps after is = absurd (let none : None ≡ Some after = is in cc)
kept_names base names old (Some now) are keeps after is =
    let same : after ≡ now = let e : Some now ≡ Some after = is in cc in
    ap (λ l. after_steps base l) same ∙ keeps.2 ∙ are keeps.0 keeps.1

status_at_ok : (hints : Bool) (errors new_errors : WriteTrace) (status : ℕ) (outcome : Result Done SourceFailure) (done : Done)
    → IsEnd hints errors new_errors status outcome → outcome ≡ Ok done → status ≡ status_of done.good
status_at_ok hints errors new_errors status outcome done (EndsWell other same notes is) ok =
    let equal : other ≡ done = cc in is ∙ ap (λ d. status_of d.good) equal
status_at_ok hints errors new_errors status outcome done (EndsWithFailure failed same reports is) ok = absurd (cc)

status_at_err : (hints : Bool) (errors new_errors : WriteTrace) (status : ℕ) (outcome : Result Done SourceFailure) (failed : SourceFailure)
    → IsEnd hints errors new_errors status outcome → outcome ≡ Err failed → status ≡ 2
status_at_err hints errors new_errors status outcome failed (EndsWell other same notes is) err = absurd (cc)
status_at_err hints errors new_errors status outcome failed (EndsWithFailure other same reports is) err = is

-- What a run leaves, if its steps are known.
abbrev pub RunLeaves : (base names : Names) → (arguments : List (List ℕ)) → (input : Option (List ℕ)) → (status : ℕ)
    → Option (List FileStep) → Type 0
RunLeaves base names arguments input status new =
    IfSome new (λ after. LeavesFiles arguments input names (after_steps base after) after status)

failure_leaves : (base names : Names) (arguments : List (List ℕ)) (input : Option (List ℕ)) (status : ℕ) (new : Option (List FileStep))
    → status ≡ 2 → LeftAfterFailure base names new → RunLeaves base names arguments input status new
failure_leaves base names arguments input status None is left = tt
failure_leaves base names arguments input status (Some after) is left = HasFailed is left

saved_work_leaves : (base names : Names) (hints : Bool) (arguments : List (List ℕ)) (request : Request) (name : Bor (List ℕ))
    (before after : Inputs)
    (errors new_errors : WriteTrace) (status : ℕ) (outcome : Result Done SourceFailure) → IsRequest arguments request
    → request.output ≡ Some name → AreNames base names before.steps
    → IsSavedWork (Some names) request.job request.limits name before after outcome → IsEnd hints errors new_errors status outcome
    → IfSome after.steps HaveContents → RunLeaves base names arguments before.input.remaining status after.steps
saved_work_leaves base names hints arguments request name before after errors new_errors status outcome is named are
    (OutputSaved done output worked held saved ends) end contents =
    there after.steps
    (saved_leaves base names name.now output worked after.steps
    (kept_names base names before.steps worked are
    (job_work_keeps_names base (Some names) request.job request.limits _ _ _ held.work)) saved
    contents)
  where
    there : (new : Option (List FileStep)) → IfSome new (λ l. HasFile names (after_steps base l) name.now output)
        → RunLeaves base names arguments before.input.remaining status new
    there None has = tt
    there (Some l) has =
        OutputIsThere request name done output before (record { input = after.input; steps = worked }) is named refl held
        (status_at_ok hints errors new_errors status outcome done end ends) has
saved_work_leaves base names hints arguments request name before after errors new_errors status outcome is named are
    (OutputNotSaved done output worked held failure not ends) end contents =
    failure_leaves base names arguments before.input.remaining status after.steps
    (status_at_err hints errors new_errors status outcome _ end ends)
    (not_saved_leaves base names name.now output failure worked after.steps
    (kept_names base names before.steps worked are (job_work_keeps_names base (Some names) request.job request.limits _ _ _ held.work)) not)
saved_work_leaves base names hints arguments request name before after errors new_errors status outcome is named are
    (NoOutput failed held ends) end contents =
    failure_leaves base names arguments before.input.remaining status after.steps
    (status_at_err hints errors new_errors status outcome failed end ends)
    (kept_is_left base names before.steps after.steps are
    (job_work_keeps_names base (Some names) request.job request.limits _ _ _ held.work.work))

-- Each name has what it had.
names_kept : (base names : Names) (old : Option (List FileStep)) (after : List FileStep) → AreNames base names old
    → KeepsNames base old (Some after) → AreSameNames names (after_steps base after)
names_kept base names old after are keeps q = ap (λ n. n q) (keeps.2 ∙ are keeps.0 keeps.1)

output_run_leaves : (base names : Names) (hints : Bool) (arguments : List (List ℕ)) (request : Request) (run : Run)
    (outcome : Result Done SourceFailure)
    (output : Option (Bor (List ℕ))) → IsRequest arguments request → request.output ≡ output → AreNames base names run.steps
    → IsOutputRun (Some names) request.job request.limits run outcome output → IsEnd hints run.errors run.new_errors run.status outcome
    → IfSome run.new_steps HaveContents → RunLeaves base names arguments run.input.remaining run.status run.new_steps
output_run_leaves base names hints arguments request run outcome output is named are (ToStandardOutput work) end contents =
    kept run.new_steps (job_work_keeps_names base (Some names) request.job request.limits _ run.steps run.new_steps work)
  where
    kept : (new : Option (List FileStep)) → KeepsNames base run.steps new
        → RunLeaves base names arguments run.input.remaining run.status new
    kept None keeps = tt
    kept (Some after) keeps = NoFileIsNamed request is named (names_kept base names run.steps after are keeps)
output_run_leaves base names hints arguments request run outcome output is named are (ToFile name saved same) end contents =
    saved_work_leaves base names hints arguments request name (inputs_before run)
    (inputs_after run) run.errors run.new_errors run.status outcome
    is named are saved end contents

-- ---- several images

image_done_keeps : (base : Names) (files : KnownFiles) (hints : Bool) (request : ImagesRequest) (is_held : Bool) (source : ImageSource)
    (outcome : Result Done SourceFailure) (old new : Streams) → IsImageDone files hints request is_held source outcome old new
    → KeepsNames base old.steps new.steps
image_done_keeps base files hints request is_held source outcome old new is =
    image_work_keeps base files _ source request.limits _ old.steps new.steps is.work

done_in_turn_keeps_names : (base : Names) (files : KnownFiles) (hints : Bool) (request : ImagesRequest) (is_held : Bool)
    (sources : List ImageSource)
    (outcomes : List (Result Done SourceFailure)) (old new : Streams)
    → AreDoneInTurn (IsImageDone files hints request is_held) is_last sources outcomes old new → KeepsNames base old.steps new.steps
done_in_turn_keeps_names base files hints request is_held sources outcomes old new
    (AllDone streams) = keeps_same base old.steps new.steps refl
done_in_turn_keeps_names base files hints request is_held sources outcomes old new
    (NextDone source later outcome others first middle last done not rest) =
    keeps_in_turn base old.steps middle.steps new.steps (image_done_keeps base files hints request is_held source outcome old middle done)
    (done_in_turn_keeps_names base files hints request is_held later others middle new rest)
done_in_turn_keeps_names base files hints request is_held sources outcomes old new (LastDone source later outcome first last done is) =
    image_done_keeps base files hints request is_held source outcome old new done

held_images_keep : (base : Names) (files : KnownFiles) (hints : Bool) (request : ImagesRequest) (before after : Inputs)
    (errors new_errors : WriteTrace)
    (status : ℕ) (held : Option (List ℕ)) → AreHeld files hints request before after errors new_errors status held
    → KeepsNames base before.steps after.steps
held_images_keep base files hints request before after errors new_errors status held are =
    done_in_turn_keeps_names base files hints request true _ are.done.outcomes _ _ are.done.in_turn

saved_images_leave : (base names : Names) (hints : Bool) (arguments : List (List ℕ)) (request : ImagesRequest) (name : Bor (List ℕ))
    (before after : Inputs) (errors new_errors : WriteTrace) (status : ℕ) → IsImagesRequested arguments request
    → request.output ≡ Some name → AreNames base names before.steps
    → AreSaved (Some names) hints request name before after errors new_errors status → IfSome after.steps HaveContents
    → RunLeaves base names arguments before.input.remaining status after.steps
saved_images_leave base names hints arguments request name before after errors new_errors status is named are
    (TextsSaved output worked held less saved) contents =
    there after.steps
    (saved_leaves base names name.now output worked after.steps
    (kept_names base names before.steps worked are (held_images_keep base
    (Some names) hints request _ _ errors new_errors status _ held)) saved
    contents)
  where
    there : (new : Option (List FileStep)) → IfSome new (λ l. HasFile names (after_steps base l) name.now output)
        → RunLeaves base names arguments before.input.remaining status new
    there None has = tt
    there (Some l) has =
        TextsAreThere hints request name output before
        (record { input = after.input; steps = worked }) errors new_errors is named refl held less
        has
saved_images_leave base names hints arguments request name before after errors new_errors status is named are
    (TextsNotSaved output worked middle other held less failure not reports ends) contents =
    failure_leaves base names arguments before.input.remaining status after.steps ends
    (not_saved_leaves base names name.now output failure worked after.steps
    (kept_names base names before.steps worked are (held_images_keep base (Some names) hints request _ _ errors middle other _ held)) not)
saved_images_leave base names hints arguments request name before after errors new_errors status is named are
    (OneHasFailed held all ends) contents =
    failure_leaves base names arguments before.input.remaining status after.steps ends
    (kept_is_left base names before.steps after.steps are
    (held_images_keep base (Some names) hints request before after errors new_errors status held all))

images_run_leaves : (base names : Names) (hints : Bool) (arguments : List (List ℕ)) (request : ImagesRequest) (run : Run)
    (output : Option (Bor (List ℕ))) → IsImagesRequested arguments request → request.output ≡ output → AreNames base names run.steps
    → IsImagesRun (Some names) hints request run output → IfSome run.new_steps HaveContents
    → RunLeaves base names arguments run.input.remaining run.status run.new_steps
images_run_leaves base names hints arguments request run output is named are (EachToStandardOutput done) contents =
    kept run.new_steps
    (done_in_turn_keeps_names base (Some names) hints request false _ done.outcomes (streams_before run) (streams_after run) done.in_turn)
  where
    kept : (new : Option (List FileStep)) → KeepsNames base run.steps new
        → RunLeaves base names arguments run.input.remaining run.status new
    kept None keeps = tt
    kept (Some after) keeps = NoFileIsNamedForEach request is named (names_kept base names run.steps after are keeps)
images_run_leaves base names hints arguments request run output is named are (EachToFile name saved same) contents =
    saved_images_leave base names hints arguments request name (inputs_before run)
    (inputs_after run) run.errors run.new_errors run.status is
    named are saved contents

all_work_leaves : (base names : Names) (hints : Bool) (arguments : List (List ℕ)) (request : AllRequest) (before after : Inputs)
    (errors new_errors : WriteTrace) (status : ℕ) (outcome : Result Done SourceFailure) → IsAllRequested arguments request
    → AreNames base names before.steps → IsAllWork (Some names) request before after outcome → IsEnd hints errors new_errors status outcome
    → IfSome after.steps HaveContents → RunLeaves base names arguments before.input.remaining status after.steps
all_work_leaves base names hints arguments request before after errors new_errors status outcome is are
    (PayloadsSaved file name payloads read image all word saved done ended ends) end contents =
    there after.steps
    (directory_saved_leaves base names name payloads read after.steps
    (kept_names base names before.steps read are (image_read_keeps base (Some names) request.limits before _ file request.source image))
    all.safe.distinct saved contents)
  where
    there : (new : Option (List FileStep)) → IfSome new (λ l. HasDirectory names (after_steps base l) name payloads)
        → RunLeaves base names arguments before.input.remaining status new
    there None has = tt
    there (Some l) has =
        DirectoryIsThere request file name payloads before (record { input = after.input; steps = read }) is refl image all word
        (status_at_ok hints errors new_errors status outcome done end ends ∙ ap status_of ended.is_answer) has
all_work_leaves base names hints arguments request before after errors new_errors status outcome is are
    (PayloadsNotSaved file name payloads read image all word failure not ends) end contents =
    failure_leaves base names arguments before.input.remaining status after.steps
    (status_at_err hints errors new_errors status outcome _ end ends)
    (directory_not_saved_leaves base names name payloads failure read after.steps
    (kept_names base names before.steps read are (image_read_keeps base (Some names) request.limits before _ file request.source image))
    not)
all_work_leaves base names hints arguments request before after errors new_errors status outcome is are
    (NotExtracted file image error why ends) end contents =
    failure_leaves base names arguments before.input.remaining status after.steps
    (status_at_err hints errors new_errors status outcome _ end ends)
    (kept_is_left base names before.steps after.steps are
    (image_read_keeps base (Some names) request.limits before after file request.source image))
all_work_leaves base names hints arguments request before after errors new_errors status outcome is are
    (NothingRead failure not ends) end contents =
    failure_leaves base names arguments before.input.remaining status after.steps
    (status_at_err hints errors new_errors status outcome _ end ends)
    (kept_is_left base names before.steps after.steps are
    (image_not_read_keeps base (Some names) request.limits before after failure request.source not))

text_run_keeps_steps : (hints : Bool) (kind : ErrorKind) (text : List ℕ) (run : Run) → IsTextRun hints kind text run
    → run.new_steps ≡ run.steps
text_run_keeps_steps hints kind text run (IsWritten asked wrote errors input steps status) = steps
text_run_keeps_steps hints kind text run (IsNotWritten asked error stopped reports input steps status) = steps
text_run_keeps_steps hints kind text run (IsUsage why logs output input steps status) = steps

request_run_leaves : (base names : Names) (terminal : Terminal) (arguments : List (List ℕ)) (request : Request) (run : Run)
    → IsRequest arguments request → AreNames base names run.steps → IsRequestRun terminal (Some names) request run
    → IfSome run.new_steps HaveContents → RunLeaves base names arguments run.input.remaining run.status run.new_steps
request_run_leaves base names terminal arguments request run is are (DidJob elsewhere outcome done end) contents =
    output_run_leaves base names terminal.errors arguments request run outcome request.output is refl are done end contents
request_run_leaves base names terminal arguments request run is are (KeptFromTerminal there rejection) contents =
    failure_leaves base names arguments run.input.remaining run.status run.new_steps rejection.status
    (kept_is_left base names run.steps run.new_steps are (keeps_same base run.steps run.new_steps rejection.no_steps))

-- What a run leaves of files whose names and steps are known.
pub run_leaves : (terminal : Terminal) (base names : Names) (arguments : List (List ℕ)) (run : Run) → IsRun terminal arguments
    (Some names) run
    → AreNames base names run.steps → IfSome run.new_steps HaveContents
    → RunLeaves base names arguments run.input.remaining run.status run.new_steps
run_leaves terminal base names arguments run (RanJob request is lengths ran) are contents =
    request_run_leaves base names terminal arguments request run is are ran contents
run_leaves terminal base names arguments run (RanEach request is ran) are contents =
    images_run_leaves base names terminal.errors arguments request run request.output is refl are ran contents
run_leaves terminal base names arguments run (ExtractedAll request is ran) are contents =
    all_work_leaves base names terminal.errors arguments request (inputs_before run)
    (inputs_after run) run.errors run.new_errors run.status ran.outcome is
    are ran.done ran.end contents
run_leaves terminal base names arguments run (Rejected failure why hint is_hint rejection) are contents =
    failure_leaves base names arguments run.input.remaining run.status run.new_steps rejection.status
    (kept_is_left base names run.steps run.new_steps are (keeps_same base run.steps run.new_steps rejection.no_steps))
run_leaves terminal base names arguments run (WroteText kind text answers is) are contents =
    kept run.new_steps (keeps_same base run.steps run.new_steps (text_run_keeps_steps terminal.errors kind text run is))
  where
    kept : (new : Option (List FileStep)) → KeepsNames base run.steps new
        → RunLeaves base names arguments run.input.remaining run.status new
    kept None keeps = tt
    kept (Some after) keeps = NothingIsRequested kind answers (names_kept base names run.steps after are keeps)
