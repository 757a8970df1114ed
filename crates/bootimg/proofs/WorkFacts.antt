use Rattle.std.proofs.Common.{◌≡◌, ◌∙◌, ◌⊎◌, ℕ, Bool, true, false, true≢false, List, [], ◌∷◌, ◌++◌, Option, None, Some, Result, Ok, Err}
use Rattle.std.proofs.Common.{codes, flat_map, length, map, inl, inr, ap, refl, sym, subst, arith, length-append}
use Rattle.std.specs.Borrow.{Bor}
use Rattle.std.specs.List.{join_with_byte}
use Rattle.std.specs.Io.KnownBytes.{Appends}
use Rattle.std.specs.Prelude.{IfSome, IsTrue, option_map}
use Rattle.bi_base.specs.Cells.{u32_at}
use Rattle.bootimg.specs.declared.explanations.Topic.{Topic}
use Rattle.bootimg.specs.declared.explanations.Topic.TheVariants as topic
use Rattle.bi_base.specs.declared.fault.Cause.TheVariants.{BadDataCrc}
use Rattle.bi_base.specs.declared.fault.Error.{Error}
use Rattle.bi_base.specs.declared.fault.Error.TheVariants.{Refused, OutOfMemory, ReadFailed, WriteFailed}
use Rattle.bi_base.specs.Limits.{Limits, widest}
use Rattle.bi_base.specs.Pipes.{IsTracedPipe}
use Rattle.bi_base.specs.Traces.{ReadTrace, WriteTrace}
use Rattle.bi_base.specs.Writing.{Writes}
use Rattle.bi_base.proofs.EqualBytes.{other_bytes}
use Rattle.bi_commands.specs.KnownChoices.{lent}
use Rattle.bi_commands.specs.declared.parts.Part.{Part}
use Rattle.bi_commands.specs.declared.parts.Part.TheVariants.{Bytes, Length}
use Rattle.bootimg.specs.KnownWords.{words_of_line}
use Rattle.bi_files.specs.Files.{FileStep, KnownFiles, NotOpened, WasNotOpened, WasOpened, TookSteps, IsSaved, MayBeOpened, NameHas}
use Rattle.bi_files.specs.KnownSteps.{AreSavingSteps}
use Rattle.bi_files.proofs.StepFacts.{saved_in_steps}
use Rattle.bi_fit.specs.declared.form.Form.TheVariants.{Embedded}
use Rattle.bi_fit.specs.Text.{fit_text}
use Rattle.bi_legacy.specs.KnownFiles.{kernel_file_with_rest}
use Rattle.bi_legacy.specs.KnownImages.{kernel_file, kernel_image}
use Rattle.bi_legacy.specs.Meaning.{LegacyImage}
use Rattle.bi_legacy.proofs.FaultLaws.{one_legacy_fault}
use Rattle.bi_legacy.proofs.KnownImages.{kernel_text}
use Rattle.bi_legacy.proofs.LegacyFaultFacts.{legacy_checks_have_order}
use Rattle.bi_common.specs.declared.format.Format.TheVariants.{Lines}
use Rattle.bi_common.specs.Lines.{field_texts, line_text}
use Rattle.bi_report.specs.Scanning.{ScannedImage, all_found, scan_line, scan_text}
use Rattle.bi_norm.specs.Converting.{IsConvertError, IsConvertedFile, fit_of, NotLegacy, NotConvertible, TextTooLong}
use Rattle.bi_norm.specs.KnownComparisons.{file_without_magic, no_magic}
use Rattle.bi_norm.specs.Meaning.{OfLegacy, OfFit, normal_text}
use Rattle.bi_norm.specs.NormalForm.{IsNormalForm, IsNormaliseError}
use Rattle.bi_norm.specs.Reading.{ForLegacyImage, ForTree}
use Rattle.bi_norm.proofs.ComparisonFacts.{kernel_with_rest_means, no_magic_is_error}
use Rattle.bi_norm.proofs.KindLaws.{one_file_fault}
use Rattle.clap.specs.declared.parser.matches.ArgMatches.{ArgMatches}
use Rattle.clap.proofs.OnLiterals.{clap_on_literals}
use Rattle.bootimg.specs.CommandLine.{Gives, IsExplained, IsJob, TakesImages}
use Rattle.bootimg.specs.Explanations.{explain_text}
use Rattle.bootimg.specs.Failures.{failure_of}
use Rattle.bootimg.specs.KnownHints.{no_terminal}
use Rattle.bootimg.specs.KnownInputs.{two_files, without_files}
use Rattle.bootimg.specs.KnownWorks.{AllWorksAreKnown, ExplainRunsAreKnown, ExplainWorkIsKnown, FitPlansAreKnown, ImageWorksAreKnown}
use Rattle.bootimg.specs.KnownWorks.{OutputsInFilesAreKnown, PartsOfFilesAreKnown, TaskFailuresAreKnown, TaskOutputsAreKnown}
use Rattle.bootimg.specs.KnownWorks.{all_of_in, bytes_in_part, explanation, file_in, in_job, in_plan, normalising, only_in, parts_a_and_b}
use Rattle.bootimg.specs.Program.{program_app}
use Rattle.bootimg.specs.Runs.{ArePartsRead, AreFirstRead, DoneOnFile, DoneOnInput, EndsWell, EndsWithFailure, ExplanationNotWritten}
use Rattle.bootimg.specs.Runs.{FileNotOpened, HasFailed, HasNone, HasSome, Inputs, IsAllWork, IsEnd, IsExplainWork}
use Rattle.bootimg.specs.ProgramRuns.{ExtractedAll, RanEach}
use Rattle.bootimg.specs.Runs.{IsFileNotRead, CouldNotOpen, OpenedNotRead, IsHeldFailure, IsHeldWork, IsJobWork, IsPlanWork, IsOutputRun}
use Rattle.bootimg.specs.Runs.{IsPart, IsPartNotRead, IsSavedWork, IsTaskWork, NoMemoryForExplanation, NoOutput, NotExtracted, Notes}
use Rattle.bootimg.specs.ProgramRuns.{IsRun}
use Rattle.bootimg.specs.Runs.{DidJob, KeptFromTerminal}
use Rattle.bootimg.specs.Runs.{NothingRead, OutputNotSaved, OutputSaved, PayloadsNotSaved, PayloadsSaved, Run, Succeeded}
use Rattle.bootimg.specs.ProgramRuns.{RanJob, Rejected}
use Rattle.bootimg.specs.Runs.{ToFile, ToStandardOutput, Work, WroteExplanation, failure_in_memory, source_failure}
use Rattle.bootimg.specs.ProgramRuns.{WroteText}
use Rattle.bootimg.specs.Runs.{NotesAlignment, NotesCount, inputs_after, inputs_before, inside_line, note_line, positions_line, with_input}
use Rattle.bootimg.specs.Runs.{work_of}
use Rattle.bootimg.specs.Tasks.{IsCallFailure, EndedWith, plan_promise, status_of}
use Rattle.bootimg.specs.declared.command_line.Job.{Job}
use Rattle.bootimg.specs.declared.command_line.Job.TheVariants.{Run as RunTask, Compare, Build, Edit, Explain}
use Rattle.bootimg.specs.declared.command_line.build.BuildPlan.TheVariants as build
use Rattle.bootimg.specs.declared.command_line.part.PartSource.{PartSource}
use Rattle.bootimg.specs.declared.command_line.part.PartSource.TheVariants as part
use Rattle.bootimg.specs.declared.command_line.source.ImageSource.{ImageSource}
use Rattle.bootimg.specs.declared.command_line.source.ImageSource.TheVariants.{Standard, File}
use Rattle.bootimg.specs.declared.failure.Failure.{Failure}
use Rattle.bootimg.specs.declared.failure.Failure.TheVariants.{Call, CannotOpen}
use Rattle.bootimg.specs.declared.jobs.SourceFailure.{SourceFailure}
use Rattle.bootimg.specs.declared.tasks.Done.{Done}
use Rattle.bootimg.proofs.InputFacts.{file_was_not_read, file_was_read, first_step, input_of_file}
use Rattle.bootimg.proofs.MemoryRuns.{same_steps}
use Rattle.bootimg.proofs.OrderFacts.{command_is}
use Rattle.bootimg.proofs.RequestFacts.{option_is}
use Rattle.bootimg.proofs.TaskNames.{no_task_explains}

-- What tasks and jobs do with small files is known.

-- ---- tasks

kernel_output : (output : List ℕ) → IsNormalForm widest Embedded kernel_file_with_rest output → output ≡ kernel_file
kernel_output output is =
    is.is_text ∙ ap (normal_text Embedded) (sym (is.only (OfLegacy kernel_image) kernel_with_rest_means)) ∙ kernel_text

kernel_converted : (output : List ℕ) → IsConvertedFile widest kernel_file_with_rest output →
    output ≡ fit_text Embedded (fit_of kernel_image)
kernel_converted output is =
    is.is_text ∙ ap (λ (image : LegacyImage). fit_text Embedded (fit_of image)) (sym (is.only kernel_image kernel_with_rest_means))

-- Whether `scan` has an answer that is good.
is_false : (answer : Bool) → ¬ (IsTrue answer) → answer ≡ false
is_false true not = absurd (not refl)
is_false false not = refl

is_true : (answer : Bool) → IsTrue answer → answer ≡ true
is_true true is = refl
is_true false is = absurd (true≢false (sym is))

-- A scan without a line finds nothing.
no_line_no_image : (images : List ScannedImage) → scan_text Lines images ≡ [] → images ≡ []
no_line_no_image [] none = refl
no_line_no_image (image ∷ later) none =
    let words = join_with_byte 32 (flat_map field_texts (scan_line image)) in
    absurd
    (omega (arith, ap length none, length-append (line_text (scan_line image)) (scan_text Lines later), length-append words (10 ∷ [])))

pub task_outputs_are_known : TaskOutputsAreKnown
task_outputs_are_known = record {
  normalise = record {
    done = λ done other is. kernel_output other is.0.output.normal;
    text = λ other is. kernel_output other is;
  };
  normalised = λ done output is. is.1;
  convert = record {
    done = λ done other is. kernel_converted other is.0;
    text = λ other is. kernel_converted other is;
  };
  converted = λ done output is. is.1.is_answer;
  nothing_found = λ input done is.
      is.2.is_answer
      ∙ is_false is.0 (λ found. is.1.is_found.0 found (no_line_no_image (all_found is.1.is_scan.has.found) (sym is.1.is_scan.has.is_text)));
  found = λ input byte later done is.
      is.2.is_answer
      ∙ is_true is.0
      (is.1.is_found.1 (λ none. absurd (omega (arith, ap length (is.1.is_scan.has.is_text ∙ ap (scan_text Lines) none)))));
  at_offset = λ done output is. kernel_output output is.holds.0.output.normal;
}

-- ---- failures of tasks

normalise_fault : (error : Error) → IsNormaliseError widest Embedded file_without_magic error → error ≡ Refused no_magic
unfolding u32_at
normalise_fault (Refused fault) is = elim is [
  | inl of_read ↦ ap Refused (one_file_fault widest file_without_magic fault no_magic of_read.0 no_magic_is_error.0)
  | inr long ↦ absurd (no_magic_is_error.1 (OfFit long.0.tree) long.0.means)
]
normalise_fault OutOfMemory is = elim is [
  | ForLegacyImage image means ↦ absurd (no_magic_is_error.1 (OfLegacy image) means)
  | ForTree other fine ↦ absurd (omega (arith, fine.header.1.1.0))
]
normalise_fault ReadFailed is = absurd is
normalise_fault WriteFailed is = absurd is

convert_failure : (failure : Failure) → IsCallFailure (IsConvertError widest file_without_magic) failure → failure ≡ Call (Refused no_magic)
convert_failure failure is = is.is ∙ ap Call (by is.error is.has_error) where
  by : (error : Error) → IsConvertError widest file_without_magic error → error ≡ Refused no_magic
  by (Refused fault) refused = elim refused [
    | NotLegacy fault_is none ↦
        ap Refused (one_legacy_fault file_without_magic widest fault no_magic fault_is legacy_checks_have_order.magic_before_length)
    | NotConvertible image means fault_is ↦ absurd (no_magic_is_error.1 (OfLegacy image) means)
    | TextTooLong image means can long same ↦ absurd (no_magic_is_error.1 (OfLegacy image) means)
  ]
  by OutOfMemory can = absurd (no_magic_is_error.1 (OfLegacy can.image) can.means)
  by ReadFailed never = absurd never
  by WriteFailed never = absurd never

pub task_failures_are_known : TaskFailuresAreKnown
task_failures_are_known = record {
  normalise = λ failure is. is.is ∙ ap Call (normalise_fault is.error is.has_error);
  convert = convert_failure;
  call = λ failure is. is.is ∙ ap Call is.has_error;
  extract = λ failure is. is.is ∙ ap failure_of is.has_error;
  part = refl;
  default = refl;
  not_written = refl;
  no_memory = refl;
}

-- ---- explain

-- An outcome is one thing.
pub not_failed : {done : Done} {failed : SourceFailure} (outcome : Result Done SourceFailure) → outcome ≡ Ok done → ¬ (outcome ≡ Err failed)
not_failed {done} {failed} outcome good bad = let wrong : Ok done ≡ Err failed = sym good ∙ bad in cc

pub same_done : (outcome : Result Done SourceFailure) (one other : Done) → outcome ≡ Ok one → outcome ≡ Ok other → one ≡ other
same_done outcome one other is also = let same : Ok one ≡ Ok other = sym is ∙ also in cc

pub one_failure : (outcome : Result Done SourceFailure) (one other : SourceFailure) → outcome ≡ Err one → outcome ≡ Err other → one ≡ other
one_failure outcome one other is also = let same : Err one ≡ Err other = sym is ∙ also in cc

explained : (work : Work) (done : Done) → IsExplainWork (Some (topic.Cause BadDataCrc)) work → work.outcome ≡ Ok done →
    Writes work.output explanation work.new_output × EndedWith true done
explained work done (WroteExplanation wrote other ended is same) good =
    (wrote.written, subst (EndedWith true) (same_done work.outcome other done is good) ended)
explained work done (ExplanationNotWritten error stopped is same) good = absurd (not_failed work.outcome good is)
explained work done (NoMemoryForExplanation failed same) good = absurd (not_failed work.outcome good failed.outcome)

not_explained : (work : Work) (failed : SourceFailure) → IsExplainWork (Some (topic.Cause BadDataCrc)) work → work.outcome ≡ Err failed →
    (failed ≡ source_failure Standard (Call WriteFailed))
    ⊎ ((failed ≡ source_failure Standard (Call OutOfMemory)) × (work.new_output ≡ work.output))
not_explained work failed (WroteExplanation wrote other ended is same) bad = absurd (not_failed work.outcome is bad)
not_explained work failed (ExplanationNotWritten error stopped is same) bad =
    inl (one_failure work.outcome failed _ bad is ∙ ap (λ e. source_failure Standard (Call e)) stopped.is)
not_explained work failed (NoMemoryForExplanation was same) bad =
    inr (one_failure work.outcome failed _ bad was.outcome, was.nothing_written)

reads_nothing : (work : Work) → IsExplainWork (Some (topic.Cause BadDataCrc)) work → work.new_input ≡ work.input
reads_nothing work (WroteExplanation wrote other ended is same) = same
reads_nothing work (ExplanationNotWritten error stopped is same) = same
reads_nothing work (NoMemoryForExplanation was same) = same

pub explain_work_is_known : ExplainWorkIsKnown
explain_work_is_known = record {
  done = λ work done is good. let all = explained work done is good in (all.0, all.1.is_answer);
  failed = not_explained;
  reads_nothing = reads_nothing;
}

-- Nothing is noted.
no_count : (count : ℕ) (line : List ℕ) (old new : WriteTrace) → count ≡ 0 → NotesCount count line old new → new ≡ old
no_count count line old new none (HasNone zero same) = same
no_count count line old new none (HasSome some logs) = absurd (omega (arith, none, some))

no_notes : (done : Done) (old new : WriteTrace) → EndedWith true done → Notes done old new → new ≡ old
no_notes done old new ended notes =
    no_count done.kept.lost_positions (positions_line done.kept.lost_positions) notes.third new ended.says_nothing.positions
    notes.positions
    ∙ subst (λ alignment. NotesAlignment alignment notes.second notes.third) ended.says_nothing.alignment notes.alignment
    ∙ no_count done.inside (inside_line done.inside) notes.first notes.second ended.none_inside notes.inside
    ∙ no_count done.kept.signatures (note_line done.kept.signatures) old notes.first ended.no_signatures notes.signatures

-- What a run of `explain` requests.
abbrev explain_line : List ℕ
explain_line = codes "explain"

no_cause : (argument : Option (List ℕ)) (cause : Option Topic) → argument ≡ None → IsExplained argument cause → cause ≡ None
no_cause argument cause is explains = by cause (subst (λ a. IsExplained a cause) is explains) where
  by : (cause : Option Topic) → IsExplained None cause → cause ≡ None
  by None explains = refl
  by (Some given) explains = absurd explains

explain_job : (options : ArgMatches) → Gives (words_of_line explain_line) (codes "explain") options → (job : Job) →
    IsJob (codes "explain") options job → job ≡ Explain None
unfolding program_app clap_on_literals
explain_job options is (RunTask plan) holds = absurd (no_task_explains plan.task holds.task.0)
explain_job options is (Compare plan) holds = absurd (other_bytes (codes "explain") (codes "compare") refl holds.0)
explain_job options is (Edit plan) holds = absurd (other_bytes (codes "explain") (codes "update") refl holds.0)
explain_job options is (Explain cause) holds =
    ap Explain (no_cause _ cause (option_is explain_line (codes "explain") options is (codes "cause") ∙ refl) holds.1)
explain_job options is (Build (build.Legacy plan)) holds = absurd (other_bytes (codes "explain") (codes "build-legacy") refl holds.0)
explain_job options is (Build (build.Fit plan)) holds = absurd (other_bytes (codes "explain") (codes "build-fit") refl holds.0)

-- An output without a file is standard output.
standard_output : (files : KnownFiles) (job : Job) (limits : Limits) (run : Run) (outcome : Result Done SourceFailure)
    (output : Option (Bor (List ℕ))) → option_map (λ name. name.now) output ≡ None → IsOutputRun files job limits run outcome output →
    IsJobWork files job limits (work_of run outcome) run.steps run.new_steps
standard_output files job limits run outcome output none (ToStandardOutput work) = work
standard_output files job limits run outcome output none (ToFile name saved same) = absurd cc

-- `explain` takes no image.
explain_takes_none : ¬ (TakesImages (codes "explain"))
explain_takes_none (inl is) = other_bytes (codes "explain") (codes "list") refl is
explain_takes_none (inr (inl is)) = other_bytes (codes "explain") (codes "verify") refl is
explain_takes_none (inr (inr (inl is))) = other_bytes (codes "explain") (codes "check") refl is
explain_takes_none (inr (inr (inr (inl is)))) = other_bytes (codes "explain") (codes "scan") refl is
explain_takes_none (inr (inr (inr (inr never)))) = never

-- What was done is the explanation of all causes, and how the run ends.
explain_run : (run : Run) → IsRun no_terminal (words_of_line explain_line) without_files run →
    ((outcome : Result Done SourceFailure) × IsExplainWork None (work_of run outcome) × (run.new_steps ≡ run.steps)
    × IsEnd false run.errors run.new_errors run.status outcome)
    ⊎ (run.status ≡ 2)
unfolding program_app clap_on_literals
explain_run run (RanJob request is lengths (KeptFromTerminal there rejected)) = inr rejected.status
explain_run run (RanJob request is lengths (DidJob elsewhere outcome done end)) =
    let name = command_is explain_line is.name is.options is.given (codes "explain") refl in
    let gives = subst (λ n. Gives (words_of_line explain_line) n is.options) name is.given in
    let job = explain_job is.options gives request.job (subst (λ n. IsJob n is.options request.job) name is.job) in
    let none = is.output ∙ option_is explain_line (codes "explain") is.options gives (codes "output") ∙ refl in
    let work = standard_output without_files request.job request.limits run outcome request.output none done in
    let explains = subst (λ job. IsJobWork without_files job request.limits (work_of run outcome) run.steps run.new_steps) job work in
    inl (outcome, explains.0, explains.1, end)
explain_run run (RanEach request is ran) =
    absurd (explain_takes_none
    (subst TakesImages (command_is explain_line is.name is.options is.given (codes "explain") refl) is.is.names.takes))
explain_run run (ExtractedAll request is ran) =
    absurd (other_bytes (codes "extract") (codes "explain") refl (command_is explain_line (codes "extract") is.options is.given
    (codes "explain") refl))
explain_run run (Rejected failure is hint is_hint rejected) = inr rejected.status
explain_run run (WroteText kind text is wrote) = absurd is

-- A status is 0 or 2.
two_statuses : (run : Run) (outcome : Result Done SourceFailure) → IsExplainWork None (work_of run outcome) →
    IsEnd false run.errors run.new_errors run.status outcome → (run.status ≡ 0) ⊎ (run.status ≡ 2)
two_statuses run outcome work (EndsWithFailure failed is reports status) = inr status
two_statuses run outcome (WroteExplanation wrote other ended is same) (EndsWell done good notes status) =
    inl (status ∙ ap status_of (ap (λ (d : Done). d.good) (same_done outcome done other good is) ∙ ended.is_answer))
two_statuses run outcome (ExplanationNotWritten error stopped is same) (EndsWell done good notes status) =
    absurd (not_failed outcome good is)
two_statuses run outcome (NoMemoryForExplanation was same) (EndsWell done good notes status) = absurd (not_failed outcome good was.outcome)

-- What a run with the status 0 did.
explains_well : (run : Run) (outcome : Result Done SourceFailure) → run.status ≡ 0 → IsExplainWork None (work_of run outcome) →
    IsEnd false run.errors run.new_errors run.status outcome →
    Writes run.output (explain_text None) run.new_output × (run.new_input ≡ run.input) × (run.new_errors ≡ run.errors)
explains_well run outcome zero work (EndsWithFailure failed is reports status) = absurd (omega (arith, zero, status))
explains_well run outcome zero (WroteExplanation wrote other ended is same) (EndsWell done good notes status) = (
  wrote.written,
  same,
  no_notes done run.errors run.new_errors (subst (EndedWith true) (same_done outcome other done is good) ended) notes,
)
explains_well run outcome zero (ExplanationNotWritten error stopped is same) (EndsWell done good notes status) =
    absurd (not_failed outcome good is)
explains_well run outcome zero (NoMemoryForExplanation was same) (EndsWell done good notes status) =
    absurd (not_failed outcome good was.outcome)

same_bytes : (one other : List ℕ) → Some one ≡ Some other → one ≡ other
same_bytes one other same = cc

-- Bytes that are known before and after are those that were appended.
appended : (old new : Option (List ℕ)) (bytes output : List ℕ) → old ≡ Some [] → new ≡ Some output → Appends old new bytes →
    output ≡ bytes
appended old new bytes output was is appends =
    subst (λ new. Appends (Some []) new bytes) is (subst (λ old. Appends old new bytes) was appends)

pub explain_runs_are_known : ExplainRunsAreKnown
explain_runs_are_known = record {
  done = λ left output errors steps ran. elim (explain_run ran.run ran.is_run) [
    | inl did ↦
        let well = explains_well ran.run did.0 ran.is_status did.1 did.3 in (
          same_bytes left (codes "x")
              (sym ran.remaining_after ∙ ap (λ (trace : ReadTrace). trace.remaining) well.1 ∙ ran.remaining_before),
          appended ran.run.output.contents ran.run.new_output.contents (explain_text None) output ran.contents_before ran.contents_after
              well.0,
          same_bytes errors []
              (sym ran.errors_after ∙ ap (λ (trace : WriteTrace). trace.contents) well.2 ∙ ran.errors_before),
          same_steps steps [] (sym ran.steps_after ∙ did.2 ∙ ran.steps_before),
        )
    | inr two ↦ absurd (omega (arith, two, ran.is_status))
  ];
  statuses = λ left output errors steps status ran. elim (explain_run ran.run ran.is_run) [
    | inl did ↦ elim (two_statuses ran.run did.0 did.1 did.3) [
      | inl zero ↦ inl (sym ran.is_status ∙ zero)
      | inr two ↦ inr (sym ran.is_status ∙ two)
    ]
    | inr two ↦ inr (sym ran.is_status ∙ two)
  ];
}

-- ---- an image

-- What normalising this file writes.
normalised : (source : ImageSource) (old new : ReadTrace) (output new_output : WriteTrace) (done : Done) →
    IsTracedPipe (plan_promise (normalising source) widest) widest old new output new_output (Ok done) →
    old.remaining ≡ Some kernel_file_with_rest → Writes output kernel_file new_output
normalised source old new output new_output done piped has =
    let moved = piped.done.moved in
    let input = input_of_file old.remaining kernel_file_with_rest moved.input has moved.read.is_input in
    let normal = subst (λ input. IsNormalForm widest Embedded input moved.output) (sym input) moved.is_output.holds.0.output.normal in
    subst (λ bytes. Writes output bytes new_output) (kernel_output moved.output normal) moved.written

task_done : (source : ImageSource) (work : Work) (done : Done) →
    IsTaskWork (plan_promise (normalising source) widest) source widest work → work.outcome ≡ Ok done →
    work.input.remaining ≡ Some kernel_file_with_rest → Writes work.output kernel_file work.new_output
task_done source work done (Succeeded other piped is) good has =
    normalised source work.input work.new_input work.output work.new_output other piped has
task_done source work done (HasFailed failure piped is) good has = absurd (not_failed work.outcome good is)

of_input : (work : Work) (done : Done) (old new : Option (List FileStep)) →
    IsPlanWork without_files (normalising Standard) widest work old new → work.input.remaining ≡ Some kernel_file_with_rest →
    work.outcome ≡ Ok done → Writes work.output kernel_file work.new_output × (new ≡ old)
of_input work done old new (DoneOnInput source did same) has good = (task_done Standard work done did good has, same)
of_input work done old new (DoneOnFile name source opened end was did same) has good = absurd cc
of_input work done old new (FileNotOpened name source was failed same) has good = absurd cc

-- A file that is named `in` has this name.
is_in : (name : Bor (List ℕ)) → file_in ≡ File name → lent (codes "in") ≡ name
is_in name same = cc

of_file : (work : Work) (done : Done) (old new : Option (List FileStep)) → IsPlanWork only_in in_plan widest work old new →
    work.outcome ≡ Ok done → Writes work.output kernel_file work.new_output × (work.new_input ≡ work.input)
of_file work done old new (DoneOnInput source did same) good = absurd cc
of_file work done old new (DoneOnFile name source opened end was did same) good =
    let opens = subst (λ (name : Bor (List ℕ)). WasOpened only_in name.now opened end old new) (sym (is_in name source)) was in
    (task_done file_in (with_input work opened end) done did good opens.is_open.is_file, same)
of_file work done old new (FileNotOpened name source was failed same) good = absurd (not_failed work.outcome good failed.outcome)

no_file : (work : Work) (new : Option (List FileStep)) → IsPlanWork without_files in_plan widest work (Some []) new →
    (work.outcome ≡ Err (source_failure file_in CannotOpen)) × (work.new_output ≡ work.output) × (work.new_input ≡ work.input)
    × IfSome new (λ steps. steps ≡ NotOpened (codes "in") ∷ [])
no_file work new (DoneOnInput source did same) = absurd cc
no_file work new (DoneOnFile name source opened end was did same) = absurd was.is_open.is_file
no_file work new (FileNotOpened name source was failed same) =
    let not = subst (λ (name : Bor (List ℕ)). WasNotOpened without_files name.now (Some []) new) (sym (is_in name source)) was in
    (failed.outcome, failed.nothing_written, same, first_step new (NotOpened (codes "in")) not.steps)

pub image_works_are_known : ImageWorksAreKnown
image_works_are_known = record { of_input = of_input; of_file = of_file; no_file = no_file }

-- ---- an output in a file

to_output : (run : Run) (done : Done) → IsOutputRun only_in in_job widest run (Ok done) None →
    Writes run.output kernel_file run.new_output
to_output run done is =
    (of_file (work_of run (Ok done)) done run.steps run.new_steps
    (standard_output only_in in_job widest run (Ok done) None refl is) refl).0

-- The output that is held is the normal form.
held_is : (before after : Inputs) (done : Done) (output : List ℕ) →
    IsHeldWork only_in in_job widest before after (Ok done) (Some output) → output ≡ kernel_file
held_is before after done output is =
    appended is.memory.contents is.new_memory.contents kernel_file output is.empty is.holds (of_file _ done _ _ is.work refl).0

saved_work : (before after : Inputs) (done : Done) (last : List FileStep) →
    IsSavedWork only_in in_job widest (lent (codes "out")) before after (Ok done) → after.steps ≡ Some last →
    (first : List FileStep) × (steps : List FileStep) × (last ≡ first ++ steps) × AreSavingSteps (codes "out") kernel_file steps
saved_work before after done last (OutputSaved other output worked held saved is) ends =
    let all = saved_in_steps only_in (codes "out") output worked last
    (subst (λ steps. IsSaved only_in (codes "out") output worked steps) ends saved) in
    (all.0, all.1, all.3, subst (λ bytes. AreSavingSteps (codes "out") bytes all.1) (held_is _ _ other output held) all.4)
saved_work before after done last (OutputNotSaved other output worked held error saved is) ends = absurd cc
saved_work before after done last (NoOutput failed is same) ends = absurd cc

-- An output in a file is saved.
output_saved : (files : KnownFiles) (job : Job) (limits : Limits) (run : Run) (outcome : Result Done SourceFailure)
    (output : Option (Bor (List ℕ))) (name : Bor (List ℕ)) → output ≡ Some name → IsOutputRun files job limits run outcome output →
    IsSavedWork files job limits name (inputs_before run) (inputs_after run) outcome × (run.new_output ≡ run.output)
output_saved files job limits run outcome output name is (ToStandardOutput work) = absurd cc
output_saved files job limits run outcome output name is (ToFile other saved same) =
    let names : other ≡ name = cc in
    (subst (λ (name : Bor (List ℕ)). IsSavedWork files job limits name (inputs_before run) (inputs_after run) outcome) names saved, same)

to_file : (run : Run) (done : Done) (after : List FileStep) →
    IsOutputRun only_in in_job widest run (Ok done) (Some (lent (codes "out"))) → run.new_steps ≡ Some after →
    (run.new_output ≡ run.output) × (before : List FileStep) × (steps : List FileStep) × (after ≡ before ++ steps)
    × AreSavingSteps (codes "out") kernel_file steps
to_file run done after is ends =
    let saved = output_saved only_in in_job widest run (Ok done) (Some (lent (codes "out"))) (lent (codes "out")) refl is in
    let steps = saved_work (inputs_before run) (inputs_after run) done after saved.0 ends in
    (saved.1, steps.0, steps.1, steps.2, steps.3)

not_held : (before after : Inputs) (failed : SourceFailure) → IsHeldFailure without_files in_job widest before after failed →
    failed ≡ source_failure file_in CannotOpen
not_held before after failed is =
    let cause = one_failure _ is.cause (source_failure file_in CannotOpen) refl (in_memory_fails is.work.work) in
    λ i. record {
      source = (is.source ∙ ap (λ (f : SourceFailure). f.source) cause) i;
      failure = (is.failure ∙ ap (λ (f : SourceFailure). failure_in_memory f.failure) cause) i;
    }
  where
    in_memory_fails : {work : Work} {old new : Option (List FileStep)} → IsPlanWork without_files in_plan widest work old new →
        work.outcome ≡ Err (source_failure file_in CannotOpen)
    in_memory_fails (DoneOnInput source did same) = absurd cc
    in_memory_fails (DoneOnFile name source opened end was did same) = absurd was.is_open.is_file
    in_memory_fails (FileNotOpened name source was failed same) = failed.outcome

pub outputs_in_files_are_known : OutputsInFilesAreKnown
outputs_in_files_are_known = record {
  to_output = to_output;
  to_file = to_file;
  not_held = not_held;
  write_failed = refl;
  read_failed = refl;
  cannot_open = refl;
}

-- ---- parts and payloads

-- A part of a file has the bytes of the file.
part_bytes : (files : KnownFiles) (name : Bor (List ℕ)) (given : Part) (bytes : List ℕ) (old new : Option (List FileStep)) →
    ((opened : Option (List ℕ)) → NameHas files name.now (MayBeOpened opened) → opened ≡ Some bytes) →
    IsPart files widest (part.File name) given old new → bytes_in_part given ≡ Some bytes
part_bytes files name (Bytes given) bytes old new only is =
    ap Some (sym (input_of_file is.opened.remaining bytes given.now (only is.opened.remaining is.was_opened.is_open.is_file)
    is.is_read.whole.is_input))
part_bytes files name (Length size) bytes old new only is = absurd is

both_read : (parts : List Part) (old new : Option (List FileStep)) →
    ArePartsRead (two_files (codes "x") (codes "yz")) widest parts_a_and_b parts old new →
    map bytes_in_part parts ≡ Some (codes "x") ∷ Some (codes "yz") ∷ []
both_read [] old new is = absurd is
both_read (one ∷ []) old new is = absurd is.2
both_read (one ∷ other ∷ []) old new is =
    λ i. part_bytes (two_files (codes "x") (codes "yz")) (lent (codes "a")) one (codes "x") old is.0 (λ opened same. same) is.1 i
    ∷ part_bytes (two_files (codes "x") (codes "yz")) (lent (codes "b")) other (codes "yz") is.0 is.2.0 (λ opened same. same) is.2.1 i
    ∷ []
both_read (one ∷ other ∷ third ∷ later) old new is = absurd is.2.2

length_is : (given : Part) (old new : Option (List FileStep)) → IsPart without_files widest (part.Input 5) given old new →
    (given ≡ Length 5) × (new ≡ old)
length_is (Bytes bytes) old new is = absurd is
length_is (Length size) old new is = (ap Length is.0, is.1)

-- Without files no part of a file is read.
pub none_of_files : (before : List PartSource) (name : Bor (List ℕ)) (parts : List Part) (old new : Option (List FileStep)) →
    ¬ (ArePartsRead without_files widest (part.File name ∷ before) parts old new)
none_of_files before name [] old new is = is
none_of_files before name (Bytes bytes ∷ parts) old new is = is.1.was_opened.is_open.is_file
none_of_files before name (Length size ∷ parts) old new is = is.1

first_source : (one other : PartSource) (later others : List PartSource) → ◌≡◌ {A = List PartSource} (one ∷ later) (other ∷ others) →
    one ≡ other
first_source one other later others same = cc

cannot_open : (name : List ℕ) (failure : Failure) (old new : Option (List FileStep)) →
    IsFileNotRead without_files widest name failure old new → failure ≡ CannotOpen
cannot_open name failure old new (CouldNotOpen was is) = is
cannot_open name failure old new (OpenedNotRead opened end was not_read) = absurd was.is_open.is_file

a_not_read : (failed : SourceFailure) (old new : Option (List FileStep)) →
    IsPartNotRead without_files widest parts_a_and_b failed old new → failed ≡ source_failure (File (lent (codes "a"))) CannotOpen
a_not_read failed old new is = by is.before is.is is.are_read
  where
    by : (before : List PartSource) → parts_a_and_b ≡ before ++ part.File is.name ∷ is.later →
        ArePartsRead without_files widest before is.parts old is.middle →
        failed ≡ source_failure (File (lent (codes "a"))) CannotOpen
    by [] split read =
        let names : lent (codes "a") ≡ is.name = let first = first_source _ _ _ _ split in cc in
        λ i. record {
          source = (is.named ∙ ap File (sym names)) i;
          failure = cannot_open is.name.now failed.failure is.middle new is.not_read i;
        }
    by (first ∷ before) split read =
        absurd (none_of_files before (lent (codes "a")) is.parts old is.middle
        (subst (λ first. ArePartsRead without_files widest (first ∷ before) is.parts old is.middle)
        (sym (first_source _ _ _ _ split)) read))

no_part_read : (old new : Option (List FileStep)) → AreFirstRead without_files widest parts_a_and_b old new → new ≡ old
no_part_read old new is = by is.first is.parts is.is is.are_read
  where
    by : (first : List PartSource) (parts : List Part) → parts_a_and_b ≡ first ++ is.later →
        ArePartsRead without_files widest first parts old new → new ≡ old
    by [] [] split read = read
    by [] (given ∷ parts) split read = absurd read
    by (one ∷ first) parts split read =
        absurd (none_of_files first (lent (codes "a")) parts old new
        (subst (λ one. ArePartsRead without_files widest (one ∷ first) parts old new) (sym (first_source _ _ _ _ split)) read))

pub parts_of_files_are_known : PartsOfFilesAreKnown
parts_of_files_are_known = record {
  read = both_read;
  length = length_is;
  not_read = a_not_read;
  none_read = no_part_read;
  no_input = refl;
}

pub fit_plans_are_known : FitPlansAreKnown
fit_plans_are_known = record {
  default = λ plan. refl;
  no_default = λ plan. refl;
  algorithms = λ plan. refl;
  sources = λ plan. refl;
  lengths = λ plan are. are;
}

-- ---- all payloads

nothing_read : (directory : Bor (List ℕ)) (before after : Inputs) (outcome : Result Done SourceFailure) →
    IsAllWork without_files (all_of_in directory) before after outcome → before.steps ≡ Some [] →
    (outcome ≡ Err (source_failure file_in CannotOpen)) × IfSome after.steps (λ steps. steps ≡ NotOpened (codes "in") ∷ [])
nothing_read directory before after outcome (PayloadsSaved file name payloads read was all word saved done ended is) begins =
    absurd (file_was_read _ _ _ _ _ _ _ refl was).was_opened.is_open.is_file
nothing_read directory before after outcome (PayloadsNotSaved file name payloads read was all word error saved is) begins =
    absurd (file_was_read _ _ _ _ _ _ _ refl was).was_opened.is_open.is_file
nothing_read directory before after outcome (NotExtracted file was error why is) begins =
    absurd (file_was_read _ _ _ _ _ _ _ refl was).was_opened.is_open.is_file
nothing_read directory before after outcome (NothingRead failure was is) begins = by (file_was_not_read _ _ _ _ _ _ _ refl was)
  where
    by : IsFileNotRead without_files widest (codes "in") failure before.steps after.steps →
        (outcome ≡ Err (source_failure file_in CannotOpen)) × IfSome after.steps (λ steps. steps ≡ NotOpened (codes "in") ∷ [])
    by (CouldNotOpen not cause) = (
      is ∙ ap (λ f. Err (source_failure file_in f)) cause,
      first_step after.steps (NotOpened (codes "in"))
          (subst (λ old. TookSteps old after.steps (NotOpened (codes "in") ∷ [])) begins not.steps),
    )
    by (OpenedNotRead opened end opens not_read) = absurd opens.is_open.is_file

pub all_works_are_known : AllWorksAreKnown
all_works_are_known = record { no_file = nothing_read }
