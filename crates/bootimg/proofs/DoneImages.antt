use Rattle.std.proofs.Common.{◌≡◌, ◌≢◌, ◌∙◌, ◌+◌, ◌<◌, ◌≤◌, ℕ, max, Bool, true, false, Bor, List, [], ◌∷◌, ◌++◌, Option, None, Some}
use Rattle.std.proofs.Common.{Result, Ok, Err}
use Rattle.std.proofs.Common.{ap, arith, get_or, length, refl, subst, sym, take}
use Rattle.bi_base.specs.Traces.{WriteTrace}
use Rattle.bi_files.specs.declared.saving.SaveError.{SaveError}
use Rattle.bi_files.specs.Files.{FileStep, IsNotSaved, IsSaved, KnownFiles}
use Rattle.bi_common.specs.declared.format.Format.{Format}
use Rattle.bi_base.specs.Limits.{Limits}
use Rattle.bi_labels.specs.InTurn.{AreDoneInTurn}
use Rattle.bi_labels.specs.LabelledCommands.{labelled_promise}
use Rattle.bi_labels.proofs.DoneInTurn.{AreDoneSoFar, all_done, last_done, none_done, one_more_done}
use Rattle.bootimg.specs.declared.command_line.images.ImagesRequest.{ImagesRequest}
use Rattle.bootimg.specs.declared.command_line.source.ImageSource.{ImageSource}
use Rattle.bootimg.specs.declared.command_line.source.ImageSource.TheVariants.{File}
use Rattle.bootimg.specs.declared.failure.Failure.{Failure}
use Rattle.bootimg.specs.declared.several.ImageEnd.{ImageEnd}
use Rattle.bootimg.specs.declared.jobs.SourceFailure.{SourceFailure}
use Rattle.bootimg.specs.declared.tasks.Done.{Done}
use Rattle.bootimg.specs.Failures.{failure_to_save}
use Rattle.bootimg.specs.Hints.{hint_given}
use Rattle.bootimg.specs.ProgramRuns.{EachToFile, EachToStandardOutput, IsImagesRun, streams_after, streams_before}
use Rattle.bootimg.specs.Runs.{EndsWell, EndsWithFailure, Inputs, IsEnd, IsImageWork, Promise, Reports, Run, Work, inputs_after}
use Rattle.bootimg.specs.Runs.{inputs_before}
use Rattle.bootimg.specs.SeveralImages.{AreDone, AreHeld, AreSaved, IsImageDone, IsImageEnd, Streams, greatest_status}
use Rattle.bootimg.specs.SeveralImages.{OneHasFailed, TextsNotSaved, TextsSaved, is_last, reported_outcome, status_of_outcome}
use Rattle.bootimg.specs.Tasks.{status_of}

-- Images that were done in turn.

-- ---- one image

-- The status is that of the outcome.
pub status_of_end : (hints : Bool) (errors new_errors : WriteTrace) (status : ℕ) (is_held : Bool) (outcome : Result Done SourceFailure)
    → IsEnd hints errors new_errors status (reported_outcome is_held outcome) → status ≡ status_of_outcome outcome
status_of_end hints errors new_errors status is_held (Ok done) (EndsWell other same notes is) =
    let equal : other ≡ done = cc in is ∙ ap (λ d. status_of d.good) equal
status_of_end hints errors new_errors status is_held (Ok done) (EndsWithFailure failed same reports is) = absurd cc
status_of_end hints errors new_errors status is_held (Err failed) (EndsWell done same notes is) = absurd cc
status_of_end hints errors new_errors status is_held (Err failed) (EndsWithFailure other same reports is) = is

-- How the work ended, by the outcome as it was reported.
pub image_ended : (hints : Bool) (errors new_errors : WriteTrace) (status : ℕ) (is_held : Bool) (outcome shown : Result Done SourceFailure)
    → shown ≡ reported_outcome is_held outcome → IsEnd hints errors new_errors status shown
    → IsEnd hints errors new_errors (status_of_outcome outcome) (reported_outcome is_held outcome) × (status ≡ status_of_outcome outcome)
image_ended hints errors new_errors status is_held outcome shown is end =
    let ends = subst (λ o. IsEnd hints errors new_errors status o) is end in
    let same = status_of_end hints errors new_errors status is_held outcome ends in
    (subst (λ s. IsEnd hints errors new_errors s (reported_outcome is_held outcome)) same ends, same)

-- The work of a command with the form and the name of the image.
pub named_work : (files : KnownFiles) (promise : Promise) (format other : Format) (label text : List ℕ) (source : ImageSource)
    (limits : Limits) (work : Work) (old new : Option (List FileStep)) → format ≡ other → label ≡ text
    → IsImageWork files (labelled_promise format label promise) source limits work old new
    → IsImageWork files (labelled_promise other text promise) source limits work old new
named_work files promise format other label text source limits work old new same named done =
    subst (λ t. IsImageWork files (labelled_promise other t promise) source limits work old new) named
    (subst (λ f. IsImageWork files (labelled_promise f label promise) source limits work old new) same done)

-- ---- the greatest status

-- The greatest status with one outcome more.
greatest_status-snoc : (outcomes : List (Result Done SourceFailure)) (outcome : Result Done SourceFailure)
    → greatest_status (outcomes ++ outcome ∷ []) ≡ max (greatest_status outcomes) (status_of_outcome outcome)
greatest_status-snoc [] outcome = omega arith
greatest_status-snoc (first ∷ outcomes) outcome =
    let rest = greatest_status-snoc outcomes outcome in
    omega (arith, rest)

-- ---- the images so far

-- The images so far were done, and the status is the greatest.
pub record HaveBeenDone (files : KnownFiles) (hints : Bool) (request : ImagesRequest) (is_held : Bool) (sources : List ImageSource)
    (old new : Streams)
    (status : ℕ) : Type 0
  where
    pub outcomes : List (Result Done SourceFailure)
    pub so_far : AreDoneSoFar (IsImageDone files hints request is_held) is_last sources outcomes old new
    pub is_greatest : status ≡ greatest_status outcomes

pub none_yet : (files : KnownFiles) (hints : Bool) (request : ImagesRequest) (is_held : Bool) (streams : Streams) (status : ℕ) → status ≡ 0
    → HaveBeenDone files hints request is_held [] streams streams status
none_yet files hints request is_held streams status is =
    record { outcomes = []; so_far = none_done (IsImageDone files hints request is_held) is_last streams; is_greatest = is }

pub next_image_done : (files later : KnownFiles) (hints : Bool) (request : ImagesRequest) (is_held : Bool) (sources : List ImageSource)
    (i : ℕ)
    (d : ImageSource) (old middle new : Streams) (status greatest : ℕ) (end : ImageEnd) → i < length sources
    → HaveBeenDone files hints request is_held (take i sources) old middle status → later ≡ files
    → IsImageEnd later hints request is_held (get_or sources i d) middle new end → end.is_last ≡ false → greatest ≡ max status end.status
    → HaveBeenDone files hints request is_held (take (i + 1) sources) old new greatest
next_image_done files later hints request is_held sources i d old middle new status greatest end within so_far same is more greater =
    record {
      outcomes = so_far.outcomes ++ is.outcome ∷ [];
      so_far = one_more_done (IsImageDone files hints request is_held) is_last sources i d so_far.outcomes is.outcome old middle new within
          so_far.so_far (subst (λ f. IsImageDone f hints request is_held (get_or sources i d) is.outcome middle new) same is.done)
          (sym is.last ∙ more);
      is_greatest = greater ∙ ap (λ s. max s end.status) so_far.is_greatest ∙ ap (max (greatest_status so_far.outcomes)) is.status
          ∙ sym (greatest_status-snoc so_far.outcomes is.outcome);
    }

pub up_to_last : (files later : KnownFiles) (hints : Bool) (request : ImagesRequest) (is_held : Bool) (sources : List ImageSource) (i : ℕ)
    (d : ImageSource) (old middle new : Streams) (status greatest : ℕ) (end : ImageEnd) → sources ≡ request.sources.items
    → i < length sources
    → HaveBeenDone files hints request is_held (take i sources) old middle status → later ≡ files
    → IsImageEnd later hints request is_held (get_or sources i d) middle new end → end.is_last ≡ true → greatest ≡ max status end.status
    → AreDone files hints request is_held old new greatest
up_to_last files later hints request is_held sources i d old middle new status greatest end names within so_far same is last greater =
    record {
      outcomes = so_far.outcomes ++ is.outcome ∷ [];
      in_turn = subst (λ all. AreDoneInTurn (IsImageDone files hints request is_held) is_last all
          (so_far.outcomes ++ is.outcome ∷ []) old new) names
          (last_done (IsImageDone files hints request is_held) is_last sources i d so_far.outcomes is.outcome old middle new within
          so_far.so_far
          (subst (λ f. IsImageDone f hints request is_held (get_or sources i d) is.outcome middle new) same is.done)
          (sym is.last ∙ last));
      is_greatest = greater ∙ ap (λ s. max s end.status) so_far.is_greatest ∙ ap (max (greatest_status so_far.outcomes)) is.status
          ∙ sym (greatest_status-snoc so_far.outcomes is.outcome);
    }

pub all_of_them : (files : KnownFiles) (hints : Bool) (request : ImagesRequest) (is_held : Bool) (sources : List ImageSource) (i : ℕ)
    (old new : Streams)
    (status : ℕ) → sources ≡ request.sources.items → length sources ≤ i
    → HaveBeenDone files hints request is_held (take i sources) old new status → AreDone files hints request is_held old new status
all_of_them files hints request is_held sources i old new status names past so_far = record {
  outcomes = so_far.outcomes;
  in_turn = subst (λ all. AreDoneInTurn (IsImageDone files hints request is_held) is_last all so_far.outcomes old new) names
      (all_done (IsImageDone files hints request is_held) is_last sources i so_far.outcomes old new past so_far.so_far);
  is_greatest = so_far.is_greatest;
}

-- ---- an output in a file

-- A status other than 2 is 0 or 1.
outcome_status : (outcome : Result Done SourceFailure) → status_of_outcome outcome ≤ 2
outcome_status (Ok done) = by done.good where
  by : (good : Bool) → status_of good ≤ 2
  by true = omega arith
  by false = omega arith
outcome_status (Err failed) = omega arith

greatest_is_status : (outcomes : List (Result Done SourceFailure)) → greatest_status outcomes ≤ 2
greatest_is_status [] = omega arith
greatest_is_status (outcome ∷ later) =
    let first = outcome_status outcome in
    let rest = greatest_is_status later in
    omega (arith, first, rest)

pub below_two : (files : KnownFiles) (hints : Bool) (request : ImagesRequest) (before after : Inputs) (errors new_errors : WriteTrace)
    (status : ℕ)
    (held : Option (List ℕ)) → AreHeld files hints request before after errors new_errors status held → status ≢ 2 → status < 2
below_two files hints request before after errors new_errors status held are not =
    let most = greatest_is_status are.done.outcomes in
    omega (arith, are.done.is_greatest, most, not)

-- The images did not change what is known of the files.
pub texts_saved : (files later : KnownFiles) (hints : Bool) (request : ImagesRequest) (name : Bor (List ℕ)) (before after : Inputs)
    (worked : Option (List FileStep)) (errors new_errors : WriteTrace) (status : ℕ) (output saved : List ℕ)
    → AreHeld files hints request before (record { input = after.input; steps = worked }) errors new_errors status (Some output)
    → status ≢ 2 → later ≡ files → saved ≡ output → IsSaved later name.now saved worked after.steps
    → AreSaved files hints request name before after errors new_errors status
texts_saved files later hints request name before after worked errors new_errors status output saved held not same bytes is =
    TextsSaved output worked held (below_two files hints request _ _ errors new_errors status _ held not)
    (subst (λ f. IsSaved f name.now output worked after.steps) same
    (subst (λ b. IsSaved later name.now b worked after.steps) bytes is))

pub texts_not_saved : (files later : KnownFiles) (hints : Bool) (request : ImagesRequest) (name : Bor (List ℕ)) (before after : Inputs)
    (worked : Option (List FileStep)) (errors middle new_errors : WriteTrace) (other status : ℕ) (output saved : List ℕ)
    (error : SaveError) (failure : Failure)
    → AreHeld files hints request before (record { input = after.input; steps = worked }) errors middle other (Some output)
    → other ≢ 2 → later ≡ files → saved ≡ output → IsNotSaved later name.now saved error worked after.steps
    → failure ≡ failure_to_save error → Reports (File name) failure (hint_given hints failure) middle new_errors → status ≡ 2
    → AreSaved files hints request name before after errors new_errors status
texts_not_saved files later hints request name before after worked errors middle new_errors other status output saved error failure held
    not same
    bytes is why reports two =
    TextsNotSaved output worked middle other held (below_two files hints request _ _ errors middle other _ held not) error
    (subst (λ f. IsNotSaved f name.now output error worked after.steps) same
    (subst (λ b. IsNotSaved later name.now b error worked after.steps) bytes is))
    (subst (λ f. Reports (File name) f (hint_given hints f) middle new_errors) why reports) two

-- An image was refused or failed, and nothing was saved.
pub one_has_failed : (files : KnownFiles) (hints : Bool) (request : ImagesRequest) (name : Bor (List ℕ)) (before after : Inputs)
    (errors new_errors : WriteTrace) (status : ℕ) (held : Option (List ℕ))
    → AreHeld files hints request before after errors new_errors status held → status ≡ 2
    → AreSaved files hints request name before after errors new_errors 2
one_has_failed files hints request name before after errors new_errors status held are is =
    OneHasFailed held (subst (λ s. AreHeld files hints request before after errors new_errors s held) is are) refl

-- ---- runs

pub images_to_output : (files : KnownFiles) (hints : Bool) (request : ImagesRequest) (run : Run) → request.output ≡ None
    → AreDone files hints request false (streams_before run) (streams_after run) run.status
    → IsImagesRun files hints request run request.output
images_to_output files hints request run is done = subst (λ o. IsImagesRun files hints request run o) (sym is) (EachToStandardOutput done)

pub images_to_file : (files : KnownFiles) (hints : Bool) (request : ImagesRequest) (run : Run) (name : Bor (List ℕ))
    → request.output ≡ Some name
    → AreSaved files hints request name (inputs_before run) (inputs_after run) run.errors run.new_errors run.status
    → run.new_output ≡ run.output → IsImagesRun files hints request run request.output
images_to_file files hints request run name is saved same = subst (λ o. IsImagesRun files hints request run o) (sym is)
    (EachToFile name saved same)
