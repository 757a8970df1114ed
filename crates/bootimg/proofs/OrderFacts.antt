use Rattle.std.proofs.Common.{◌≡◌, ◌≤◌, ◌∙◌, ℕ, true≢false, Bor, List, [], ◌∷◌, Some, codes, inl, inr, length}
use Rattle.std.proofs.Common.{ap, arith, refl, sym, subst}
use Rattle.std.specs.Prelude.{option_map}
use Rattle.bi_base.proofs.EqualBytes.{other_bytes}
use Rattle.bootimg.specs.KnownWords.{words_of_line}
use Rattle.clap.specs.Simple.{subcommand_of}
use Rattle.clap.specs.Walk.{Row, Text}
use Rattle.clap.specs.declared.parser.matches.ArgMatches.{ArgMatches}
use Rattle.clap.proofs.OnLiterals.{clap_on_literals}
use Rattle.bootimg.specs.CommandLine.{Gives, IsJob, IsLimits, IsTaskFailure, NoJob, NoLimits, NoLimitsForEach, NoMemory, NoTaskForEach}
use Rattle.bootimg.specs.CommandLine.{AreImageSources, IsTask, NotEach, TakesImages, TwoInputs, image_arguments}
use Rattle.bootimg.specs.declared.command_line.source.ImageSource.{ImageSource}
use Rattle.bootimg.specs.declared.command_line.source.ImageSource.TheVariants.{File, Standard}
use Rattle.bootimg.specs.CommandLine.{NotAll, NotAllowed, NotCompared, NotExplained, NotFit, NotFormed}
use Rattle.bootimg.specs.CommandLine.{NotLegacy, NotLimited, NotNamed, NotPlaced, NotSelected, NotShown, all_flag, limit_of}
use Rattle.bootimg.specs.CommandLine.{NotEdited}
use Rattle.bootimg.specs.KnownOrders.{IsListOfFile, IsRejectedFor, RejectionsAreKnown, RequestsAreKnown}
use Rattle.bootimg.specs.Program.{program_app}
use Rattle.bootimg.specs.declared.command_line.Job.{Job}
use Rattle.bootimg.specs.declared.command_line.Job.TheVariants.{Run, Compare, Build, Edit, Explain}
use Rattle.bootimg.specs.declared.command_line.build.BuildPlan.TheVariants as build
use Rattle.bootimg.specs.declared.failure.Failure.{Failure}
use Rattle.bootimg.specs.declared.failure.Failure.TheVariants.{BadValue, NoChange}
use Rattle.bootimg.proofs.ArgumentFacts.{decimal_digits, limits_are_known}
use Rattle.bootimg.proofs.FirstFailureFacts.{NothingAsked, change_fails, no_edits, nothing_asked}
use Rattle.bootimg.proofs.RequestFacts.{all_requests_are_known, file_is_named, flag_is}
use Rattle.bootimg.proofs.RequestFacts.{number_of_argument, option_is, value_is}
use Rattle.bootimg.proofs.OptionFacts.{found_values}
use Rattle.bootimg.proofs.TaskNames.{list_task, no_task_updates, verify_task}

-- What whole command lines request, or why they request nothing, is known.

-- The command that a command line names.
pub command_is : (line name : List ℕ) (options : ArgMatches) → Gives (words_of_line line) name options → (wanted : List ℕ) →
    option_map (λ (command : Text × List Row). command.0) (subcommand_of program_app (words_of_line line)) ≡ Some wanted → name ≡ wanted
command_is line name options is wanted given =
    let same : Some name ≡ Some wanted =
    sym (ap (option_map (λ (command : Text × List Row). command.0)) is.given) ∙ given in
    cc

-- ---- requests

abbrev list_line : List ℕ
list_line = codes "list --json --offset 7 --limit 64 -o out in"

list_job : (options : ArgMatches) → Gives (words_of_line list_line) (codes "list") options → (job : Job) →
    IsJob (codes "list") options job → IsListOfFile job
unfolding program_app clap_on_literals
list_job options is (Run plan) holds = (
  list_task options (flag_is list_line (codes "list") options is (codes "json") ∙ refl) plan.task holds.task,
  number_of_argument _ (codes "7") 7 (value_is list_line (codes "list") options is (codes "offset") (codes "0") ∙ refl)
      (decimal_digits (codes "7") refl refl) plan.offset holds.offset,
  file_is_named _ (codes "in") plan.source (option_is list_line (codes "list") options is (codes "file") ∙ refl) refl holds.source,
)
list_job options is (Compare plan) holds = other_bytes (codes "list") (codes "compare") refl holds.0
list_job options is (Edit plan) holds = other_bytes (codes "list") (codes "update") refl holds.0
list_job options is (Explain cause) holds = other_bytes (codes "list") (codes "explain") refl holds.0
list_job options is (Build (build.Legacy plan)) holds = other_bytes (codes "list") (codes "build-legacy") refl holds.0
list_job options is (Build (build.Fit plan)) holds = other_bytes (codes "list") (codes "build-fit") refl holds.0

-- The first image is the file `a`, and the second one is standard input.
abbrev several_line : List ℕ
several_line = codes "verify --json a -"

two_sources : (sources : List ImageSource) → AreImageSources (codes "a" ∷ codes "-" ∷ []) sources →
    (file : Bor (List ℕ)) × (file.now ≡ codes "a") × (sources ≡ File file ∷ Standard ∷ [])
two_sources [] are = absurd are
two_sources (Standard ∷ rest) are = absurd (other_bytes (codes "a") (codes "-") refl are.0)
two_sources (File one ∷ []) are = absurd are.1
two_sources (File one ∷ File other ∷ rest) are = absurd (are.1.0.1 refl)
two_sources (File one ∷ Standard ∷ []) are = (one, are.0.0, refl)
two_sources (File one ∷ Standard ∷ more ∷ rest) are = absurd are.1.1

-- Two images are more than one.
two_are_more : (words : List (List ℕ)) → words ≡ codes "a" ∷ codes "-" ∷ [] → ¬ (length words ≤ 1)
two_are_more words are few = absurd (omega (arith, ap length are, few))

one_is_less : (words : List (List ℕ)) → words ≡ codes "a" ∷ [] → ¬ (2 ≤ length words)
one_is_less words are several = absurd (omega (arith, ap length are, several))

no_one_job : (options : ArgMatches) → Gives (words_of_line several_line) (codes "verify") options → (job : Job) →
    ¬ (IsJob (codes "verify") options job)
unfolding program_app clap_on_literals
no_one_job options is (Run plan) holds =
    two_are_more (image_arguments options) (found_values several_line (codes "verify") options is (codes "file") ∙ refl)
    (holds.no_more (inr (inl refl)))
no_one_job options is (Compare plan) holds = other_bytes (codes "verify") (codes "compare") refl holds.0
no_one_job options is (Edit plan) holds = other_bytes (codes "verify") (codes "update") refl holds.0
no_one_job options is (Explain cause) holds = other_bytes (codes "verify") (codes "explain") refl holds.0
no_one_job options is (Build (build.Legacy plan)) holds = other_bytes (codes "verify") (codes "build-legacy") refl holds.0
no_one_job options is (Build (build.Fit plan)) holds = other_bytes (codes "verify") (codes "build-fit") refl holds.0

pub requests_are_known : RequestsAreKnown
unfolding program_app clap_on_literals
requests_are_known = record {
  list = λ request is.
      let name = command_is list_line is.name is.options is.given (codes "list") refl in
      let gives = subst (λ n. Gives (words_of_line list_line) n is.options) name is.given in
      let limit : limit_of is.options ≡ codes "64" =
      value_is list_line (codes "list") is.options gives (codes "limit") (codes "2147483647") ∙ refl in
      record {
        job = list_job is.options gives request.job (subst (λ n. IsJob n is.options request.job) name is.job);
        limits = limits_are_known.least.1 request.limits (subst (λ a. IsLimits a request.limits) limit is.limits);
        output = is.output ∙ option_is list_line (codes "list") is.options gives (codes "output") ∙ refl;
      };
  all = λ request is. (all_requests_are_known.given is.options is.given).1 request is.is;
  not_all = λ request is.
      true≢false (is.selects.not_given
      (flag_is (codes "extract --part 0 in") (codes "extract") is.options is.given (codes "all") ∙ refl));
  several = λ request is.
      let name = command_is several_line is.name is.options is.given (codes "verify") refl in
      let gives = subst (λ n. Gives (words_of_line several_line) n is.options) name is.given in
      let words : image_arguments is.options ≡ codes "a" ∷ codes "-" ∷ [] =
      found_values several_line (codes "verify") is.options gives (codes "file") ∙ refl in
      let two = two_sources request.sources.items (subst (λ w. AreImageSources w request.sources.items) words is.is.sources.each) in (
        verify_task is.options (flag_is several_line (codes "verify") is.options gives (codes "json") ∙ refl) request.task
            (subst (λ n. IsTask n is.options request.task) name is.is.task),
        two.0,
        two.1,
        two.2,
      );
  not_several = λ request is.
      let name = command_is (codes "verify a") is.name is.options is.given (codes "verify") refl in
      let gives = subst (λ n. Gives (words_of_line (codes "verify a")) n is.options) name is.given in
      one_is_less (image_arguments is.options) (found_values (codes "verify a") (codes "verify") is.options gives (codes "file") ∙ refl)
      is.is.names.several;
  not_one = λ request is.
      let name = command_is several_line is.name is.options is.given (codes "verify") refl in
      let gives = subst (λ n. Gives (words_of_line several_line) n is.options) name is.given in
      no_one_job is.options gives request.job (subst (λ n. IsJob n is.options request.job) name is.job);
}

-- ---- rejections

-- `update` and `extract` take one image.
update_takes_one : ¬ (TakesImages (codes "update"))
update_takes_one (inl is) = other_bytes (codes "update") (codes "list") refl is
update_takes_one (inr (inl is)) = other_bytes (codes "update") (codes "verify") refl is
update_takes_one (inr (inr (inl is))) = other_bytes (codes "update") (codes "check") refl is
update_takes_one (inr (inr (inr (inl is)))) = other_bytes (codes "update") (codes "scan") refl is
update_takes_one (inr (inr (inr (inr never)))) = never

-- The failure of `update` without a change. The names of all commands but this one differ.
update_rejected : (line : List ℕ) →
    option_map (λ (command : Text × List Row). command.0) (subcommand_of program_app (words_of_line line)) ≡ Some (codes "update") →
    ((options : ArgMatches) → Gives (words_of_line line) (codes "update") options →
    (failure : Failure) → IsTaskFailure (codes "update") options failure → failure ≡ NoChange) →
    ((options : ArgMatches) → Gives (words_of_line line) (codes "update") options → (job : Job) → ¬ (IsJob (codes "update") options job)) →
    IsRejectedFor line NoChange
update_rejected line name only none failure (NoJob other options is fails) =
    let same = command_is line other options is (codes "update") name in
    inl (only options (subst (λ n. Gives (words_of_line line) n options) same is) failure
    (subst (λ n. IsTaskFailure n options failure) same fails))
update_rejected line name only none failure (NoLimits other options job is is_job bad) =
    let same = command_is line other options is (codes "update") name in
    absurd (none options (subst (λ n. Gives (words_of_line line) n options) same is) job (subst (λ n. IsJob n options job) same is_job))
update_rejected line name only none failure (NotEach other options is names fails) =
    absurd (update_takes_one (subst TakesImages (command_is line other options is (codes "update") name) names.takes))
update_rejected line name only none failure (NotAll options is all fails) =
    absurd (other_bytes (codes "extract") (codes "update") refl (command_is line (codes "extract") options is (codes "update") name))
update_rejected line name only none failure (NoMemory is) = inr is

-- No job is an update without a change.
no_update_job : (options : ArgMatches) → NothingAsked options → (job : Job) → ¬ (IsJob (codes "update") options job)
no_update_job options none (Run plan) is = no_task_updates plan.task is.task.0
no_update_job options none (Compare plan) is = other_bytes (codes "update") (codes "compare") refl is.0
no_update_job options none (Edit plan) is = nothing_asked options none is.1
no_update_job options none (Explain cause) is = other_bytes (codes "update") (codes "explain") refl is.0
no_update_job options none (Build (build.Legacy plan)) is = other_bytes (codes "update") (codes "build-legacy") refl is.0
no_update_job options none (Build (build.Fit plan)) is = other_bytes (codes "update") (codes "build-fit") refl is.0

-- Each failure of `scan` is that of a bad value.
scan_failure : (options : ArgMatches) (failure : Failure) → IsTaskFailure (codes "scan") options failure → failure ≡ BadValue
scan_failure options failure (NotFormed name fails) = fails.0
scan_failure options failure (NotShown name fails) = fails.0
scan_failure options failure (NotAllowed name fails) = fails.0
scan_failure options failure (NotEdited name fails) = absurd (other_bytes (codes "scan") (codes "update") refl name)
scan_failure options failure (NotNamed name fails) = fails.0
scan_failure options failure (NotSelected name all fails) = absurd (other_bytes (codes "scan") (codes "extract") refl name)
scan_failure options failure (NotPlaced given is fails) = fails.0
scan_failure options failure (NotLegacy name fails) = fails.0
scan_failure options failure (NotLimited name fails) = fails.0
scan_failure options failure (NotFit name limits are fails) = absurd (other_bytes (codes "scan") (codes "build-fit") refl name)
scan_failure options failure (NotCompared name fails) = fails.0
scan_failure options failure (NotExplained name fails) = fails.0

-- Each failure of `list` is that of a bad value.
list_failure : (options : ArgMatches) (failure : Failure) → IsTaskFailure (codes "list") options failure → failure ≡ BadValue
list_failure options failure (NotFormed name fails) = fails.0
list_failure options failure (NotShown name fails) = fails.0
list_failure options failure (NotAllowed name fails) = fails.0
list_failure options failure (NotEdited name fails) = absurd (other_bytes (codes "list") (codes "update") refl name)
list_failure options failure (NotNamed name fails) = fails.0
list_failure options failure (NotSelected name all fails) = absurd (other_bytes (codes "list") (codes "extract") refl name)
list_failure options failure (NotPlaced given is fails) = fails.0
list_failure options failure (NotLegacy name fails) = fails.0
list_failure options failure (NotLimited name fails) = fails.0
list_failure options failure (NotFit name limits are fails) = absurd (other_bytes (codes "list") (codes "build-fit") refl name)
list_failure options failure (NotCompared name fails) = fails.0
list_failure options failure (NotExplained name fails) = fails.0

scan_rejected : IsRejectedFor (codes "scan --limit 1") BadValue
unfolding program_app clap_on_literals
scan_rejected failure (NoJob name options is fails) =
    inl (scan_failure options failure
    (subst (λ n. IsTaskFailure n options failure) (command_is (codes "scan --limit 1") name options is (codes "scan") refl) fails))
scan_rejected failure (NoLimits name options job is is_job bad) = inl bad.0
scan_rejected failure (NotEach name options is names (NoTaskForEach fails)) =
    inl (scan_failure options failure
    (subst (λ n. IsTaskFailure n options failure) (command_is (codes "scan --limit 1") name options is (codes "scan") refl) fails))
scan_rejected failure (NotEach name options is names (TwoInputs bad)) = inl bad.0
scan_rejected failure (NotEach name options is names (NoLimitsForEach bad)) = inl bad.0
scan_rejected failure (NotAll options is all fails) =
    absurd (other_bytes (codes "extract") (codes "scan") refl
    (command_is (codes "scan --limit 1") (codes "extract") options is (codes "scan") refl))
scan_rejected failure (NoMemory is) = inr is

two_inputs_rejected : IsRejectedFor (codes "list - -") BadValue
unfolding program_app clap_on_literals
two_inputs_rejected failure (NoJob name options is fails) =
    inl (list_failure options failure
    (subst (λ n. IsTaskFailure n options failure) (command_is (codes "list - -") name options is (codes "list") refl) fails))
two_inputs_rejected failure (NoLimits name options job is is_job bad) = inl bad.0
two_inputs_rejected failure (NotEach name options is names (NoTaskForEach fails)) =
    inl (list_failure options failure
    (subst (λ n. IsTaskFailure n options failure) (command_is (codes "list - -") name options is (codes "list") refl) fails))
two_inputs_rejected failure (NotEach name options is names (TwoInputs bad)) = inl bad.0
two_inputs_rejected failure (NotEach name options is names (NoLimitsForEach bad)) = inl bad.0
two_inputs_rejected failure (NotAll options is all fails) =
    absurd (other_bytes (codes "extract") (codes "list") refl
    (command_is (codes "list - -") (codes "extract") options is (codes "list") refl))
two_inputs_rejected failure (NoMemory is) = inr is

-- Each failure of `extract --all` but that of its own options is that of a bad value.
all_failure : (options : ArgMatches) → all_flag options ≡ Some (codes "true") → (failure : Failure) →
    IsTaskFailure (codes "extract") options failure → failure ≡ BadValue
all_failure options flag failure (NotFormed name fails) = fails.0
all_failure options flag failure (NotShown name fails) = fails.0
all_failure options flag failure (NotAllowed name fails) = fails.0
all_failure options flag failure (NotEdited name fails) = absurd (other_bytes (codes "extract") (codes "update") refl name)
all_failure options flag failure (NotNamed name fails) = fails.0
all_failure options flag failure (NotSelected name all fails) = absurd (true≢false (sym (all.given flag)))
all_failure options flag failure (NotPlaced given is fails) = fails.0
all_failure options flag failure (NotLegacy name fails) = fails.0
all_failure options flag failure (NotLimited name fails) = fails.0
all_failure options flag failure (NotFit name limits are fails) = absurd (other_bytes (codes "extract") (codes "build-fit") refl name)
all_failure options flag failure (NotCompared name fails) = fails.0
all_failure options flag failure (NotExplained name fails) = fails.0

all_rejected : IsRejectedFor (codes "extract --all in") BadValue
unfolding program_app clap_on_literals
all_rejected failure (NoJob name options is fails) =
    let line = codes "extract --all in" in
    let same = command_is line name options is (codes "extract") refl in
    let gives = subst (λ n. Gives (words_of_line line) n options) same is in
    inl (all_failure options (flag_is line (codes "extract") options gives (codes "all") ∙ refl) failure
    (subst (λ n. IsTaskFailure n options failure) same fails))
all_rejected failure (NoLimits name options job is is_job bad) = inl bad.0
all_rejected failure (NotEach name options is names (NoTaskForEach fails)) =
    let line = codes "extract --all in" in
    let same = command_is line name options is (codes "extract") refl in
    let gives = subst (λ n. Gives (words_of_line line) n options) same is in
    inl (all_failure options (flag_is line (codes "extract") options gives (codes "all") ∙ refl) failure
    (subst (λ n. IsTaskFailure n options failure) same fails))
all_rejected failure (NotEach name options is names (TwoInputs bad)) = inl bad.0
all_rejected failure (NotEach name options is names (NoLimitsForEach bad)) = inl bad.0
all_rejected failure (NotAll options is all fails) = inl ((all_requests_are_known.no_directory options is).1 failure fails)
all_rejected failure (NoMemory is) = inr is

pub rejections_are_known : RejectionsAreKnown
unfolding program_app clap_on_literals
rejections_are_known = record {
  no_change = update_rejected (codes "update") refl
      (λ options is. (change_fails options (no_edits (codes "update") options is refl refl refl refl refl refl)).1)
      (λ options is. no_update_job options (no_edits (codes "update") options is refl refl refl refl refl refl));
  change_before_limit = update_rejected (codes "update --limit 1") refl
      (λ options is. (change_fails options (no_edits (codes "update --limit 1") options is refl refl refl refl refl refl)).1)
      (λ options is. no_update_job options (no_edits (codes "update --limit 1") options is refl refl refl refl refl refl));
  two_inputs = two_inputs_rejected;
  bad_limit = scan_rejected;
  no_directory = all_rejected;
  version = record { is = inl refl; only = λ other is. elim is [ inl same ↦ same | inr none ↦ absurd none ] };
  help = record { is = inl refl; only = λ other is. elim is [ inl same ↦ same | inr none ↦ absurd none ] };
  help_of_command = record { is = inl refl; only = λ other is. elim is [ inl same ↦ same | inr none ↦ absurd none ] };
  no_text = λ kind is. is;
}
