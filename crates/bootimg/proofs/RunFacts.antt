use Rattle.std.proofs.Common.{◌≡◌, ℕ, Bool, false, true, List, Option, Some, Result, Ok, Err, inl, inr, refl, subst, sym}
use Rattle.std.specs.Prelude.{◌↔◌, IfSome, IsTrue}
use Rattle.clap.specs.declared.error.kind.ErrorKind.{ErrorKind}
use Rattle.clap.specs.declared.error.kind.ErrorKind.TheVariants.{DisplayHelp, DisplayVersion}
use Rattle.bi_base.specs.Sinks.{Wrote}
use Rattle.bi_base.specs.Traces.{ReadsWell, WriteTrace, WritesWell}
use Rattle.bi_base.specs.Writing.{WroteAll, WriteStopped}
use Rattle.bi_base.specs.declared.fault.Error.{Error}
use Rattle.bi_base.specs.declared.fault.Error.TheVariants.{OutOfMemory}
use Rattle.bi_base.specs.Limits.{Limits}
use Rattle.bi_base.specs.Pipes.{IsTracedPipe}
use Rattle.bootimg.specs.declared.command_line.source.ImageSource.{ImageSource}
use Rattle.bootimg.specs.declared.failure.Failure.{Failure}
use Rattle.bootimg.specs.declared.failure.Failure.TheVariants.{Call}
use Rattle.bootimg.specs.Hints.{IsHintAt, IsUsageHint, OfFailure, hint_given}
use Rattle.bi_files.specs.Files.{FileStep, KnownFiles}
use Rattle.bootimg.specs.declared.tasks.Done.{Done}
use Rattle.bootimg.specs.declared.terminal.Terminal.{Terminal}
use Rattle.bootimg.specs.Runs.{IsTaskWork, Promise, Logs, IsLogged, HasStopped, IsRejection, Reports, Run, Work, Succeeded}
use Rattle.bootimg.specs.ProgramRuns.{IsPlainRun, IsRun}
use Rattle.bootimg.specs.Runs.{HasFailed, IsAskedFor, IsMistake, source_failure}

-- A run of the program over traced streams is one over plain streams, and it succeeds, fails or is rejected as its calls do.

-- Bytes that were written are logged, and so are those of which writing stopped.
pub line_is_logged : (old new : WriteTrace) (bytes : List ℕ) (result : Result (Unit {0}) Error)
    → Wrote WroteAll WriteStopped old bytes result new → Logs old bytes new
line_is_logged old new bytes (Ok done) wrote = IsLogged wrote
line_is_logged old new bytes (Err error) wrote = HasStopped error wrote

-- A text that is not a reason why the arguments are wrong is what they ask for.
pub asked_for : (kind : ErrorKind) (is_usage : Bool) → IsTrue is_usage ↔ IsMistake kind → is_usage ≡ false → IsAskedFor kind
asked_for DisplayHelp is_usage says fails = inl refl
asked_for DisplayVersion is_usage says fails = inr refl
asked_for other is_usage says fails =
    let why : IsTrue is_usage = says.1 (λ help. cc, λ version. cc) in
    absurd (let none : IsTrue false = subst (λ test. IsTrue test) fails why in cc)

-- A run over traced streams is one over plain streams with what the traces record.
pub plain_run : (terminal : Terminal) (arguments : List (List ℕ)) (files : KnownFiles) (steps new_steps : Option (List FileStep))
    (run : Run)
    (remaining new_remaining contents new_contents errors new_errors : Option (List ℕ)) → IsRun terminal arguments files run
    → ReadsWell run.input → run.input.taken ≡ 0 → WritesWell run.output → WritesWell run.errors
    → run.steps ≡ steps → run.new_steps ≡ new_steps
    → run.input.remaining ≡ remaining → run.new_input.remaining ≡ new_remaining
    → run.output.contents ≡ contents → run.new_output.contents ≡ new_contents
    → run.errors.contents ≡ errors → run.new_errors.contents ≡ new_errors
    → IsPlainRun terminal arguments files steps new_steps remaining new_remaining contents new_contents errors new_errors run.status
plain_run terminal arguments files steps new_steps run remaining new_remaining contents new_contents errors new_errors is reads taken
    writes logs
    ch nch r nr c nc e ne = record {
      run = run;
      is_run = is;
      is_status = refl;
      reads_well = reads;
      none_taken = taken;
      writes_well = writes;
      errors_write_well = logs;
      steps_before = ch;
      steps_after = nch;
      remaining_before = r;
      remaining_after = nr;
      contents_before = c;
      contents_after = nc;
      errors_before = e;
      errors_after = ne;
    }

-- A failure was reported, and nothing else was done.
pub run_is_rejected : (source : ImageSource) (failure : Failure) (hint : Option (List ℕ)) (run : Run) → run.new_input ≡ run.input
    → run.new_output ≡ run.output
    → run.new_steps ≡ run.steps → Reports source failure hint run.errors run.new_errors → run.status ≡ 2
    → IsRejection source failure hint run
run_is_rejected source failure hint run read written changed reports status = record {
  nothing_read = read;
  nothing_written = written;
  no_steps = changed;
  reports = reports;
  status = status;
}

-- So it was with the hint for the failure.
pub run_is_kept : (hints : Bool) (source : ImageSource) (failure : Failure) (hint : Option (List ℕ)) (run : Run)
    → hint ≡ hint_given hints failure → IsRejection source failure hint run → IsRejection source failure (hint_given hints failure) run
run_is_kept hints source failure hint run is rejected = subst (λ given. IsRejection source failure given run) is rejected

-- The hint for a failure that is not one of the arguments is one for it, whatever the arguments.
pub hint_of_failure : (hints : Bool) (arguments : List (List ℕ)) (failure : Failure) (hint : Option (List ℕ))
    → failure ≡ Call OutOfMemory → hint ≡ hint_given hints failure → IsHintAt hints arguments failure hint
hint_of_failure false arguments failure hint memory is = is
hint_of_failure true arguments failure hint memory is =
    subst (λ sentence. IfSome sentence (IsUsageHint arguments failure)) (sym is) (OfFailure (rw memory refl) refl)

-- A hint for a failure of the arguments is given.
pub hint_is_given : (hints : Bool) (arguments : List (List ℕ)) (failure : Failure) (sentence : List ℕ) → hints ≡ true
    → IsUsageHint arguments failure sentence → IsHintAt hints arguments failure (Some sentence)
hint_is_given true arguments failure sentence given is = is
hint_is_given false arguments failure sentence given is = absurd cc

-- A task that was done, or that failed, is work on it.
pub run_succeeds : (promise : Promise) (source : ImageSource) (limits : Limits) (work : Work) (result : Result Done Failure) (done : Done)
    → result ≡ Ok done → IsTracedPipe promise limits work.input work.new_input work.output work.new_output result
    → work.outcome ≡ Ok done → IsTaskWork promise source limits work
run_succeeds promise source limits work result done same piped outcome =
    Succeeded done
    (subst (λ (r : Result Done Failure). IsTracedPipe promise limits work.input work.new_input work.output work.new_output r) same piped)
    outcome

pub has_failed : (promise : Promise) (source : ImageSource) (limits : Limits) (work : Work) (result : Result Done Failure)
    (failure : Failure) → result ≡ Err failure → IsTracedPipe promise limits work.input work.new_input work.output work.new_output result
    → work.outcome ≡ Err (source_failure source failure) → IsTaskWork promise source limits work
has_failed promise source limits work result failure same piped outcome =
    HasFailed failure
    (subst (λ (r : Result Done Failure). IsTracedPipe promise limits work.input work.new_input work.output work.new_output r) same piped)
    outcome
