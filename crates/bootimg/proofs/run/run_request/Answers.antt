use Rattle.std.proofs.Common.{refl, sym, ◌∙◌}
use Rattle.bootimg.specs.Runs.{DidJob, KeptFromTerminal}
use Rattle.bootimg.proofs.ImageRuns.{to_file, to_standard_output}
use Rattle.bootimg.proofs.RunFacts.{run_is_kept, run_is_rejected}
use Rattle.bootimg.proofs.run.run_request.Goals as goal

pub returns-then-is_for_terminal : goal.returns-then-is_for_terminal
returns-then-is_for_terminal g c =
    KeptFromTerminal (sym c.is_for_terminal.ensures ∙ c.if-is_for_terminal.true)
    (run_is_kept _ _ _ _ _ c.hint_if.ensures
    (run_is_rejected _ _ _ _ refl refl refl c.report_failure.ensures.line c.report_failure.ensures.status))

pub returns-in-None : goal.returns-in-None
returns-in-None g c =
    DidJob (sym c.is_for_terminal.ensures ∙ c.if-is_for_terminal.false) c.do_job-outcome.result
    (to_standard_output _ _ _ _ _ _ c.in-None.is c.do_job-outcome.ensures.work) c.conclude.ensures

pub returns-in-Some : goal.returns-in-Some
returns-in-Some g c =
    DidJob (sym c.is_for_terminal.ensures ∙ c.if-is_for_terminal.false) c.do_job_to_file-outcome.result
    (to_file _ _ _ _ _ _ c.in-Some.name c.in-Some.is c.do_job_to_file-outcome.ensures refl) c.conclude-in-Some.ensures
