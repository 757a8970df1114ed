use Rattle.std.proofs.Common.{◌≡◌, ap, refl, rules, subst}
use Rattle.clap.specs.Values.{kind_of}
use Rattle.bootimg.specs.CommandLine.{texts_of, HasOrderLengths, IsNoRequest, IsOrder, NoMemory}
use Rattle.bootimg.specs.declared.command_line.Order.TheVariants as order
use Rattle.bootimg.specs.declared.command_line.NoRequest.TheVariants as outcome
use Rattle.bootimg.specs.declared.failure.Failure.TheVariants.{Call}
use Rattle.bootimg.specs.ProgramRuns.{ExtractedAll, IsUsageReport, RanEach, RanJob, Rejected, WroteText}
use Rattle.bootimg.specs.Runs.{IsMistake}
use Rattle.std.specs.Prelude.{◌↔◌, IsTrue}
use Rattle.bootimg.proofs.RunFacts.{hint_of_failure, run_is_rejected}
use Rattle.bootimg.proofs.run.run_traced.Goals as goal

pub returns-in-Ok-Do : goal.returns-in-Ok-Do
returns-in-Ok-Do g c =
    let is : c.in-Ok-Do.field-0 ≡ order.Do c.in-Ok-Do.request = search rules in
    RanJob c.in-Ok-Do.request (subst (λ o. IsOrder (texts_of c.args.arguments.now) o) is c.in-Ok-Do.ensures.order)
    (subst (λ o. HasOrderLengths o) is c.in-Ok-Do.ensures.lengths) c.run_request.ensures

pub returns-in-Ok-DoEach : goal.returns-in-Ok-DoEach
returns-in-Ok-DoEach g c =
    let is : c.in-Ok-DoEach.field-0 ≡ order.DoEach c.in-Ok-DoEach.request = search rules in
    RanEach c.in-Ok-DoEach.request (subst (λ o. IsOrder (texts_of c.args.arguments.now) o) is c.in-Ok-DoEach.ensures.order)
    c.do_images.ensures

pub returns-in-Ok-ExtractAll : goal.returns-in-Ok-ExtractAll
returns-in-Ok-ExtractAll g c =
    let is : c.in-Ok-ExtractAll.field-0 ≡ order.ExtractAll c.in-Ok-ExtractAll.request = search rules in
    ExtractedAll c.in-Ok-ExtractAll.request (subst (λ o. IsOrder (texts_of c.args.arguments.now) o) is c.in-Ok-ExtractAll.ensures.order)
    (record {
      outcome = c.extract_to_directory-outcome.result;
      done = c.extract_to_directory-outcome.ensures;
      nothing_written = refl;
      end = c.conclude.ensures;
    })

pub returns-in-Err-Failure : goal.returns-in-Err-Failure
returns-in-Err-Failure g c =
    let is : c.in-Err-Failure.field-0 ≡ outcome.Failure c.in-Err-Failure.failure = search rules in
    let trace = g.E.TracedWrite.trace in
    let report = subst (λ failure. IsUsageReport c.args.terminal.errors (texts_of c.args.arguments.now) failure
    (trace c.args.errors.now) (trace c.report_usage.new.errors)) (search rules) c.report_usage.ensures.line in
    Rejected c.in-Err-Failure.failure (subst (λ o. IsNoRequest (texts_of c.args.arguments.now) o) is c.in-Err-Failure.ensures.failure)
    report.0 report.1
    (run_is_rejected _ _ _ _ refl refl refl report.2 c.report_usage.ensures.status)

pub returns-in-Ok : goal.returns-in-Ok
returns-in-Ok g c =
    let is : c.in-Err-Text.field-0 ≡ outcome.Text c.in-Err-Text.text = search rules in
    WroteText (kind_of c.in-Err-Text.text) _ (subst (λ o. IsNoRequest (texts_of c.args.arguments.now) o) is c.in-Err-Text.ensures.failure)
    (c.print.ensures (kind_of c.in-Err-Text.text) _ _
    (subst (λ kind. IsTrue c.use_stderr.result ↔ IsMistake kind) (search rules) c.use_stderr.ensures))

pub returns : goal.returns
returns g c =
    Rejected _ (NoMemory (ap (λ error. Call error) c.from.ensures)) _
    (hint_of_failure _ _ _ _ (ap (λ error. Call error) c.from.ensures) c.hint_if.ensures)
    (run_is_rejected _ _ _ _ refl refl refl c.report_failure.ensures.line c.report_failure.ensures.status)
