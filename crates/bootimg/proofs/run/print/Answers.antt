use Rattle.std.proofs.Common.{refl, rules, subst}
use Rattle.bi_base.specs.Sinks.{Wrote}
use Rattle.bi_base.specs.Writing.{WroteAll, WriteStopped, WriteOrFlushStopped}
use Rattle.bootimg.specs.declared.command_line.source.ImageSource.TheVariants.{Standard}
use Rattle.bootimg.specs.declared.failure.Failure.TheVariants.{Call}
use Rattle.bootimg.specs.Runs.{IsUsage, IsNotWritten, Reports}
use Rattle.bootimg.proofs.RunFacts.{asked_for, line_is_logged}
use Rattle.bootimg.proofs.run.print.Goals as goal

pub returns-then-is_usage : goal.returns-then-is_usage
returns-then-is_usage g c kind input steps is_usage =
    let trace = g.E.TracedWrite.trace in
    IsUsage (is_usage.0 (search rules))
    (line_is_logged (trace c.args.errors.now) (trace c.write_all.new.target) c.args.text.now c.write_all.result
    (subst
    (λ bytes. Wrote WroteAll WriteStopped (trace c.args.errors.now) bytes c.write_all.result (trace c.write_all.new.target))
    c.as_bytes.ensures.value c.write_all.ensures))
    refl refl refl refl

pub returns-in-Err : goal.returns-in-Err
returns-in-Err g c kind input steps is_usage =
    let trace = g.T.TracedWrite.trace in
    IsNotWritten (asked_for kind c.args.is_usage is_usage (search rules)) c.in-Err.error
    (subst (λ bytes. WriteOrFlushStopped (trace c.args.output.now) bytes (trace c.write_and_flush.new.target) c.in-Err.error)
    c.as_bytes-2.ensures.value c.in-Err.ensures)
    (subst (λ hint. Reports Standard (Call c.in-Err.error) hint (g.E.TracedWrite.trace c.args.errors.now)
    (g.E.TracedWrite.trace c.report_failure.new.errors)) c.hint_if.ensures c.report_failure.ensures.line)
    refl refl c.report_failure.ensures.status
