use Rattle.std.proofs.Common.{subst}
use Rattle.bootimg.specs.Runs.{Reports}
use Rattle.bootimg.specs.declared.command_line.source.ImageSource.TheVariants.{File}
use Rattle.bootimg.proofs.DoneImages.{one_has_failed, texts_not_saved, texts_saved}
use Rattle.bootimg.proofs.several.do_each_to_file.Goals as goal

pub returns-then-status-eq-FAILED : goal.returns-then-status-eq-FAILED
returns-then-status-eq-FAILED g c =
    one_has_failed _ c.args.hints c.args.request.now c.args.name _ _ _ _ _ _ c.do_each_in_memory-status.ensures.held
    c.if-status-eq-FAILED.true

pub returns-in-Ok : goal.returns-in-Ok
returns-in-Ok g c =
    texts_saved _ _ c.args.hints c.args.request.now c.args.name _ _ _ _ _ _ _ c.deref.result.now c.do_each_in_memory-status.ensures.held
    c.if-status-eq-FAILED.false
    c.do_each_in_memory-status.ensures.same_files c.deref.ensures.value c.in-Ok.ensures.saved

pub returns : goal.returns
returns g c =
    texts_not_saved _ _ c.args.hints c.args.request.now c.args.name _ _ _ _ _ _ _ _ _ c.deref.result.now c.in-Err.error
    c.from-failure.result
    c.do_each_in_memory-status.ensures.held c.if-status-eq-FAILED.false c.do_each_in_memory-status.ensures.same_files c.deref.ensures.value
    c.in-Err.ensures.failed c.from-failure.ensures
    (subst (λ hint. Reports (File c.args.name) c.from-failure.result hint
    (g.E.TracedWrite.trace c.do_each_in_memory-status.new.errors) (g.E.TracedWrite.trace c.report_failure.new.errors))
    c.hint_if-hint.ensures c.report_failure.ensures.line)
    c.report_failure.ensures.status
