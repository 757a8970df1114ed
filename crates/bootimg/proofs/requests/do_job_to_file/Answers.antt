use Rattle.std.proofs.Common.{Err, ap, refl}
use Rattle.std.proofs.lemmas.Result.{err_from_is_err_and}
use Rattle.bootimg.specs.declared.command_line.source.ImageSource.TheVariants.{File}
use Rattle.bootimg.specs.Runs.{NoOutput, source_failure}
use Rattle.bootimg.proofs.ImageRuns.{output_saved, output_not_saved}
use Rattle.bootimg.proofs.requests.do_job_to_file.Goals as goal

pub returns-in_err-done : goal.returns-in_err-done
returns-in_err-done g c =
    let p = err_from_is_err_and c.from_residual.result c.from_residual.ensures.1 in
    NoOutput c.in_err-done.field-0.0 c.in_err-done.ensures.failed (rw (p.1, p.2) refl)

pub returns-in-Ok : goal.returns-in-Ok
returns-in-Ok g c =
    output_saved _ _ c.args.job c.args.limits c.args.name _ _ _ c.in_ok-done.done c.in_ok-done.bytes.items c.deref.result.now _
    c.in_ok-done.ensures.done c.in_ok-done.ensures.same_files c.deref.ensures.value c.in-Ok.ensures.saved refl

pub returns : goal.returns
returns g c =
    output_not_saved _ _ c.args.job c.args.limits c.args.name _ _ _ c.in_ok-done.done c.in_ok-done.bytes.items c.deref.result.now _
    c.in-Err.error c.in_ok-done.ensures.done c.in_ok-done.ensures.same_files c.deref.ensures.value c.in-Err.ensures.failed
    (ap (λ f. Err (source_failure (File c.args.name) f)) c.from.ensures)
