use Rattle.std.proofs.Common.{◌∙◌, ap, length, refl, subst₂, sym, arith}
use Rattle.std.proofs.lemmas.Result.{err_from_is_err_and}
use Rattle.bootimg.specs.EditedImages.{contents_of}
use Rattle.bootimg.specs.Runs.{AllRead, ArePayloadsRead, ImageNotRead, IsPayloadsFailure, PayloadsNotRead}
use Rattle.bootimg.proofs.EditRuns.{contents_long, image_within}
use Rattle.bootimg.proofs.edits.edit_image.Goals as goal

pub returns-in-Err-clause-work : goal.returns-in-Err-clause-work
returns-in-Err-clause-work g c =
    ImageNotRead c.in-Err.failure c.in-Err.ensures.failed (record { nothing_written = refl; outcome = c.job_failed.ensures })

pub returns-in_err-contents-clause-work : goal.returns-in_err-contents-clause-work
returns-in_err-contents-clause-work g c =
    let p = err_from_is_err_and c.from_residual.result c.from_residual.ensures.1 in
    rw (p.1, p.2)
    (PayloadsNotRead c.in-Ok.image.items _ c.in_err-contents.field-0.0 c.in-Ok.ensures.read
    (subst₂ (λ f words. IsPayloadsFailure f c.args.limits words c.in_err-contents.field-0.0
    (g.F.FileSystem.steps c.read_image.new.files) (g.F.FileSystem.steps c.read_payloads.new.files)) c.in-Ok.ensures.same_files
    c.deref.ensures.value c.in_err-contents.ensures.failed) (record { nothing_written = refl; outcome = refl }))

pub edit_with-requires-clause-short : goal.edit_with-requires-clause-short
edit_with-requires-clause-short g c =
    let within = image_within _ c.args.limits _ _ c.in-Ok.image.items c.args.plan.source c.in-Ok.ensures.read in
    omega (arith, within, ap length c.deref-2.ensures.value)

pub edit_with-requires-clause-one_each : goal.edit_with-requires-clause-one_each
edit_with-requires-clause-one_each g c =
    ap length c.deref-3.ensures.value
    ∙ (contents_long _ c.args.limits c.deref.result.now c.in_ok-contents.contents.items _ _ c.in_ok-contents.ensures.read
    ∙ ap length c.deref.ensures.value)

pub returns-clause-work : goal.returns-clause-work
returns-clause-work g c =
    AllRead c.in-Ok.image.items (contents_of c.in_ok-contents.contents.items) _ c.in-Ok.ensures.read
    (subst₂ (λ f words. ArePayloadsRead f c.args.limits words (contents_of c.in_ok-contents.contents.items)
    (g.F.FileSystem.steps c.read_image.new.files) (g.F.FileSystem.steps c.read_payloads.new.files)) c.in-Ok.ensures.same_files
    c.deref.ensures.value c.in_ok-contents.ensures.read)
    (rw (sym c.deref-2.ensures.value, sym c.deref-3.ensures.value) (c.edit_with.ensures _ _))
