use Rattle.std.proofs.Common.{◌∙◌, arith, refl}
use Rattle.bootimg.specs.declared.command_line.source.ImageSource.TheVariants.{Standard}
use Rattle.bootimg.proofs.DoneImages.{all_of_them, none_yet, next_image_done, up_to_last}
use Rattle.bootimg.proofs.several.do_each.Goals as goal

pub loop-source-init : goal.loop-source-init
loop-source-init g c = (none_yet _ c.args.plan.hints c.args.plan.request.now c.args.plan.is_held _ 0 refl, refl)

pub returns-then-end-clause-done : goal.returns-then-end-clause-done
returns-then-end-clause-done g c =
    up_to_last _ _ c.args.plan.hints c.args.plan.request.now c.args.plan.is_held c.as_slice-sources.result.now c.loop-source.source-index
    Standard _ _ _
    c.loop-source.status
    c.max-status.result c.do_image-end.result c.as_slice-sources.ensures.value (omega (arith, c.loop-source-test.true))
    c.loop-source.invariant.0
    c.loop-source.invariant.1 c.do_image-end.ensures.end c.if-end.true c.max-status.ensures

pub loop-source-preserved : goal.loop-source-preserved
loop-source-preserved g c = (
  next_image_done _ _ c.args.plan.hints c.args.plan.request.now c.args.plan.is_held c.as_slice-sources.result.now
      c.loop-source.source-index Standard _ _ _
      c.loop-source.status
      c.max-status.result c.do_image-end.result (omega (arith, c.loop-source-test.true)) c.loop-source.invariant.0 c.loop-source.invariant.1
      c.do_image-end.ensures.end c.if-end.false c.max-status.ensures,
  c.do_image-end.ensures.same_files ∙ c.loop-source.invariant.1,
)

pub returns-clause-done : goal.returns-clause-done
returns-clause-done g c =
    all_of_them _ c.args.plan.hints c.args.plan.request.now c.args.plan.is_held c.as_slice-sources.result.now c.loop-source.source-index
    _ _ c.loop-source.status
    c.as_slice-sources.ensures.value (omega (arith, c.loop-source-test.false)) c.loop-source.invariant.0
