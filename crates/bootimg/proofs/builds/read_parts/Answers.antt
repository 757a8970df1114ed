use Rattle.std.proofs.Common.{◌∙◌, [], inl, inr, arith, refl}
use Rattle.std.proofs.lemmas.Result.{err_from_is_err_and}
use Rattle.bootimg.specs.declared.command_line.part.PartSource.TheVariants.{Input}
use Rattle.bootimg.proofs.BuildRuns.{first_read, next_read_too, not_read, read_next}
use Rattle.bootimg.proofs.builds.read_parts.Goals as goal

pub returns-in_err-part-clause-failed : goal.returns-in_err-part-clause-failed
returns-in_err-part-clause-failed g c =
    let p = err_from_is_err_and c.from_residual-in_err-part.result c.from_residual-in_err-part.ensures.1 in
    rw (p.1, p.2)
    (inl (not_read _ _ c.args.limits c.args.sources.now c.loop-source.source-index (Input 0) c.loop-source.read.items
    c.in_err-part.field-0.0 _ _ _ (omega arith) c.loop-source.invariant.0 c.loop-source.invariant.1 c.in_err-part.ensures.failed))

pub loop-source-preserved : goal.loop-source-preserved
loop-source-preserved g c = (
  read_next _ _ c.args.limits c.args.sources.now c.loop-source.source-index (Input 0) c.loop-source.read.items
      c.push.new.self.items c.in_ok-part.part _ _ _ (omega arith) c.loop-source.invariant.0 c.loop-source.invariant.1
      c.in_ok-push.ensures.items c.in_ok-part.ensures.read,
  c.in_ok-part.ensures.same_files ∙ c.loop-source.invariant.1,
)

pub returns-in_err-read-clause-failed : goal.returns-in_err-read-clause-failed
returns-in_err-read-clause-failed g c =
    let p = err_from_is_err_and c.from_residual.result c.from_residual.ensures.1 in
    rw (p.1, p.2) (inr (first_read _ c.args.limits c.args.sources.now [] c.args.sources.now [] _ _ refl refl, refl))

pub returns-in_err-push-clause-failed : goal.returns-in_err-push-clause-failed
returns-in_err-push-clause-failed g c =
    let p = err_from_is_err_and c.from_residual-in_err-push.result c.from_residual-in_err-push.ensures.1 in
    rw (p.1, p.2)
    (inr (
      next_read_too _ _ c.args.limits c.args.sources.now c.loop-source.source-index (Input 0) c.loop-source.read.items c.in_ok-part.part
          _ _ _ (omega arith) c.loop-source.invariant.0 c.loop-source.invariant.1 c.in_ok-part.ensures.read,
      refl,
    ))
