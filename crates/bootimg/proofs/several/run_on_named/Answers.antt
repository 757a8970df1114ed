use Rattle.bootimg.specs.Tasks.{placed_promise}
use Rattle.bootimg.proofs.DoneImages.{named_work}
use Rattle.bootimg.proofs.several.run_on_named.Goals as goal

pub returns-clause-work : goal.returns-clause-work
returns-clause-work g c =
    let request = c.args.request.now in
    named_work _ (placed_promise request.offset request.task request.limits) _ _ _ _ c.args.source request.limits _ _ _ c.format.ensures
    c.name.ensures c.run_on_source.ensures.work
