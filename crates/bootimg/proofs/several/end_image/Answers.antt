use Rattle.bootimg.proofs.DoneImages.{image_ended}
use Rattle.bootimg.proofs.several.end_image.Goals as goal

pub returns-clause-end : goal.returns-clause-end
returns-clause-end g c =
    (image_ended c.args.hints _ _ c.conclude.result c.args.is_held c.args.outcome c.reported_outcome.result c.reported_outcome.ensures
    c.conclude.ensures).0

pub returns-clause-status : goal.returns-clause-status
returns-clause-status g c =
    (image_ended c.args.hints _ _ c.conclude.result c.args.is_held c.args.outcome c.reported_outcome.result c.reported_outcome.ensures
    c.conclude.ensures).1
