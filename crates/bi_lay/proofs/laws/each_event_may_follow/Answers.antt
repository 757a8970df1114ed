use Rattle.bi_lay.proofs.TreeStages.{each_may_follow}
use Rattle.bi_lay.proofs.laws.each_event_may_follow.Goals as goal

pub returns : goal.returns
returns c = each_may_follow
