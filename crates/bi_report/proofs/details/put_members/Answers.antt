use Rattle.bi_report.proofs.PrintedDetails.{details_put}
use Rattle.bi_report.proofs.details.put_members.Goals as goal

pub returns : goal.returns
returns g c = details_put g.J.JsonPen.puts c.args.details.now _ _ _ c.loop-detail-test.false c.loop-detail.invariant
