use Rattle.std.proofs.Common.{codes, map}
use Rattle.bi_report.specs.FitListing.{configuration_object}
use Rattle.bi_report.specs.ReadListing.{read_configurations}
use Rattle.bi_report.proofs.PutInTurn.{list_member_put}
use Rattle.bi_report.proofs.list.configurations.put_configurations_member.Goals as goal

pub returns : goal.returns
returns g c =
    list_member_put g.J.JsonPen.puts g.met.J.JsonPen.puts_in_turn _ _ _ _ _ (codes "configurations")
    (map configuration_object (read_configurations c.args.fit.now)) c.put.ensures c.put-2.ensures c.put_configuration_objects.ensures
    c.put-3.ensures
