use Rattle.std.proofs.Common.{codes, map, ap, ◌∙◌}
use Rattle.bi_blob.specs.Lookups.{siblings}
use Rattle.bi_coverage.specs.Values.{configuration_value}
use Rattle.bi_fit.specs.HashNodes.{file_configurations}
use Rattle.bi_report.proofs.PutInTurn.{list_member_put}
use Rattle.bi_show.specs.ReadObjects.{read_configuration_object}
use Rattle.bi_show.proofs.ShownSignatures.{coverage_of_nodes}
use Rattle.bi_show.proofs.show.json.configurations.put_configurations_member.Goals as goal

pub put_configuration_objects-requires : goal.put_configuration_objects-requires
put_configuration_objects-requires g c = record {
  covered = ap (map configuration_value) c.deref.ensures.value
      ∙ coverage_of_nodes c.args.fit.now _ c.requires.covered.configurations;
}

pub returns : goal.returns
returns g c =
    let content = c.args.fit.now in
    list_member_put g.J.JsonPen.puts g.met.J.JsonPen.puts_in_turn _ _ _ _ _ (codes "configurations")
    (map (read_configuration_object content) (siblings (file_configurations content.blob))) c.put.ensures c.put-2.ensures
    c.put_configuration_objects.ensures c.put-3.ensures
