use Rattle.std.proofs.Common.{codes, map}
use Rattle.bi_fdt.specs.Views.{node_of}
use Rattle.bi_common.specs.Json.{json_string}
use Rattle.bi_report.proofs.PutInTurn.{list_member_put}
use Rattle.bi_show.specs.FitPages.{value_in}
use Rattle.bi_show.specs.ShownObjects.{texts_or_none}
use Rattle.bi_show.proofs.show.json.members.put_compatible.Goals as goal

pub returns : goal.returns
returns g c =
    list_member_put g.J.JsonPen.puts g.met.J.JsonPen.puts_in_turn _ _ _ _ _ (codes "compatible")
    (map json_string (texts_or_none (value_in (node_of c.args.node).own (codes "compatible")))) c.put.ensures c.put-2.ensures
    (rw c.property.ensures at c.put_texts.ensures) c.put-3.ensures
