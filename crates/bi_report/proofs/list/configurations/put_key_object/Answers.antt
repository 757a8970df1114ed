use Rattle.std.proofs.Common.{codes, rules, sym, subst, true}
use Rattle.bi_fit.specs.Judgement.{ListResult}
use Rattle.bi_common.specs.Json.{json_bool, json_number}
use Rattle.bi_common.specs.JsonTokens.{value_tokens}
use Rattle.bi_report.specs.FitListing.{key_object, key_objects}
use Rattle.bi_report.specs.Listed.{IsListed}
use Rattle.bi_report.proofs.PutInTurn.{one_value_put}
use Rattle.bi_report.proofs.list.configurations.put_key_object.Goals as goal

pub returns-in-BadList : goal.returns-in-BadList
returns-in-BadList g c result is =
    subst (λ (result : ListResult). g.J.JsonPen.puts c.args.json.now (value_tokens (key_objects c.args.key result)) c.put_object.new.json)
    (sym (subst (IsListed result) c.in-BadList.is is))
    (one_value_put g.J.JsonPen.puts _ _ (key_object c.args.key (codes "bad_list", json_bool true)) (search rules))

pub returns-in-Missing : goal.returns-in-Missing
returns-in-Missing g c result is =
    let json = c.put_object-in-Missing.new.json in
    subst (λ (result : ListResult). g.J.JsonPen.puts c.args.json.now (value_tokens (key_objects c.args.key result)) json)
    (sym (subst (IsListed result) c.in-Missing.is is))
    (one_value_put g.J.JsonPen.puts _ _ (key_object c.args.key (codes "missing", json_number c.in-Missing.index)) (search rules))
