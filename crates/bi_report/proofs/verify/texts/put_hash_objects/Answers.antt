use Rattle.std.proofs.Common.{ap, map, subst}
use Rattle.bi_common.specs.JsonTokens.{json_tokens, value_tokens}
use Rattle.bi_report.specs.Details.{details_object}
use Rattle.bi_report.specs.Reports.{hash_object}
use Rattle.bi_report.proofs.LaterPuts.{all_are_put, next_are_put}
use Rattle.bi_report.proofs.verify.texts.put_hash_objects.Goals as goal

pub loop-hash-preserved : goal.loop-hash-preserved
loop-hash-preserved g c =
    next_are_put g.J.JsonPen.puts g.met.J.JsonPen.puts_in_turn _ _ _ _ _ _ _ c.loop-hash.invariant
    (ap (λ hashes. value_tokens (map hash_object hashes)) c.in-Some.ensures.steps)
    (subst (λ details. g.J.JsonPen.puts c.loop-hash.json (json_tokens (details_object details)) c.put_details_object.new.json)
    c.details_of_hash.ensures
    c.put_details_object.ensures)

pub returns : goal.returns
returns g c =
    all_are_put g.J.JsonPen.puts g.met.J.JsonPen.puts_nothing _ _ _ _ c.loop-hash.invariant
    (ap (λ hashes. value_tokens (map hash_object hashes)) c.in-None.ensures.steps.0)
