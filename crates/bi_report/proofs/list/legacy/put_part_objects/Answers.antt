use Rattle.std.proofs.Common.{ap, map, ◌∙◌}
use Rattle.bi_legacy.specs.PlacedParts.{part_model}
use Rattle.bi_common.specs.JsonTokens.{json_tokens, value_tokens}
use Rattle.bi_report.specs.Listing.{part_object}
use Rattle.bi_report.proofs.PutInTurn.{put_begins, put_ends, put_goes_on}
use Rattle.bi_report.proofs.list.legacy.put_part_objects.Goals as goal

pub loop-part-init : goal.loop-part-init
loop-part-init g c =
    put_begins g.J.JsonPen.puts g.met.J.JsonPen.puts_nothing c.args.json.now _ _
    (ap (λ parts. value_tokens (map part_object parts))
    (c.into_iter-part-iterator.ensures.into_iter_gives ∙ c.parts-part-items.ensures.parts))

pub loop-part-preserved : goal.loop-part-preserved
loop-part-preserved g c =
    put_goes_on g.J.JsonPen.puts g.met.J.JsonPen.puts_in_turn c.args.json.now c.loop-part.json c.put_part_object.new.json
    (json_tokens (part_object (part_model c.in-Some.part))) (value_tokens (map part_object c.next.new.self)) _ _ c.loop-part.invariant
    (ap (λ parts. value_tokens (map part_object parts)) c.in-Some.ensures.steps) c.put_part_object.ensures

pub returns : goal.returns
returns g c =
    put_ends g.J.JsonPen.puts c.args.json.now c.loop-part.json _ _ c.loop-part.invariant
    (ap (λ parts. value_tokens (map part_object parts)) c.in-None.ensures.steps.0)
