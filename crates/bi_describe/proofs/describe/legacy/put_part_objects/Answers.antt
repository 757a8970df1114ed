use Rattle.std.proofs.Common.{◌≤◌, flat_map, length, map, arith, subst, sym}
use Rattle.std.proofs.lemmas.List.{length-map, take-map}
use Rattle.bi_common.specs.JsonTokens.{json_tokens}
use Rattle.bi_common.proofs.WrittenTokens.{values_put}
use Rattle.bi_describe.specs.DescriptionJson.{digest_object}
use Rattle.bi_describe.specs.MadeParts.{digest_of_part}
use Rattle.bi_describe.proofs.describe.legacy.put_part_objects.Goals as goal

pub returns : goal.returns
returns g c =
    let parts = map digest_of_part c.args.parts.now in
    let past : length parts ≤ c.loop-part.part-index = omega (arith, length-map c.args.parts.now digest_of_part, c.loop-part-test.false) in
    values_put g.J.JsonPen.puts digest_object parts c.loop-part.part-index _ _ past
    (subst (λ digests. g.J.JsonPen.puts c.args.json.now (flat_map (λ digest. json_tokens (digest_object digest)) digests) c.loop-part.json)
    (sym (take-map digest_of_part c.loop-part.part-index c.args.parts.now)) c.loop-part.invariant)
