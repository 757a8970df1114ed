use Rattle.std.proofs.Common.{ap, subst}
use Rattle.bi_common.specs.JsonTokens.{value_tokens}
use Rattle.bi_legacy.specs.Meaning.{image_of}
use Rattle.bi_describe.specs.DeepJson.{deep_part_objects}
use Rattle.bi_describe.specs.MadeParts.{bytes_of_parts}
use Rattle.bi_describe.proofs.DeepTokens.{legacy_in_parts_with}
use Rattle.bi_describe.proofs.describe.deep.put_legacy_object.Goals as goal

pub returns : goal.returns
returns g c trees held =
    let puts = g.J.JsonPen.puts in
    let then = g.met.J.JsonPen.puts_in_turn in
    let image = c.args.image.now in
    let bytes = bytes_of_parts image.parts.items in
    subst (λ tokens. puts c.args.json.now tokens c.put-5.new.self)
    (legacy_in_parts_with (deep_part_objects trees 0 bytes) (image_of image.fields bytes))
    (then _ _ _ _ _ c.put.ensures (then _ _ _ _ _ c.put_header_members.ensures
    (then _ _ _ _ _ c.put-2.ensures (then _ _ _ _ _ c.put-3.ensures
    (then _ _ _ _ _ (subst (λ parts. puts c.put-3.new.self (value_tokens (deep_part_objects trees 0 parts)) c.put_part_objects.new.json)
    (ap bytes_of_parts c.deref.ensures.value) (c.put_part_objects.ensures trees held))
    (then _ _ _ _ _ c.put-4.ensures c.put-5.ensures))))))
