use Rattle.std.proofs.Common.{flat_map, map, take}
use Rattle.bi_common.specs.JsonTokens.{json_tokens}
use Rattle.bi_describe.specs.DescriptionJson.{digest_object}
use Rattle.bi_describe.specs.MadeParts.{digest_of_part}
use Rattle.bi_describe.proofs.describe.legacy.put_part_objects.Given as goal

-- The parts before this one were put.
abbrev pub invariant-loop-part : goal.invariant-loop-part
invariant-loop-part g l =
    g.J.JsonPen.puts l.initial.json
    (flat_map (λ digest. json_tokens (digest_object digest)) (map digest_of_part (take l.part-index l.parts))) l.json
