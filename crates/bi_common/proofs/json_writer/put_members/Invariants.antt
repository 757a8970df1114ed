use Rattle.std.proofs.Common.{◌∷◌, [], flat_map, take}
use Rattle.bi_common.specs.JsonTokens.{member_tokens}
use Rattle.bi_common.specs.MadeFields.{member_of}
use Rattle.bi_common.proofs.json_writer.put_members.Given as goal

-- The members before this one were put.
abbrev pub invariant-loop-member : goal.invariant-loop-member
invariant-loop-member g l =
    g.J.JsonPen.puts l.initial.json (flat_map (λ member. member_tokens (member_of member ∷ [])) (take l.member-index l.members)) l.json
