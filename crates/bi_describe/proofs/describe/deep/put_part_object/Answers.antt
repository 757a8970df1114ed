use Rattle.std.proofs.Common.{subst}
use Rattle.bi_common.specs.JsonTokens.{member_tokens}
use Rattle.bi_describe.specs.DescriptionJson.{digest_members}
use Rattle.bi_describe.proofs.DeepTokens.{digest_in_parts}
use Rattle.bi_describe.proofs.describe.deep.put_part_object.Goals as goal

pub returns : goal.returns
returns g c trees held =
    let puts = g.J.JsonPen.puts in
    let then = g.met.J.JsonPen.puts_in_turn in
    subst (λ tokens. puts c.args.json.now tokens c.put-2.new.self) (digest_in_parts _ _)
    (then _ _ _ _ _ c.put.ensures (then _ _ _ _ _
    (subst (λ digest. puts c.put.new.self (member_tokens (digest_members digest)) c.put_digest_members.new.json)
    c.args.part.is_digest c.put_digest_members.ensures)
    (then _ _ _ _ _ (c.put_member_of_part.ensures trees held) c.put-2.ensures)))
