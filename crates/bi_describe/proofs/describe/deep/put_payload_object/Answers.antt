use Rattle.std.proofs.Common.{subst}
use Rattle.bi_describe.proofs.DeepTokens.{digest_in_parts}
use Rattle.bi_describe.proofs.describe.deep.put_payload_object.Goals as goal

pub returns : goal.returns
returns g c trees held =
    let then = g.met.J.JsonPen.puts_in_turn in
    subst (λ tokens. g.J.JsonPen.puts c.args.json.now tokens c.put-2.new.self) (digest_in_parts _ _)
    (then _ _ _ _ _ c.put.ensures (then _ _ _ _ _ c.put_digest_members.ensures
    (then _ _ _ _ _ (c.put_member_of_image.ensures trees held) c.put-2.ensures)))
