use Rattle.std.proofs.Common.{refl, subst}
use Rattle.bi_describe.proofs.InsideLines.{member_in_parts}
use Rattle.bi_describe.proofs.describe.inside.InsideTree.put_member.Goals as goal

pub returns : goal.returns
returns g c payload tree holds =
    let then = g.met.J.JsonPen.puts_in_turn in
    subst (λ tokens. g.J.JsonPen.puts c.args.json.now tokens c.put-3.new.self)
    (member_in_parts tree c.args.self.now.blob _ holds.cpu holds.reservations refl)
    (then _ _ _ _ _ c.put.ensures (then _ _ _ _ _ c.put-2.ensures (then _ _ _ _ _ c.put_members_of_blob.ensures
    (then _ _ _ _ _ (c.put_root_member.ensures _ holds.entries) c.put-3.ensures))))
