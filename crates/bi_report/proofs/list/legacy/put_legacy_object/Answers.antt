use Rattle.std.proofs.Common.{[], ◌∷◌, codes, subst}
use Rattle.bi_legacy.specs.Meaning.{LegacyImage}
use Rattle.bi_common.specs.CommonLines.{header_members}
use Rattle.bi_common.specs.Json.{json_number}
use Rattle.bi_common.specs.JsonTokens.{member_tokens}
use Rattle.bi_common.proofs.WrittenTokens.{member_tokens-append}
use Rattle.bi_report.specs.Listing.{parts_member}
use Rattle.bi_report.proofs.PutInTurn.{put_last, put_then}
use Rattle.bi_report.proofs.list.legacy.put_legacy_object.Goals as goal

pub returns : goal.returns
returns g c =
    let puts = g.J.JsonPen.puts in
    let in_turn = g.met.J.JsonPen.puts_in_turn in
    let then = put_then puts member_tokens member_tokens-append in_turn in
    let image = c.args.image.now.image in
    in_turn _ _ _ _ _ c.put.ensures
    (in_turn _ _ _ _ _
    (then _ _ _ (header_members image) _
    (subst (λ (image : LegacyImage). puts c.put.new.self (member_tokens (header_members image)) c.put_header_members.new.json)
    c.fields.ensures c.put_header_members.ensures)
    (then _ _ _ (parts_member image ∷ []) _ c.put_parts_member.ensures
    (put_last puts member_tokens _ _ ((codes "unused", json_number c.args.image.now.unused) ∷ [])
    (rw (c.from.ensures, c.unused.ensures) at c.put_member.ensures)))).put
    c.put-2.ensures)
