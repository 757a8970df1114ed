use Rattle.std.proofs.Common.{[], ◌∷◌, codes, subst}
use Rattle.bi_legacy.specs.Meaning.{LegacyImage}
use Rattle.bi_common.specs.Json.{json_number}
use Rattle.bi_common.specs.JsonTokens.{member_tokens}
use Rattle.bi_common.proofs.WrittenTokens.{member_tokens-append}
use Rattle.bi_report.specs.Checking.{allowed_by_default, concerns_member, kept_concerns}
use Rattle.bi_report.specs.FoundConcerns.{concerns_in, found_in_legacy}
use Rattle.bi_report.specs.Listing.{parts_member}
use Rattle.bi_report.proofs.PutInTurn.{put_last, put_then}
use Rattle.bi_show.specs.ShownObjects.{shown_legacy_members}
use Rattle.bi_show.proofs.show.json.legacy.put_legacy_object.Goals as goal

pub returns : goal.returns
returns g c =
    let puts = g.J.JsonPen.puts in
    let in_turn = g.met.J.JsonPen.puts_in_turn in
    let then = put_then puts member_tokens member_tokens-append in_turn in
    let image = c.args.image.now.image in
    in_turn _ _ _ _ _ c.put.ensures
    (in_turn _ _ _ _ _
    (then _ _ _ (shown_legacy_members image) _
    (subst (λ (image : LegacyImage). puts c.put.new.self (member_tokens (shown_legacy_members image)) c.put_header_members.new.json)
    c.fields.ensures c.put_header_members.ensures)
    (then _ _ _ (parts_member image ∷ []) _ c.put_parts_member.ensures
    (then _ _ _ ((codes "unused", json_number c.args.image.now.unused) ∷ []) _
    (rw (c.from-unused.ensures, c.unused.ensures) at c.put_member.ensures)
    (put_last puts member_tokens _ _
    (concerns_member (kept_concerns allowed_by_default (concerns_in (found_in_legacy c.args.file.now c.args.image.now))) ∷ [])
    (rw c.of_legacy.ensures at c.put_concerns_member.ensures))))).put
    c.put-2.ensures)
