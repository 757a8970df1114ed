use Rattle.std.proofs.Common.{[], ◌∷◌, codes, option_map}
use Rattle.bi_common.specs.CommonLines.{reservations_member}
use Rattle.bi_common.specs.Json.{string_or_null}
use Rattle.bi_common.specs.JsonTokens.{member_tokens}
use Rattle.bi_common.specs.Shown.{shown_text}
use Rattle.bi_common.proofs.WrittenTokens.{member_tokens-append}
use Rattle.bi_report.specs.FitListing.{configurations_member, head_members, images_member}
use Rattle.bi_report.specs.ReadListing.{read_fit}
use Rattle.bi_report.proofs.PutInTurn.{put_last, put_then}
use Rattle.bi_report.proofs.list.fit.put_fit_object.Goals as goal

pub returns : goal.returns
returns g c =
    let puts = g.J.JsonPen.puts in
    let in_turn = g.met.J.JsonPen.puts_in_turn in
    let then = put_then puts member_tokens member_tokens-append in_turn in
    let fit = read_fit c.args.fit.now in
    in_turn _ _ _ _ _ c.put.ensures
    (in_turn _ _ _ _ _
    (then _ _ _ (head_members fit.cpu fit.total_size) _ (rw c.blob.ensures at c.put_head_members.ensures)
    (then _ _ _ (reservations_member fit.reservations ∷ []) _ (rw c.blob-2.ensures at c.put_reservations_member.ensures)
    (then _ _ _ (images_member fit.images ∷ []) _ (rw c.images.ensures at c.put_images_member.ensures)
    (then _ _ _ (configurations_member fit.configurations ∷ []) _ c.put_configurations_member.ensures
    (put_last puts member_tokens _ _ ((codes "default", string_or_null (option_map shown_text fit.default_name)) ∷ [])
    (rw (c.shown_or_null.ensures, c.default_config.ensures) at c.put_member.ensures)))))).put
    c.put-2.ensures)
