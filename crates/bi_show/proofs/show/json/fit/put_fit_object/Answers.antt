use Rattle.std.proofs.Common.{[], ◌∷◌}
use Rattle.bi_common.specs.JsonTokens.{member_tokens}
use Rattle.bi_common.proofs.WrittenTokens.{member_tokens-append}
use Rattle.bi_report.specs.Checking.{allowed_by_default, concerns_member, kept_concerns}
use Rattle.bi_report.specs.FoundConcerns.{concerns_in, found_in_fit}
use Rattle.bi_report.proofs.PutInTurn.{put_last, put_then}
use Rattle.bi_show.specs.ReadObjects.{read_configurations_member, read_head_members, read_images_member}
use Rattle.bi_show.proofs.show.json.fit.put_fit_object.Goals as goal

pub returns : goal.returns
returns g c =
    let puts = g.J.JsonPen.puts in
    let in_turn = g.met.J.JsonPen.puts_in_turn in
    let then = put_then puts member_tokens member_tokens-append in_turn in
    let content = c.args.fit.now in
    in_turn _ _ _ _ _ c.put.ensures
    (in_turn _ _ _ _ _
    (then _ _ _ (read_head_members content) _ c.put_head_members.ensures
    (then _ _ _ (read_images_member content ∷ []) _ c.put_images_member.ensures
    (then _ _ _ (read_configurations_member content ∷ []) _ c.put_configurations_member.ensures
    (put_last puts member_tokens _ _
    (concerns_member (kept_concerns allowed_by_default (concerns_in (found_in_fit c.args.file.now content))) ∷ [])
    (rw c.of_fit.ensures at c.put_concerns_member.ensures))))).put
    c.put-2.ensures)
