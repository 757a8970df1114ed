use Rattle.std.proofs.Common.{◌≡◌, ◌∷◌, [], List, ap, subst, ◌∙◌}
use Rattle.bi_common.specs.JsonTokens.{member_tokens}
use Rattle.bi_report.specs.CheckedImages.{concerns_left, kept_left}
use Rattle.bi_report.specs.Checking.{Concern, allowed_by_default, allowed_under, concerns_member, kept_concerns}
use Rattle.bi_report.specs.FoundConcerns.{concerns_in}
use Rattle.bi_report.proofs.DefaultPolicy.{nothing_by_default}
use Rattle.bi_report.proofs.FoundConcerns.{kept_in}
use Rattle.bi_report.proofs.check.text.put_concerns_member.Goals as goal

pub returns : goal.returns
returns g c =
    let is_none = nothing_by_default c.default.result c.default.ensures in
    let all = concerns_in (concerns_left c.args.concerns) in
    let same : concerns_in (kept_left c.kept.result) ≡ kept_concerns allowed_by_default all =
    ap concerns_in c.kept.ensures ∙ kept_in c.allowed_kinds.result (concerns_left c.args.concerns)
    ∙ ap (λ kinds. kept_concerns kinds all) (c.allowed_kinds.ensures ∙ ap allowed_under is_none) in
    subst (λ (kept : List Concern). g.J.JsonPen.puts c.args.json.now (member_tokens (concerns_member kept ∷ []))
    c.put_member_of_concerns-any.new.json)
    same c.put_member_of_concerns-any.ensures.member
