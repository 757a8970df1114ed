use Rattle.std.proofs.Common.{[], ◌∷◌, codes, subst, sym}
use Rattle.bi_common.specs.CommonLines.{name_member}
use Rattle.bi_common.proofs.WrittenTokens.{member_tokens-append}
use Rattle.bi_describe.specs.DescriptionJson.{value_member}
use Rattle.bi_describe.proofs.describe.json.put_property.Goals as goal

pub returns : goal.returns
returns g c =
    let then = g.met.J.JsonPen.puts_in_turn in
    let members = subst (λ tokens. g.J.JsonPen.puts c.put.new.self tokens c.put_value_member.new.json)
    (sym (member_tokens-append (name_member (codes "name") c.args.name.now ∷ []) (value_member c.args.value.now ∷ [])))
    (then _ _ _ _ _ c.put_member.ensures c.put_value_member.ensures) in
    then _ _ _ _ _ c.put.ensures (then _ _ _ _ _ members c.put-2.ensures)
