use Rattle.std.proofs.Common.{[], ◌∷◌, append-nil, codes, option_map, subst, sym}
use Rattle.bi_common.specs.JsonTokens.{json_tokens, member_tokens}
use Rattle.bi_describe.specs.DeepJson.{inside_members}
use Rattle.bi_describe.specs.DescriptionJson.{payload_or_null_with}
use Rattle.bi_describe.specs.Ignoring.{OfImageNamed}
use Rattle.bi_describe.specs.MadeDigests.{digest_made}
use Rattle.bi_describe.proofs.describe.deep.put_payload.Goals as goal

pub returns : goal.returns
returns g c trees held =
    let puts = g.J.JsonPen.puts in
    let payload = c.args.payload in
    let members = inside_members (trees (OfImageNamed c.args.name.now)) in
    subst (λ digest. puts c.args.json.now (member_tokens ((codes "payload", payload_or_null_with members digest) ∷ []))
    c.put_payload_value.new.json) payload.is_digest
    (g.met.J.JsonPen.puts_in_turn _ _ _ _ _ c.put.ensures
    (subst (λ tokens. puts c.put.new.self tokens c.put_payload_value.new.json)
    (sym (append-nil (json_tokens (payload_or_null_with members (option_map digest_made payload.digest)))))
    (c.put_payload_value.ensures trees held)))
