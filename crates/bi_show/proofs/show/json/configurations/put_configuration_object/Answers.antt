use Rattle.std.proofs.Common.{[], ◌∷◌, codes}
use Rattle.bi_fdt.specs.Views.{node_of}
use Rattle.bi_common.specs.CommonLines.{name_member}
use Rattle.bi_common.specs.Json.{json_array}
use Rattle.bi_common.specs.JsonTokens.{member_tokens}
use Rattle.bi_common.proofs.WrittenTokens.{member_tokens-append}
use Rattle.bi_report.specs.FitListing.{keys_member}
use Rattle.bi_report.specs.ReadListing.{read_configuration}
use Rattle.bi_report.proofs.PutInTurn.{list_member_put, put_last, put_then}
use Rattle.bi_show.specs.ReadObjects.{read_signature_objects}
use Rattle.bi_show.specs.ShownObjects.{text_property, texts_member}
use Rattle.bi_show.proofs.show.json.configurations.put_configuration_object.Goals as goal

pub returns : goal.returns
returns g c =
    let puts = g.J.JsonPen.puts in
    let in_turn = g.met.J.JsonPen.puts_in_turn in
    let then = put_then puts member_tokens member_tokens-append in_turn in
    let content = c.args.fit.now in
    let entry = node_of c.args.node in
    let signatures = read_signature_objects content entry in
    in_turn _ _ _ _ _ c.put.ensures
    (in_turn _ _ _ _ _
    (then _ _ _ (name_member (codes "name") entry.name ∷ text_property entry.own (codes "description") ∷ []) _
    (rw (c.name.ensures, c.text_property.ensures) at c.put_members.ensures)
    (then _ _ _ (texts_member entry.own ∷ []) _ c.put_compatible.ensures
    (then _ _ _ (keys_member (read_configuration content.images entry).keys ∷ []) _ c.put_keys_member.ensures
    (put_last puts member_tokens _ _ ((codes "signatures", json_array signatures) ∷ [])
    (list_member_put puts in_turn _ _ _ _ _ (codes "signatures") signatures c.put-2.ensures c.put-3.ensures
    c.put_signature_objects.ensures c.put-4.ensures))))).put
    c.put-5.ensures)
