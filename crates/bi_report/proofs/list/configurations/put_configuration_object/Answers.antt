use Rattle.std.proofs.Common.{[], ◌∷◌, codes}
use Rattle.bi_fdt.specs.Views.{node_of}
use Rattle.bi_common.specs.CommonLines.{name_member}
use Rattle.bi_common.specs.JsonTokens.{member_tokens}
use Rattle.bi_common.proofs.WrittenTokens.{member_tokens-append}
use Rattle.bi_report.specs.FitListing.{keys_member}
use Rattle.bi_report.specs.ReadListing.{read_configuration}
use Rattle.bi_report.proofs.PutInTurn.{put_then}
use Rattle.bi_report.proofs.list.configurations.put_configuration_object.Goals as goal

pub returns : goal.returns
returns g c =
    let then = g.met.J.JsonPen.puts_in_turn in
    let configuration = read_configuration c.args.fit.now.images (node_of c.args.node) in
    then _ _ _ _ _ c.put.ensures
    (then _ _ _ _ _
    (put_then g.J.JsonPen.puts member_tokens member_tokens-append then _ _ _ (name_member (codes "name") configuration.name ∷ [])
    (keys_member configuration.keys ∷ []) (rw c.name.ensures at c.put_member.ensures) (record { put = c.put_keys_member.ensures })).put
    c.put-2.ensures)
