use Rattle.std.proofs.Common.{[], ◌∷◌}
use Rattle.bi_blob.specs.Lookups.{siblings}
use Rattle.bi_fdt.specs.Views.{node_of}
use Rattle.bi_fit.specs.Content.{image_model}
use Rattle.bi_common.specs.HashedImages.{found_hashes}
use Rattle.bi_common.specs.JsonTokens.{member_tokens}
use Rattle.bi_common.proofs.WrittenTokens.{member_tokens-append}
use Rattle.bi_report.specs.FitListing.{payload_member}
use Rattle.bi_report.specs.ReadListing.{read_image_entry}
use Rattle.bi_report.proofs.PutInTurn.{put_last, put_then}
use Rattle.bi_show.specs.ShownObjects.{hashes_member, image_members}
use Rattle.bi_show.proofs.show.json.images.put_image_object.Goals as goal

pub returns : goal.returns
returns g c =
    let puts = g.J.JsonPen.puts in
    let in_turn = g.met.J.JsonPen.puts_in_turn in
    let then = put_then puts member_tokens member_tokens-append in_turn in
    let entry = node_of c.args.node in
    let image = image_model c.args.image.now in
    in_turn _ _ _ _ _ c.put.ensures
    (in_turn _ _ _ _ _
    (then _ _ _ (image_members entry) _
    (rw (
      c.name.ensures,
      c.text_property.ensures,
      c.text_property-2.ensures,
      c.text_property-3.ensures,
      c.text_property-4.ensures,
      c.text_property-5.ensures,
      c.number_property.ensures,
      c.number_property-2.ensures,
    ) at c.put_members.ensures)
    (then _ _ _ (payload_member (read_image_entry image).payload ∷ []) _ c.put_payload_member.ensures
    (put_last puts member_tokens _ _ (hashes_member (found_hashes entry.name image.payload (siblings entry.children)) ∷ [])
    (rw c.new.ensures.found at c.put_hashes_member.ensures)))).put
    c.put-2.ensures)
