use Rattle.std.proofs.Common.{codes}
use Rattle.bi_blob.specs.Lookups.{siblings}
use Rattle.bi_fit.specs.HashNodes.{file_images}
use Rattle.bi_report.proofs.PutInTurn.{list_member_put}
use Rattle.bi_show.specs.ReadObjects.{read_image_objects}
use Rattle.bi_show.proofs.show.json.images.put_images_member.Goals as goal

pub returns : goal.returns
returns g c =
    let content = c.args.fit.now in
    list_member_put g.J.JsonPen.puts g.met.J.JsonPen.puts_in_turn _ _ _ _ _ (codes "images")
    (read_image_objects (siblings (file_images content.blob)) content.images) c.put.ensures c.put-2.ensures c.put_image_objects.ensures
    c.put-3.ensures
