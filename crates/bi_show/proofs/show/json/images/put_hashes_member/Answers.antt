use Rattle.std.proofs.Common.{codes, map}
use Rattle.bi_common.specs.HashedImages.{found_left}
use Rattle.bi_report.proofs.PutInTurn.{list_member_put}
use Rattle.bi_show.specs.ShownObjects.{shown_hash_object}
use Rattle.bi_show.proofs.show.json.images.put_hashes_member.Goals as goal

pub returns : goal.returns
returns g c =
    list_member_put g.J.JsonPen.puts g.met.J.JsonPen.puts_in_turn _ _ _ _ _ (codes "hashes")
    (map shown_hash_object (found_left c.args.hashes)) c.put.ensures c.put-2.ensures c.put_hash_objects.ensures c.put-3.ensures
