use Rattle.std.proofs.Common.{map}
use Rattle.bi_common.specs.HashedImages.{hashed_left}
use Rattle.bi_common.specs.JsonTokens.{value_tokens}
use Rattle.bi_report.specs.Reports.{hash_object, hashes_of_images}
use Rattle.bi_report.proofs.LaterPuts.{PutsLater}
use Rattle.bi_report.proofs.verify.texts.put_image_objects.Given as goal

-- Once the objects of the images that are left are put, all are.
abbrev pub invariant-loop-image : goal.invariant-loop-image
invariant-loop-image g l =
    PutsLater g.J.JsonPen.puts l.initial.json l.json (value_tokens (map hash_object (hashes_of_images (hashed_left l.image-iterator))))
    (value_tokens (map hash_object (hashes_of_images (hashed_left l.fn.images))))
