use Rattle.std.proofs.Common.{map}
use Rattle.bi_common.specs.HashedImages.{hashed_left}
use Rattle.bi_common.specs.LineTokens.{tokens_of_lines}
use Rattle.bi_report.specs.Reports.{hash_line, hashes_of_images}
use Rattle.bi_report.proofs.LaterPuts.{PutsLater}
use Rattle.bi_report.proofs.verify.texts.put_image_lines.Given as goal

-- Once the lines of the images that are left are put, all are.
abbrev pub invariant-loop-image : goal.invariant-loop-image
invariant-loop-image g l =
    PutsLater g.L.LinePen.puts l.initial.pen l.pen (tokens_of_lines (map hash_line (hashes_of_images (hashed_left l.image-iterator))))
    (tokens_of_lines (map hash_line (hashes_of_images (hashed_left l.fn.images))))
