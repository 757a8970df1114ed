use Rattle.std.proofs.Common.{ap, map, ◌∙◌}
use Rattle.bi_common.specs.HashedImages.{hashed_left, image_value}
use Rattle.bi_common.specs.LineTokens.{tokens_of_lines}
use Rattle.bi_report.specs.Reports.{hash_line, hashes_of_images}
use Rattle.bi_report.proofs.LaterPuts.{all_are_put, next_are_put}
use Rattle.bi_report.proofs.ImageReports.{lines_first}
use Rattle.bi_report.proofs.verify.texts.put_image_lines.Goals as goal

pub loop-image-preserved : goal.loop-image-preserved
loop-image-preserved g c =
    next_are_put g.L.LinePen.puts g.met.L.LinePen.puts_in_turn _ _ _ _ _ _ _ c.loop-image.invariant
    (ap (λ images. tokens_of_lines (map hash_line (hashes_of_images images))) c.in-Some.ensures.steps
    ∙ lines_first (image_value c.in-Some.image) (hashed_left c.next.new.self))
    c.put_hash_lines.ensures

pub returns : goal.returns
returns g c =
    all_are_put g.L.LinePen.puts g.met.L.LinePen.puts_nothing _ _ _ _ c.loop-image.invariant
    (ap (λ images. tokens_of_lines (map hash_line (hashes_of_images images))) c.in-None.ensures.steps.0)
