use Rattle.std.proofs.Common.{◌≡◌, max, map, drop}
use Rattle.bi_fit.specs.Content.{image_model}
use Rattle.bi_report.specs.ReadChecking.{end_of_read_payloads}
use Rattle.bi_report.proofs.check.trailing.content_end.Given as goal

abbrev pub invariant-loop-image : goal.invariant-loop-image
invariant-loop-image l = max l.end (end_of_read_payloads l.fit.blob.total_size (map image_model (drop l.image-index l.image-items)))
    ≡ end_of_read_payloads l.fit.blob.total_size l.fit.images
