use Rattle.std.proofs.Common.{drop, map}
use Rattle.bi_fit.specs.Content.{image_model}
use Rattle.bi_common.specs.JsonTokens.{value_tokens}
use Rattle.bi_report.specs.FitListing.{image_object}
use Rattle.bi_report.specs.ReadListing.{read_image_entry}
use Rattle.bi_report.proofs.PutInTurn.{IsPutBefore}
use Rattle.bi_report.proofs.list.fit.put_image_objects.Given as goal

-- The images that are left follow those that were put.
abbrev pub invariant-loop-image : goal.invariant-loop-image
invariant-loop-image g l =
    IsPutBefore g.J.JsonPen.puts l.initial.json l.json
    (value_tokens (map image_object (map read_image_entry (map image_model (drop l.image-index l.images)))))
    (value_tokens (map image_object (map read_image_entry (map image_model l.images))))
