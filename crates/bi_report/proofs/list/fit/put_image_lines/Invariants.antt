use Rattle.std.proofs.Common.{map, take}
use Rattle.bi_fit.specs.Content.{image_model}
use Rattle.bi_common.specs.LineTokens.{tokens_of_lines}
use Rattle.bi_report.specs.FitListing.{image_line}
use Rattle.bi_report.specs.ReadListing.{read_image_entry}
use Rattle.bi_report.proofs.list.fit.put_image_lines.Given as goal

-- The images before this one were put.
abbrev pub invariant-loop-image : goal.invariant-loop-image
invariant-loop-image g l =
    g.L.LinePen.puts l.initial.pen (tokens_of_lines (map image_line (map read_image_entry (map image_model (take l.image-index l.images)))))
    l.pen
