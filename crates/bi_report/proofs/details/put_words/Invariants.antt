use Rattle.std.proofs.Common.{flat_map, take}
use Rattle.bi_common.specs.LineTokens.{one_field}
use Rattle.bi_report.specs.Details.{details_line}
use Rattle.bi_report.specs.MadeDetails.{made_details}
use Rattle.bi_report.proofs.details.put_words.Given as goal

-- The words for the details before this one were put.
abbrev pub invariant-loop-detail : goal.invariant-loop-detail
invariant-loop-detail g l =
    g.L.LinePen.puts l.initial.pen (flat_map one_field (details_line (made_details (take l.detail-index l.details)))) l.pen
