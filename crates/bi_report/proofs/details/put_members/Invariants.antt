use Rattle.std.proofs.Common.{flat_map, take}
use Rattle.bi_report.proofs.PrintedDetails.{detail_tokens}
use Rattle.bi_report.proofs.details.put_members.Given as goal

-- The members for the details before this one were put.
abbrev pub invariant-loop-detail : goal.invariant-loop-detail
invariant-loop-detail g l = g.J.JsonPen.puts l.initial.json (flat_map detail_tokens (take l.detail-index l.details)) l.json
