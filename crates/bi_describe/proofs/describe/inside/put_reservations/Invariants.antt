use Rattle.std.proofs.Common.{map, take}
use Rattle.bi_common.specs.LineTokens.{tokens_of_lines}
use Rattle.bi_describe.specs.DeepDescriptions.{inside_reservation_line}
use Rattle.bi_describe.proofs.describe.inside.put_reservations.Given as goal

-- The reservations before this one were put.
abbrev pub invariant-loop-index : goal.invariant-loop-index
invariant-loop-index g l =
    g.L.LinePen.puts l.initial.pen
    (tokens_of_lines (map (inside_reservation_line l.payload) (take l.index l.blob.reservations))) l.pen
