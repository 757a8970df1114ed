use Rattle.std.proofs.Common.{flat_map, take}
use Rattle.bi_common.specs.CommonLines.{reservation_object}
use Rattle.bi_common.specs.JsonTokens.{json_tokens}
use Rattle.bi_common.proofs.common_lines.put_reservations.Given as goal

-- The reservations before this one were put.
abbrev pub invariant-loop-index : goal.invariant-loop-index
invariant-loop-index g l =
    g.J.JsonPen.puts l.initial.json (flat_map (λ reservation. json_tokens (reservation_object reservation))
    (take l.index l.blob.reservations)) l.json
