use Rattle.std.proofs.Common.{take, flat_map}
use Rattle.bi_blob.specs.Blob.{pair_bytes}
use Rattle.bi_lay.specs.Items.{reservations_of}
use Rattle.bi_lay.proofs.text.put_reservations.Given as goal

-- The pairs before this one were put.
abbrev pub invariant-loop-address : goal.invariant-loop-address
invariant-loop-address g l =
    g.P.Pen.puts l.initial.pen (flat_map pair_bytes (reservations_of (take l.address-index l.reservations))) l.pen
