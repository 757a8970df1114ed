use Rattle.std.proofs.Common.{◌≤◌, arith, length}
use Rattle.bi_common.specs.CommonLines.{reservation_object}
use Rattle.bi_common.proofs.WrittenTokens.{values_put}
use Rattle.bi_common.proofs.common_lines.put_reservations.Goals as goal

pub returns : goal.returns
returns g c =
    let reservations = c.args.blob.now.reservations in
    let past : length reservations ≤ c.loop-index.index = omega (arith, c.loop-index-test.false, c.reservation_count-index-end.ensures) in
    values_put g.J.JsonPen.puts reservation_object reservations _ _ _ past c.loop-index.invariant
