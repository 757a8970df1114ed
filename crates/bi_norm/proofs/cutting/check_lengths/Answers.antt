use Rattle.std.proofs.Common.{◌<◌, ◌+◌, length, take, drop, get_or, ap, arith}
use Rattle.bi_base.specs.declared.fault.Cause.TheVariants.{BadPart}
use Rattle.bi_norm.specs.Cutting.{TooLong}
use Rattle.bi_norm.proofs.Pieces.{lengths_around}
use Rattle.bi_norm.proofs.cutting.check_lengths.Goals as goal

pub returns-then-end-input-clause-fault : goal.returns-then-end-input-clause-fault
returns-then-end-input-clause-fault c =
    let lengths = c.args.lengths.now in
    let i = c.loop-piece_length.piece_length-index in
    let loop = c.loop-piece_length.invariant in
    let longer : length c.args.input.now < c.loop-piece_length.start + get_or lengths i 0 = omega arith in
    rw c.refuse.ensures
    (TooLong (take i lengths) (get_or lengths i 0) (drop (i + 1) lengths) (lengths_around lengths i c.loop-piece_length-test.true)
    (omega (arith, loop.within, loop.is_sum)) (omega (arith, longer, loop.is_sum))
    (ap (λ n. record { cause = BadPart; offset = n }) loop.is_sum))
