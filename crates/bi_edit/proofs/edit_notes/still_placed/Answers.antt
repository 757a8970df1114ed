use Rattle.std.proofs.Common.{arith}
use Rattle.bi_fit.proofs.PayloadEnds.{one_end-le}
use Rattle.bi_edit.proofs.edit_notes.still_placed.Goals as goal

pub push_still_placed-requires : goal.push_still_placed-requires
push_still_placed-requires c =
    let least = one_end-le c.args.images.now c.loop-image.image-index c.loop-image-test.true 4 c.loop-image.end (omega arith) in
    omega (arith, least, c.loop-image.invariant.ends, c.requires)

pub end_after-end-requires : goal.end_after-end-requires
end_after-end-requires c =
    let least = one_end-le c.args.images.now c.loop-image.image-index c.loop-image-test.true 4 c.loop-image.end (omega arith) in
    omega (arith, least, c.loop-image.invariant.ends, c.requires)
