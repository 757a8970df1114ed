use Rattle.std.proofs.Common.{arith}
use Rattle.bi_fit.proofs.PayloadEnds.{one_end-le}
use Rattle.bi_edit.proofs.edit_notes.external_end.Goals as goal

pub end_after-end-requires : goal.end_after-end-requires
end_after-end-requires c =
    let least = one_end-le c.args.images.now c.loop-image.image-index c.loop-image-test.true 4 c.loop-image.end (omega arith) in
    omega (arith, least, c.loop-image.invariant, c.requires)
