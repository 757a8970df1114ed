use Rattle.std.proofs.Common.{length, refl}
use Rattle.std.proofs.lemmas.Option.{slice_get_read}
use Rattle.bi_plain.proofs.OwnPayloads.{payload_there}
use Rattle.bi_plain.proofs.payloads.payload_at.Goals as goal

pub returns : goal.returns
returns c =
    let there = c.in_ok-get.ensures.lookup.3 in
    let images = c.args.images.now in
    payload_there images c.args.index c.in_ok-get.field-0.now
    (slice_get_read images (length images) c.args.index c.in_ok-get.field-0.now refl there.0 (there.1 c.in_ok-get.field-0.now))
