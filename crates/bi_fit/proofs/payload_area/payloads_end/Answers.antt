use Rattle.std.proofs.Common.{◌≡◌, ℕ, ◌-◌, ◌^◌, List, Option, get_or, min, refl, ap, ◌∙◌, arith}
use Rattle.bi_base.specs.Aligns.{align_bytes}
use Rattle.bi_base.proofs.AlignmentLaws.{alignment-positive}
use Rattle.bi_fit.specs.Content.{image_model}
use Rattle.bi_fit.specs.NormalNodes.{next_end}
use Rattle.bi_fit.specs.Text.{end_after}
use Rattle.bi_fit.proofs.PayloadEnds.{no_image, one_end-le}
use Rattle.bi_fit.proofs.payload_area.payloads_end.Goals as goal

pub returns-then-area-limit-clause-fault : goal.returns-then-area-limit-clause-fault
returns-then-area-limit-clause-fault c =
    let before = c.loop-image.area in
    let payload : Option (List ℕ) = (image_model (get_or c.args.images.now c.loop-image.image-index no_image)).payload in
    let align = align_bytes c.args.align in
    let least = one_end-le c.args.images.now c.loop-image.image-index c.loop-image-test.true align before.end
    (omega (arith, alignment-positive align c.args.align.is_alignment)) in
    let placed : c.place.new.self.end ≡ min (end_after align before.end payload) (2 ^ 64 - 1) =
    c.place.ensures.end ∙ ap (λ form. min (next_end form before.end payload) (2 ^ 64 - 1)) c.loop-image.invariant.aligned in
    rw c.refuse.ensures (refl, omega (arith, least, placed))
