use Rattle.std.proofs.Common.{◌≡◌, ◌+◌, ◌-◌, ◌%◌, ◌^◌, drop, get_or, min, is_some, sym, ap, ◌∙◌, arith}
use Rattle.bi_base.specs.Cells.{up_to}
use Rattle.bi_base.proofs.AlignmentLaws.{up_to-near}
use Rattle.bi_fit.specs.Content.{image_model}
use Rattle.bi_fit.specs.KeptImages.{placed_offset}
use Rattle.bi_fit.specs.NormalNodes.{payloads_of, next_begin, next_end}
use Rattle.bi_fit.specs.Text.{end_after}
use Rattle.bi_fit.proofs.PayloadAreas.{payloads_end-le}
use Rattle.bi_fit.proofs.PayloadEnds.{no_image, one_end-le}
use Rattle.bi_fit.proofs.KeptPayloads.{stay_from, area_ends_from, IsPlacedAligned, placed_whole, aligned_without_place}
use Rattle.bi_fit.proofs.kept.stay_aligned.Goals.{else-is_some-via-then-is_some+else-begin-alignment-ne0, else-is_some-via-else-is_some}
use Rattle.bi_fit.proofs.kept.stay_aligned.Goals as goal

pub place-requires : goal.place-requires
place-requires c =
    let rest = payloads_of (drop c.loop-image.image-index c.args.images.now) in
    omega (arith, payloads_end-le 4 c.loop-image.area.end rest (omega arith), c.loop-image.invariant.ends, c.requires.within)

pub overflow_add-begin : goal.overflow_add-begin
overflow_add-begin c =
    let end = c.loop-image.area.end in
    let rest = payloads_of (drop c.loop-image.image-index c.args.images.now) in
    let begin : c.place.result ≡ up_to 4 end = c.place.ensures.begin ∙ ap (λ form. next_begin form end) c.loop-image.invariant.external in
    omega (
      arith,
      payloads_end-le 4 end rest (omega arith),
      c.loop-image.invariant.ends,
      c.requires.within,
      begin,
      up_to-near 4 end (omega arith),
    )

pub loop-image-preserved : goal.loop-image-preserved
loop-image-preserved c =
    let images = c.args.images.now in
    let i = c.loop-image.image-index in
    let end = c.loop-image.area.end in
    let image = get_or images i no_image in
    let payload = (image_model image).payload in
    let within = c.loop-image-test.true in
    let before = c.loop-image.invariant in
    let external = before.external in
    let begin : c.place.result ≡ up_to 4 end = c.place.ensures.begin ∙ ap (λ form. next_begin form end) external in
    let least = one_end-le images i within 4 end (omega arith) in
    let placed : c.place.new.self.end ≡ min (end_after 4 end payload) (2 ^ 64 - 1) =
    c.place.ensures.end ∙ ap (λ form. min (next_end form end payload) (2 ^ 64 - 1)) external in
    let is_end : c.place.new.self.end ≡ end_after 4 end payload =
    omega (arith, placed, least, before.ends, c.requires.within) in
    let step = stay_from images i no_image within c.args.alignment c.args.base end in
    let stays : IsPlacedAligned c.args.alignment (c.args.base + up_to 4 end) image =
    elim c.else-is_some.branch [
      | else-is_some-via-then-is_some+else-begin-alignment-ne0 w ↦
          placed_whole c.args.alignment (c.args.base + up_to 4 end) (placed_offset (image_model image))
          (ap (λ n. (c.args.base + n) % c.args.alignment) (sym begin) ∙ w.if-begin-alignment-ne0.false)
      | else-is_some-via-else-is_some w ↦
          aligned_without_place c.args.alignment (c.args.base + up_to 4 end) (placed_offset (image_model image))
          (ap is_some (sym c.placed_offset.ensures) ∙ sym c.is_some.ensures ∙ w.if-is_some.false)
    ] in
    rw is_end (record {
      external = c.place.ensures.form ∙ external;
      ends = sym (area_ends_from images i no_image within end) ∙ before.ends;
      same = (λ all. before.same.0 (step.1 (stays, all)), λ all. (step.0 (before.same.1 all)).1);
    })
