use Rattle.std.proofs.Common.{subst, sym, ◌∙◌, true≢false}
use Rattle.bi_fit.specs.Kept.{AreAlignedInText}
use Rattle.bi_fit.specs.KeptImages.{placed_images}
use Rattle.bi_fit.proofs.KeptPayloads.{alignment_of_placed, same_alignment}
use Rattle.bi_fit.proofs.kept.lost_alignment.Goals as goal

pub returns-then-stay_aligned-clause-kept : goal.returns-then-stay_aligned-clause-kept
returns-then-stay_aligned-clause-kept c none bytes loses =
    let placed = placed_images c.args.base 0 c.args.images.now in
    let alignment = c.alignment_of-alignment.result in
    let is = alignment_of_placed c.args.images.now c.args.base 0 alignment c.alignment_of-alignment.ensures in
    loses.is_lost (subst (λ bytes. AreAlignedInText bytes placed) (same_alignment placed alignment bytes is loses.is_alignment)
    (c.stay_aligned.ensures.0 c.if-stay_aligned.true))

pub returns-else-stay_aligned-clause-lost : goal.returns-else-stay_aligned-clause-lost
returns-else-stay_aligned-clause-lost c = record {
  is_alignment = alignment_of_placed c.args.images.now c.args.base 0 c.alignment_of-alignment.result c.alignment_of-alignment.ensures;
  is_lost = λ all. true≢false (sym (c.stay_aligned.ensures.1 all) ∙ c.if-stay_aligned.false);
}
