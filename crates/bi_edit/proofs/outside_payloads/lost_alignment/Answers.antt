use Rattle.std.proofs.Common.{subst, sym, ◌∙◌, true≢false}
use Rattle.bi_fit.specs.Kept.{AreAlignedInText}
use Rattle.bi_fit.proofs.KeptPayloads.{same_alignment}
use Rattle.bi_edit.specs.PlacedPayloads.{placed_list}
use Rattle.bi_edit.proofs.outside_payloads.lost_alignment.Goals as goal

pub returns-then-are_aligned-clause-kept : goal.returns-then-are_aligned-clause-kept
returns-then-are_aligned-clause-kept c none bytes loses =
    let placed = placed_list c.args.placed.now in
    loses.is_lost (subst (λ bytes. AreAlignedInText bytes placed)
    (same_alignment placed c.alignment_of-alignment.result bytes c.alignment_of-alignment.ensures loses.is_alignment)
    (c.are_aligned.ensures.0 c.if-are_aligned.true))

pub returns-else-are_aligned-clause-lost : goal.returns-else-are_aligned-clause-lost
returns-else-are_aligned-clause-lost c = record {
  is_alignment = c.alignment_of-alignment.ensures;
  is_lost = λ all. true≢false (sym (c.are_aligned.ensures.1 all) ∙ c.if-are_aligned.false);
}
