use Rattle.std.proofs.Common.{◌≡◌, ◌↔◌, ◌-◌, ℕ, Some, subst, ap, ◌∙◌}
use Rattle.bi_fit.specs.Kept.{LosesAlignment}
use Rattle.bi_fit.proofs.KeptPayloads.{alignment_lost}
use Rattle.bi_edit.specs.OldImages.{still_placed_from}
use Rattle.bi_edit.specs.PlacedPayloads.{placed_list}
use Rattle.bi_edit.proofs.edit_notes.external_notes.Goals as goal

pub returns-clause-alignment : goal.returns-clause-alignment
returns-clause-alignment c =
    subst (λ placed. (bytes : ℕ) → (c.lost_alignment.result ≡ Some bytes) ↔ LosesAlignment placed bytes)
    (ap placed_list c.deref.ensures.value ∙ c.in_ok-placed.ensures
    ∙ ap (λ end. still_placed_from c.args.old.now.images (c.args.size - end) 0 c.args.images.now) c.external_end.ensures)
    (alignment_lost (placed_list c.deref.result.now) c.lost_alignment.result c.lost_alignment.ensures.lost c.lost_alignment.ensures.kept)
