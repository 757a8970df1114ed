use Rattle.std.proofs.Common.{sym, ap, ◌∙◌}
use Rattle.bi_edit.specs.PlacedPayloads.{placed_list, placed_of_images}
use Rattle.bi_edit.proofs.ChosenForms.{form_outside}
use Rattle.bi_edit.proofs.form_choice.form_of_images.Goals as goal

pub returns : goal.returns
returns c =
    form_outside c.deref.result.now _ c.alignment_of.result (placed_of_images c.args.images.now) c.at_least_four.result
    (ap placed_list c.deref.ensures.value ∙ c.in_ok-placed.ensures) c.deref.ensures.len (sym c.is_empty.ensures ∙ c.if-is_empty.false)
    c.alignment_of.ensures c.at_least_four.ensures
