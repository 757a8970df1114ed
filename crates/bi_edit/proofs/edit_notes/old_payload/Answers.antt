use Rattle.std.proofs.Common.{sym, ap, ◌∙◌}
use Rattle.bi_edit.specs.OldImages.{payload_or_none}
use Rattle.bi_edit.proofs.OldImages.{image_found, no_image_found}
use Rattle.bi_edit.proofs.edit_notes.old_payload.Goals as goal

pub returns-in-Some : goal.returns-in-Some
returns-in-Some c =
    c.payload.ensures
    ∙ ap payload_or_none
    (image_found c.args.name.now c.args.old.now.images c.in-Some.index (sym c.image.ensures ∙ c.in-Some.is))

pub returns-in-None : goal.returns-in-None
returns-in-None c =
    sym (ap payload_or_none (no_image_found c.args.name.now c.args.old.now.images (sym c.image.ensures ∙ c.in-None.is)))
