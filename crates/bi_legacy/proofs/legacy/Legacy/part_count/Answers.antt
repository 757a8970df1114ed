use Rattle.std.proofs.Common.{◌∙◌, ap, sym, length}
use Rattle.bi_legacy.specs.Reading.{LegacyModel}
use Rattle.bi_legacy.proofs.PlacedPartLists.{length-parts_of_body}
use Rattle.bi_legacy.proofs.legacy.Legacy.part_count.Goals as goal

pub returns : goal.returns
returns c =
    c.self.invariant.is_table.count ∙ sym (length-parts_of_body c.self.inside.fields.image_type c.self.inside.body.now)
    ∙ ap (λ (value : LegacyModel). length value.image.parts) c.self.view_is
