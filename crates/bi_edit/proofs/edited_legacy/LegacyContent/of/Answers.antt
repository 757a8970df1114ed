use Rattle.std.proofs.Common.{ap, ◌∙◌, map}
use Rattle.bi_legacy.specs.PlacedParts.{PartModel}
use Rattle.bi_edit.proofs.edited_legacy.LegacyContent.of.Goals as goal

pub loop-part-init : goal.loop-part-init
loop-part-init c =
    rw (c.in_ok-parts.ensures.items)
    (ap (map (λ (placed : PartModel). placed.bytes)) c.into_iter-part-iterator.ensures.into_iter_gives ∙ c.parts-part-items.ensures.bytes)
