use Rattle.std.proofs.Common.{◌++◌, map, sym, ap, ◌∙◌, append-nil}
use Rattle.bi_legacy.specs.PlacedParts.{PartModel}
use Rattle.bi_describe.specs.MadeParts.{bytes_of_parts}
use Rattle.bi_describe.proofs.describe.legacy.parts_of.Goals as goal

pub returns : goal.returns
returns c =
    let bytes = λ (part : PartModel). part.bytes in
    let parts = bytes_of_parts c.loop-part.parts.items in
    sym (append-nil parts)
    ∙ ap (λ left. parts ++ map bytes left) (sym c.in-None.ensures.steps.0)
    ∙ c.loop-part.invariant
    ∙ ap (map bytes) (sym c.parts-part-items.ensures.parts)
    ∙ c.parts-part-items.ensures.bytes
