use Rattle.std.proofs.Common.{◌∙◌, ap, map}
use Rattle.bi_legacy.specs.Parts.{parts_start}
use Rattle.bi_legacy.specs.PlacedParts.{PartModel, placed_parts}
use Rattle.bi_legacy.specs.Reading.{LegacyModel}
use Rattle.bi_legacy.specs.PartRanges.{placed_slices, first_part_offset, part_sizes}
use Rattle.bi_legacy.proofs.NthPart.{map-bytes}
use Rattle.bi_legacy.proofs.PlacedPartLists.{placed_is}
use Rattle.bi_legacy.proofs.legacy.Legacy.parts.Goals as goal

pub returns-clause-parts : goal.returns-clause-parts
returns-clause-parts c =
    let body = c.self.inside.body.now in
    c.new.ensures
    ∙ ap (λ has_table. placed_slices body (first_part_offset has_table body) (part_sizes has_table body)) c.has_part_table.ensures
    ∙ placed_is c.self.inside.fields.image_type body c.self.invariant.is_table.fit
    ∙ ap (λ (value : LegacyModel). placed_parts value.image) c.self.view_is

pub returns-clause-bytes : goal.returns-clause-bytes
returns-clause-bytes c =
    let image = c.args.self.now.image in
    ap (map (λ (part : PartModel). part.bytes)) (returns-clause-parts c)
    ∙ map-bytes (parts_start image.image_type image.parts) image.parts
