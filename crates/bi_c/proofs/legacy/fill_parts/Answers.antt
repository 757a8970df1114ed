use Rattle.std.proofs.Common.{map, ap₂, ◌∙◌, sym, arith, subst, List}
use Rattle.std.specs.Iterator.Adapters.{enumerate_count}
use Rattle.bi_legacy.specs.PlacedParts.{PartModel, placed_parts}
use Rattle.bi_c.specs.Answers.{answer_of}
use Rattle.bi_c.specs.LegacyElements.{region_of_part}
use Rattle.bi_c.proofs.ArrayFilling.{IsFilling, array_is_short, array_is_filled}
use Rattle.bi_c.proofs.LegacyElements.{part_regions_count}
use Rattle.bi_c.proofs.legacy.fill_parts.Goals as goal

pub returns-then-regions-count : goal.returns-then-regions-count
returns-then-regions-count c =
    let image = c.args.image.now.image in
    let count = c.part_count-count.ensures ∙ sym (part_regions_count image) in
    array_is_short _ (map region_of_part (placed_parts image)) _ c.args.regions.now _
    (c.answer_with.ensures ∙ ap₂ answer_of count c.unused.ensures) (omega (arith, count, c.if-regions-count.true))

pub returns : goal.returns
returns c =
    let image = c.args.image.now.image in
    let all = map region_of_part (placed_parts image) in
    let count = c.part_count-count.ensures ∙ sym (part_regions_count image) in
    array_is_filled _ all _ (enumerate_count c.loop-index.index-iterator) c.args.regions.now c.loop-index.regions _
    (c.answer_with.ensures ∙ ap₂ answer_of count c.unused.ensures)
    (subst (λ (left : List PartModel).
    IsFilling all (map region_of_part left) (enumerate_count c.loop-index.index-iterator) c.args.regions.now c.loop-index.regions)
    c.in-None.ensures.steps.0.0 c.loop-index.invariant.filling)
