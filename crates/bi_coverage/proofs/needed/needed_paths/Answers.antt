use Rattle.std.proofs.Common.{[], ◌+◌, take, sym, ap, ◌∙◌}
use Rattle.std.proofs.lemmas.List.Folds.{flat_map-map}
use Rattle.bi_coverage.specs.Paths.{with_all_new}
use Rattle.bi_coverage.specs.Signatures.{paths_of_part}
use Rattle.bi_coverage.specs.NeededParts.{part_value}
use Rattle.bi_coverage.proofs.NamesOnce.{taken_all_new}
use Rattle.bi_coverage.proofs.needed.needed_paths.Goals as goal

pub loop-part-preserved : goal.loop-part-preserved
loop-part-preserved c =
    let parts = c.args.parts.now in
    let index = c.loop-part.part-index in
    c.in_ok-add_part.ensures
    ∙ ap (λ paths. with_all_new paths (paths_of_part (part_value c.part-item.result))) c.loop-part.invariant
    ∙ ap (λ l. with_all_new (with_all_new [] l) (paths_of_part (part_value c.part-item.result)))
    (flat_map-map paths_of_part part_value (take index parts))
    ∙ taken_all_new (λ part. paths_of_part (part_value part)) [] parts index c.part-item.result c.loop-part-test.true c.part-item.is
    ∙ ap (with_all_new []) (sym (flat_map-map paths_of_part part_value (take (index + 1) parts)))
