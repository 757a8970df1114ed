use Rattle.std.proofs.Common.{◌∷◌, ◌+◌, ◌∙◌, ap, sym, drop}
use Rattle.bi_legacy.specs.PartRanges.{part_sizes}
use Rattle.bi_legacy.proofs.TableSizes.{drop-part_sizes}
use Rattle.bi_legacy.proofs.part_ranges.size_at.Goals as goal

pub returns-then-has_table-clause-size : goal.returns-then-has_table-clause-size
returns-then-has_table-clause-size c =
    drop-part_sizes c.args.has_table c.args.body.now c.args.index c.if-has_table.true c.requires.within c.requires.room
    ∙ ap (λ size. size ∷ drop (c.args.index + 1) (part_sizes c.args.has_table c.args.body.now)) (sym c.cell_at.ensures)
