use Rattle.std.proofs.Common.{ap, ◌∙◌, arith}
use Rattle.std.specs.Int.{from_be_bytes, w32}
use Rattle.std.proofs.lemmas.List.{take_all}
use Rattle.bi_base.specs.Cells.{u32_at}
use Rattle.bi_fit.proofs.images.read_cell.Goals as goal

pub returns-in-Some-clause-number : goal.returns-in-Some-clause-number
unfolding u32_at
returns-in-Some-clause-number c =
    c.in-Some.ensures.value ∙ ap (from_be_bytes w32) (take_all 4 c.args.property.value.now (omega arith))
