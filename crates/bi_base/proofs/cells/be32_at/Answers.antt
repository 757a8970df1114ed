use Rattle.bi_base.proofs.cells.be32_at.Goals as goal
use Rattle.std.proofs.Common.{◌≡◌, ◌+◌, ◌≤◌, length, take, arith, ap, ◌∙◌}
use Rattle.std.specs.Int.{from_be_bytes, w32}
use Rattle.std.proofs.lemmas.List.{take_rest}
use Rattle.std.proofs.lemmas.Grind.{common_steps}
use Rattle.bi_base.specs.Cells.{cell, slice, u32_at}
use Rattle.bi_base.proofs.CellLaws.{cell-u32_at}

pub returns-clause-inverse : goal.returns-clause-inverse
unfolding u32_at
returns-clause-inverse c =
    let within : c.args.at + 4 ≤ length c.args.bytes.now = grind (arith, common_steps) in
    let chunk : c.in_ok-cell.cell.now ≡ slice c.args.bytes.now c.args.at 4 =
    c.in_ok-cell.ensures.cases.same ∙ ap (take 4) (c.in_ok-get.ensures.lookup.0.2 ∙ take_rest c.args.bytes.now c.args.at) in
    let value : c.from_be_bytes.result ≡ u32_at c.args.bytes.now c.args.at =
    c.from_be_bytes.ensures ∙ ap (from_be_bytes w32) chunk in
    ap cell value ∙ cell-u32_at c.args.bytes.now c.args.at (record { each = λ i. omega (arith, c.type_inv.bytes i) }) within
