use Rattle.bi_base.proofs.cells.be64_at.Goals as goal
use Rattle.std.proofs.Common.{◌≡◌, ◌+◌, ◌≤◌, length, take, arith, ap, ◌∙◌}
use Rattle.std.specs.Int.{from_be_bytes, w64}
use Rattle.std.proofs.lemmas.List.{take_rest}
use Rattle.std.proofs.lemmas.Nat.{be_bytes_8}
use Rattle.std.proofs.lemmas.Grind.{common_steps}
use Rattle.bi_base.specs.Cells.{AreBytes, cell8, slice}
use Rattle.bi_base.proofs.CellLaws.{length-slice, AreBytes-slice}

pub returns-clause-inverse : goal.returns-clause-inverse
unfolding cell8
returns-clause-inverse c =
    let within : c.args.at + 8 ≤ length c.args.bytes.now = grind (arith, common_steps) in
    let bytes : AreBytes c.args.bytes.now = record { each = λ i. omega (arith, c.type_inv.bytes i) } in
    let chunk : c.in_ok-cells.cells.now ≡ slice c.args.bytes.now c.args.at 8 =
    c.in_ok-cells.ensures.cases.same ∙ ap (take 8) (c.in_ok-get.ensures.lookup.0.2 ∙ take_rest c.args.bytes.now c.args.at) in
    be_bytes_8 (slice c.args.bytes.now c.args.at 8) c.from_be_bytes.result (length-slice c.args.bytes.now c.args.at 8 within)
    (AreBytes-slice c.args.bytes.now c.args.at 8 bytes).each
    (c.from_be_bytes.ensures ∙ ap (from_be_bytes w64) chunk)
