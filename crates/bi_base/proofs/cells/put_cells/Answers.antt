use Rattle.std.proofs.Common.{flat_map, arith}
use Rattle.bi_base.specs.Cells.{cell}
use Rattle.bi_base.proofs.SinkLaws.{failed_within, passed_on}
use Rattle.bi_base.proofs.cells.put_cells.Goals as goal

pub returns-in_err-put_cell : goal.returns-in_err-put_cell
returns-in_err-put_cell g c =
    passed_on g.S.Sink.appends g.S.Sink.fails c.args.sink.now
    (flat_map cell c.args.numbers.now) _ c.from_residual.result c.put_cell.new.sink c.from_residual.ensures.1
    (failed_within g.S.Sink.appends g.S.Sink.fails g.met.S.Sink.fails_after g.met.S.Sink.fails_before c.args.sink.now c.loop-number.sink
    c.put_cell.new.sink cell c.args.numbers.now c.loop-number.number-index 0 c.in_err-put_cell.field-0.0
    (omega arith) c.loop-number.invariant c.in_err-put_cell.ensures)
