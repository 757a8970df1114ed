use Rattle.std.proofs.Common.{take, flat_map}
use Rattle.bi_base.specs.Cells.{cell}
use Rattle.bi_base.proofs.cells.put_cells.Given as goal

-- The cells of the numbers before this one were appended.
abbrev pub invariant-loop-number : goal.invariant-loop-number
invariant-loop-number g l = g.S.Sink.appends l.initial.sink (flat_map cell (take l.number-index l.numbers)) l.sink
