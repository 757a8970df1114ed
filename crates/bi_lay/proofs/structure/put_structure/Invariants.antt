use Rattle.std.proofs.Common.{take, flat_map}
use Rattle.bi_lay.specs.Items.{item_encoding}
use Rattle.bi_lay.proofs.structure.put_structure.Given as goal

-- The tokens of the items before this one were put.
abbrev pub invariant-loop-item : goal.invariant-loop-item
invariant-loop-item g l = g.P.Pen.puts l.initial.pen (flat_map item_encoding (take l.item-index l.items)) l.pen
