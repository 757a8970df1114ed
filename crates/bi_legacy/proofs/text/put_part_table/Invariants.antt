use Rattle.std.proofs.Common.{take, flat_map, length}
use Rattle.bi_base.specs.Cells.{cell}
use Rattle.bi_base.specs.Slices.{bytes_of}
use Rattle.bi_legacy.proofs.text.put_part_table.Given as goal

-- The cells of the sizes before this one were put.
abbrev pub invariant-loop-part : goal.invariant-loop-part
invariant-loop-part g l =
    g.P.Pen.puts l.initial.pen (flat_map (λ part. cell (length part)) (bytes_of (take l.part-index l.parts))) l.pen
