use Rattle.std.proofs.Common.{take}
use Rattle.bi_common.proofs.LinePieces.{steps_of}
use Rattle.bi_common.proofs.fields.put_steps.Given as goal

-- The names before this one were put.
abbrev pub invariant-loop-name : goal.invariant-loop-name
invariant-loop-name g l = g.P.Pen.puts l.initial.pen (steps_of (take l.name-index l.names)) l.pen
