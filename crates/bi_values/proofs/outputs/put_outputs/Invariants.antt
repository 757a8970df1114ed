use Rattle.std.proofs.Common.{flat_map, take}
use Rattle.bi_values.specs.ValueOutputs.{output_text}
use Rattle.bi_values.proofs.outputs.put_outputs.Given as goal

-- What is written for the values before this one was put.
abbrev pub invariant-loop-output : goal.invariant-loop-output
invariant-loop-output g l = g.P.Pen.puts l.initial.pen (flat_map output_text (take l.output-index l.outputs)) l.pen
