use Rattle.std.proofs.Common.{take, flat_map}
use Rattle.bi_common.specs.DescribedValues.{quoted_byte}
use Rattle.bi_common.proofs.fields.values.put_each_quoted.Given as goal

-- The bytes before this one were put.
abbrev pub invariant-loop-byte : goal.invariant-loop-byte
invariant-loop-byte g l = g.P.Pen.puts l.initial.pen (flat_map quoted_byte (take l.byte-index l.texts)) l.pen
