use Rattle.std.proofs.Common.{take, flat_map}
use Rattle.bi_base.specs.Slices.{bytes_of}
use Rattle.bi_legacy.specs.Text.{with_zeros}
use Rattle.bi_legacy.proofs.text.put_joined_parts.Given as goal

-- The parts before this one were put, each padded.
abbrev pub invariant-loop-part : goal.invariant-loop-part
invariant-loop-part g l =
    g.P.Pen.puts l.initial.pen (flat_map with_zeros (bytes_of (take l.part-index l.before))) l.pen
