use Rattle.std.proofs.Common.{take}
use Rattle.bi_base.specs.Slices.{bytes_of}
use Rattle.bi_blob.specs.Layout.{strings_of}
use Rattle.bi_lay.proofs.text.put_names.Given as goal

-- The names before this one were put.
abbrev pub invariant-loop-name : goal.invariant-loop-name
invariant-loop-name g l = g.P.Pen.puts l.initial.pen (strings_of (bytes_of (take l.name-index l.names))) l.pen
