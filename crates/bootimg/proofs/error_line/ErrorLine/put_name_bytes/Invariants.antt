use Rattle.std.proofs.Common.{flat_map, take}
use Rattle.bi_common.specs.Shown.{shown_byte}
use Rattle.bootimg.specs.ErrorLines.{Extends, line_of}
use Rattle.bootimg.proofs.error_line.ErrorLine.put_name_bytes.Given as goal

-- The bytes before this one were appended.
abbrev pub invariant-loop-byte : goal.invariant-loop-byte
invariant-loop-byte g l =
    let trace = g.T.TracedWrite.trace in
    Extends (line_of trace l.initial.self) (flat_map shown_byte (take l.byte-index l.name)) (line_of trace l.self)
