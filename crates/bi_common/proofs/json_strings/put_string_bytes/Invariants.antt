use Rattle.std.proofs.Common.{flat_map, take}
use Rattle.bi_common.specs.Json.{string_byte}
use Rattle.bi_common.proofs.json_strings.put_string_bytes.Given as goal

-- The bytes before this one were put.
abbrev pub invariant-loop-byte : goal.invariant-loop-byte
invariant-loop-byte g l = g.P.Pen.puts l.initial.pen (flat_map string_byte (take l.byte-index l.bytes)) l.pen
