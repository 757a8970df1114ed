use Rattle.std.proofs.Common.{drop, map}
use Rattle.bi_common.specs.LineTokens.{tokens_of_lines}
use Rattle.bi_describe.specs.Descriptions.{part_lines}
use Rattle.bi_describe.specs.MadeParts.{digest_of_part}
use Rattle.bi_describe.proofs.describe.legacy.put_parts.Given as goal

-- If the lines of the parts that are left are put next, all were put.
abbrev pub invariant-loop-index : goal.invariant-loop-index
invariant-loop-index g l =
    (new : _) → g.L.LinePen.puts l.pen (tokens_of_lines (part_lines l.index (map digest_of_part (drop l.index l.parts)))) new →
    g.L.LinePen.puts l.initial.pen (tokens_of_lines (part_lines 0 (map digest_of_part l.parts))) new
