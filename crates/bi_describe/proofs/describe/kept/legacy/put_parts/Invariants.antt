use Rattle.std.proofs.Common.{map, take}
use Rattle.bi_common.specs.LineTokens.{tokens_of_lines}
use Rattle.bi_describe.specs.KeptImages.{numbered_part}
use Rattle.bi_describe.specs.ReducedMeanings.{reduced_part_lines}
use Rattle.bi_describe.proofs.describe.kept.legacy.put_parts.Given as goal

-- The lines of the parts before this one were put.
abbrev pub invariant-loop-part : goal.invariant-loop-part
invariant-loop-part g l =
    g.L.LinePen.puts l.initial.pen (tokens_of_lines (reduced_part_lines (map numbered_part (take l.part-index l.parts)))) l.pen
