use Rattle.std.proofs.Common.{drop, map}
use Rattle.bi_common.specs.LineTokens.{tokens_of_lines}
use Rattle.bi_describe.specs.DeepDescriptions.{lines_with_inside}
use Rattle.bi_describe.specs.KeptImages.{numbered_part}
use Rattle.bi_describe.specs.MadeInsides.{HoldInsides, shown_by}
use Rattle.bi_describe.specs.ReducedMeanings.{reduced_part_lines}
use Rattle.bi_describe.proofs.describe.kept.legacy.put_deep_parts.Given as goal

-- If the lines of the parts that are left are put next, all were put, and the same trees are inside.
abbrev pub invariant-loop-part : goal.invariant-loop-part
invariant-loop-part g l = record {
  held : (trees : _) → HoldInsides trees l.initial.insides → HoldInsides trees l.insides;
  written : (trees : _) → HoldInsides trees l.initial.insides → (new : _) → g.L.LinePen.puts l.pen
      (tokens_of_lines (lines_with_inside (shown_by trees l.opened)
      (reduced_part_lines (map numbered_part (drop l.part-index l.parts))))) new →
      g.L.LinePen.puts l.initial.pen
      (tokens_of_lines (lines_with_inside (shown_by trees l.opened) (reduced_part_lines (map numbered_part l.parts)))) new;
}
