use Rattle.std.proofs.Common.{drop, map}
use Rattle.bi_common.specs.LineTokens.{tokens_of_lines}
use Rattle.bi_describe.specs.DeepDescriptions.{insides_shown, lines_with_inside}
use Rattle.bi_describe.specs.Descriptions.{part_lines}
use Rattle.bi_describe.specs.MadeInsides.{HoldInsides, whole_devicetrees}
use Rattle.bi_describe.specs.MadeParts.{digest_of_part}
use Rattle.bi_describe.proofs.describe.deep.put_parts.Given as goal

-- If the lines of the parts that are left are put next, all were put, and the same trees are inside.
abbrev pub invariant-loop-index : goal.invariant-loop-index
invariant-loop-index g l = record {
  held : (trees : _) → HoldInsides trees l.initial.insides → HoldInsides trees l.insides;
  written : (trees : _) → HoldInsides (whole_devicetrees trees) l.initial.insides → (new : _) → g.L.LinePen.puts l.pen
      (tokens_of_lines (lines_with_inside (insides_shown trees) (part_lines l.index (map digest_of_part (drop l.index l.parts))))) new →
      g.L.LinePen.puts l.initial.pen
      (tokens_of_lines (lines_with_inside (insides_shown trees) (part_lines 0 (map digest_of_part l.parts)))) new;
}
