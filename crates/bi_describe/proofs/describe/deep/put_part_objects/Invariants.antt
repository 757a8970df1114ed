use Rattle.std.proofs.Common.{drop}
use Rattle.bi_common.specs.JsonTokens.{value_tokens}
use Rattle.bi_describe.specs.DeepJson.{deep_part_objects}
use Rattle.bi_describe.specs.MadeInsides.{HoldInsides, whole_devicetrees}
use Rattle.bi_describe.specs.MadeParts.{bytes_of_parts}
use Rattle.bi_describe.proofs.describe.deep.put_part_objects.Given as goal

-- If the objects of the parts that are left are put next, all were put.
abbrev pub invariant-loop-index : goal.invariant-loop-index
invariant-loop-index g l =
    (trees : _) → HoldInsides (whole_devicetrees trees) l.insides → (new : _) →
    g.J.JsonPen.puts l.json (value_tokens (deep_part_objects trees l.index (bytes_of_parts (drop l.index l.parts)))) new →
    g.J.JsonPen.puts l.initial.json (value_tokens (deep_part_objects trees 0 (bytes_of_parts l.parts))) new
