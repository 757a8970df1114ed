use Rattle.std.proofs.Common.{flat_map, take}
use Rattle.bi_common.specs.JsonTokens.{json_tokens}
use Rattle.bi_describe.specs.ComparisonJson.{signed_object}
use Rattle.bi_describe.specs.MadeLines.{made_lines}
use Rattle.bi_describe.proofs.compare.json.put_lines.Given as goal

-- The lines before this one were put.
abbrev pub invariant-loop-line : goal.invariant-loop-line
invariant-loop-line g l =
    g.J.JsonPen.puts l.initial.json (flat_map (λ line. json_tokens (signed_object line)) (made_lines (take l.line-index l.lines))) l.json
