use Rattle.std.proofs.Common.{length, map}
use Rattle.bi_fit.specs.Judgement.{listed_names}
use Rattle.bi_common.specs.Json.{json_string}
use Rattle.bi_common.specs.JsonTokens.{value_tokens}
use Rattle.bi_describe.proofs.describe.json.put_strings.Given as goal

-- If the texts that are left are put next, all were put.
abbrev pub invariant-loop-text : goal.invariant-loop-text
invariant-loop-text g l =
    (new : _) → g.J.JsonPen.puts l.json (value_tokens (map json_string (listed_names l.rest))) new →
    g.J.JsonPen.puts l.initial.json (value_tokens (map json_string (listed_names l.value))) new

abbrev pub decreases-loop-text : goal.decreases-loop-text
decreases-loop-text g l = length l.rest
