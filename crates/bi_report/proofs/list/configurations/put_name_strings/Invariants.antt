use Rattle.std.proofs.Common.{ℕ, List, length, map}
use Rattle.bi_fit.specs.Judgement.{listed_names}
use Rattle.bi_common.specs.Json.{json_string}
use Rattle.bi_common.specs.JsonTokens.{value_tokens}
use Rattle.bi_common.specs.Shown.{shown_text}
use Rattle.bi_report.proofs.PutInTurn.{IsPutBefore}
use Rattle.bi_report.proofs.list.configurations.put_name_strings.Given as goal

-- The names that are left follow those that were put.
abbrev pub invariant-loop-name : goal.invariant-loop-name
invariant-loop-name g l =
    IsPutBefore g.J.JsonPen.puts l.initial.json l.json
    (value_tokens (map (λ (name : List ℕ). json_string (shown_text name)) (listed_names l.rest)))
    (value_tokens (map (λ (name : List ℕ). json_string (shown_text name)) (listed_names l.value)))

abbrev pub decreases-loop-name : goal.decreases-loop-name
decreases-loop-name g l = length l.rest
