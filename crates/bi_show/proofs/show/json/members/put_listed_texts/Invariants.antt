use Rattle.std.proofs.Common.{length, map}
use Rattle.bi_fit.specs.Judgement.{listed_names}
use Rattle.bi_common.specs.Json.{json_string}
use Rattle.bi_common.specs.JsonTokens.{value_tokens}
use Rattle.bi_report.proofs.PutInTurn.{IsPutBefore}
use Rattle.bi_show.proofs.show.json.members.put_listed_texts.Given as goal

-- The texts that are left follow those that were put.
abbrev pub invariant-loop-text : goal.invariant-loop-text
invariant-loop-text g l =
    IsPutBefore g.J.JsonPen.puts l.initial.json l.json (value_tokens (map json_string (listed_names l.rest)))
    (value_tokens (map json_string (listed_names l.value)))

abbrev pub decreases-loop-text : goal.decreases-loop-text
decreases-loop-text g l = length l.rest
