use Rattle.std.proofs.Common.{ℕ, List, ap, map, refl}
use Rattle.bi_fit.specs.Judgement.{listed_names}
use Rattle.bi_common.specs.Json.{json_string}
use Rattle.bi_common.specs.JsonTokens.{JsonToken, json_tokens, value_tokens}
use Rattle.bi_report.proofs.PutInTurn.{put_begins, put_ends, put_goes_on}
use Rattle.bi_show.proofs.show.json.members.put_listed_texts.Goals as goal

-- Texts as strings.
abbrev strings : List (List ℕ) → List JsonToken
strings texts = value_tokens (map json_string texts)

pub loop-text-init : goal.loop-text-init
loop-text-init g c = put_begins g.J.JsonPen.puts g.met.J.JsonPen.puts_nothing c.args.json.now _ _ refl

pub loop-text-preserved : goal.loop-text-preserved
loop-text-preserved g c =
    put_goes_on g.J.JsonPen.puts g.met.J.JsonPen.puts_in_turn c.args.json.now c.loop-text.json c.put_value.new.json
    (json_tokens (json_string c.in-Some.text.now)) (strings (listed_names c.in-Some.later.now)) _ _ c.loop-text.invariant
    (ap strings c.in-Some.ensures.listed) c.put_value.ensures

pub returns : goal.returns
returns g c =
    put_ends g.J.JsonPen.puts c.args.json.now c.loop-text.json _ _ c.loop-text.invariant (ap strings c.in_default.ensures)
