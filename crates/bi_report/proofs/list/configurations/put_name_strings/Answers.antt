use Rattle.std.proofs.Common.{ℕ, List, ap, map, refl}
use Rattle.bi_fit.specs.Judgement.{listed_names}
use Rattle.bi_common.specs.Json.{json_string}
use Rattle.bi_common.specs.JsonTokens.{JsonToken, json_tokens, value_tokens}
use Rattle.bi_common.specs.Shown.{shown_text}
use Rattle.bi_report.proofs.PutInTurn.{put_begins, put_ends, put_goes_on}
use Rattle.bi_report.proofs.list.configurations.put_name_strings.Goals as goal

-- Names as strings.
abbrev strings : List (List ℕ) → List JsonToken
strings names = value_tokens (map (λ (name : List ℕ). json_string (shown_text name)) names)

pub loop-name-init : goal.loop-name-init
loop-name-init g c = put_begins g.J.JsonPen.puts g.met.J.JsonPen.puts_nothing c.args.json.now _ _ refl

pub loop-name-preserved : goal.loop-name-preserved
loop-name-preserved g c =
    put_goes_on g.J.JsonPen.puts g.met.J.JsonPen.puts_in_turn c.args.json.now c.loop-name.json c.put_value.new.json
    (json_tokens (json_string (shown_text c.in-Some.name.now))) (strings (listed_names c.in-Some.later.now)) _ _ c.loop-name.invariant
    (ap strings c.in-Some.ensures.listed) c.put_value.ensures

pub returns : goal.returns
returns g c =
    put_ends g.J.JsonPen.puts c.args.json.now c.loop-name.json _ _ c.loop-name.invariant (ap strings c.in_default.ensures)
