use Rattle.std.proofs.Common.{map, sym, subst}
use Rattle.bi_common.specs.Json.{json_string}
use Rattle.bi_common.specs.JsonTokens.{value_tokens}
use Rattle.bi_describe.proofs.describe.json.put_strings.Goals as goal

pub loop-text-preserved : goal.loop-text-preserved
loop-text-preserved g c = λ new rest.
    c.loop-text.invariant new
    (subst (λ names. g.J.JsonPen.puts c.loop-text.json (value_tokens (map json_string names)) new) (sym c.in-Some.ensures.listed)
    (g.met.J.JsonPen.puts_in_turn _ _ _ _ _ c.put_value.ensures rest))

pub returns : goal.returns
returns g c =
    c.loop-text.invariant _
    (subst (λ names. g.J.JsonPen.puts c.loop-text.json (value_tokens (map json_string names)) c.loop-text.json) (sym c.in_default.ensures)
    (g.met.J.JsonPen.puts_nothing _))
