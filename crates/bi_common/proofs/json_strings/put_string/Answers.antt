use Rattle.std.proofs.Common.{rules}
use Rattle.bi_common.proofs.StringBytes.{string_put}
use Rattle.bi_common.proofs.json_strings.put_string.Goals as goal

pub returns : goal.returns
returns g c =
    string_put g.P.Pen.puts g.met.P.Pen.puts_in_turn _ _ _ _ _ _ _ c.put.ensures c.new.ensures.same_pen c.put_field.ensures.1 (search rules)
    c.put-2.ensures
