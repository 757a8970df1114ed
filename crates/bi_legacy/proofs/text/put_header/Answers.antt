use Rattle.std.proofs.Common.{rules}
use Rattle.bi_legacy.proofs.text.put_header.Goals as goal

pub returns : goal.returns
returns g c = search (rules, g.met.P.Pen.puts_in_turn _ _ _ _ _ c.put.ensures c.put_name.ensures)
