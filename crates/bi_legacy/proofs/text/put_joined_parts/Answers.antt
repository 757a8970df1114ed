use Rattle.std.proofs.Common.{rules, take_all}
use Rattle.bi_legacy.proofs.TextPieces.{joined_slices}
use Rattle.bi_legacy.proofs.text.put_joined_parts.Goals as goal

pub returns : goal.returns
returns g c =
    let all = take_all c.loop-part.part-index c.in-Some.before.now c.loop-part-test.false in
    search (rules, c.in-Some.ensures.cases.0, joined_slices, all, g.met.P.Pen.puts_in_turn _ _ _ _ _ c.loop-part.invariant c.put.ensures)
