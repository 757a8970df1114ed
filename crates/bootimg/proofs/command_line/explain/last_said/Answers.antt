use Rattle.bootimg.proofs.LastSaid.{after_no_colon, after_this_colon, last_at_end}
use Rattle.bootimg.proofs.command_line.explain.last_said.Goals as goal

pub loop-rest-preserved-in-Some : goal.loop-rest-preserved-in-Some
loop-rest-preserved-in-Some c =
    after_this_colon c.args.text.now c.loop-rest.said.now c.loop-rest.rest.now c.in-Some.after.now c.in-Some.ensures.some
    c.loop-rest.invariant

pub loop-rest-preserved : goal.loop-rest-preserved
loop-rest-preserved c =
    after_no_colon c.args.text.now c.loop-rest.said.now c.loop-rest.rest.now c.in-len1-up.len_at_least
    c.in_default-after_colon.ensures.none c.loop-rest.invariant

pub returns : goal.returns
returns c = last_at_end c.args.text.now c.loop-rest.said.now c.loop-rest.rest.now c.in_default.len_below c.loop-rest.invariant
