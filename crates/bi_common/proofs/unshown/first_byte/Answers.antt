use Rattle.bi_common.proofs.UnshownNames.{first_and_rest, no_first_byte}
use Rattle.bi_common.proofs.unshown.first_byte.Goals as goal

pub returns-then-first-eq37-clause-none : goal.returns-then-first-eq37-clause-none
returns-then-first-eq37-clause-none c = no_first_byte c.args.text.now _ c.escaped_byte.result
    (first_and_rest c.args.text.now 37 c.in-len1-up.len_at_least c.if-first-eq37.true) c.escaped_byte.ensures.none
