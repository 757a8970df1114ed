use Rattle.std.proofs.Common.{length, drop, take, sym, ◌∙◌, ◌-◌}
use Rattle.bi_common.proofs.UnshownNames.{first_and_rest}
use Rattle.bi_values.proofs.Steps.{split_at, split_at_end}
use Rattle.bi_values.proofs.paths.split_step.Goals as goal

pub returns-in-Some-clause-some : goal.returns-in-Some-clause-some
returns-in-Some-clause-some c =
    let text = c.args.text.now in
    split_at text (take (length text - 1) (drop 1 text)) c.in-Some.end
    (first_and_rest text 47 c.in-len1-up.len_at_least c.if-first-ne47.false) (sym c.position_of_slash.ensures ∙ c.in-Some.is)

pub returns-in-None-clause-some : goal.returns-in-None-clause-some
returns-in-None-clause-some c =
    let text = c.args.text.now in
    split_at_end text (take (length text - 1) (drop 1 text))
    (first_and_rest text 47 c.in-len1-up.len_at_least c.if-first-ne47.false) (sym c.position_of_slash.ensures ∙ c.in-None.is)
