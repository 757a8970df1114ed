use Rattle.std.proofs.Common.{◌<◌, length, sym, ◌∙◌, rules}
use Rattle.bi_labels.proofs.LinesInTexts.{first_line, last_line}
use Rattle.bi_labels.proofs.labelled_text.split_line.Goals as goal

pub returns-in-Some-clause-some : goal.returns-in-Some-clause-some
returns-in-Some-clause-some c = first_line c.args.text.now c.in-Some.end (sym c.position_of_newline.ensures ∙ c.in-Some.is)

pub returns-in-None-clause-some : goal.returns-in-None-clause-some
returns-in-None-clause-some c =
    let some : 0 < length c.args.text.now = search rules in
    last_line c.args.text.now some (sym c.position_of_newline.ensures ∙ c.in-None.is)
