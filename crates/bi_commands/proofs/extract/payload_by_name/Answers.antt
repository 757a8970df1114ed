use Rattle.std.proofs.Common.{ap, sym, ◌∙◌}
use Rattle.bi_commands.proofs.Choices.{choice_at, chosen_by_name, payload_chosen, payload_missing}
use Rattle.bi_commands.proofs.extract.payload_by_name.Goals as goal

pub returns-in_default-clause-failed : goal.returns-in_default-clause-failed
returns-in_default-clause-failed c =
    chosen_by_name c.args.fit.now c.args.name.now c.requires.held ∙ ap (choice_at c.args.fit.now.images) (sym c.in_default.ensures)

pub returns-clause-chosen : goal.returns-clause-chosen
returns-clause-chosen c =
    rw (c.ok_or.ensures.value) (payload_chosen c.args.fit.now c.args.name.now c.in-Some.index c.payload.result c.requires.held
    c.in-Some.ensures c.payload.ensures)

pub returns-clause-failed : goal.returns-clause-failed
returns-clause-failed c =
    rw (c.ok_or.ensures.value) (payload_missing c.args.fit.now c.args.name.now c.in-Some.index c.payload.result c.requires.held
    c.in-Some.ensures c.payload.ensures)
