use Rattle.std.proofs.Common.{ap, sym, ◌∙◌}
use Rattle.bi_commands.proofs.Choices.{choice_at, chosen_by_name}
use Rattle.bi_commands.specs.declared.extract.ExtractError.TheVariants.{NoPayload}
use Rattle.bi_c.proofs.Places.{in_ok_or, named_offset, named_payload_found, name_without_payload}
use Rattle.bi_c.proofs.regions.find_by_name.Goals as goal

pub returns-in_default-clause-failed : goal.returns-in_default-clause-failed
returns-in_default-clause-failed c =
    chosen_by_name c.args.fit.now c.args.name.now c.requires.held ∙ ap (choice_at c.args.fit.now.images) (sym c.in_default.ensures)

pub returns-clause-found : goal.returns-clause-found
returns-clause-found c =
    rw (c.ok_or.ensures.value) (named_payload_found c.args.fit.now c.args.name.now c.in-Some.index c.payload_at.result c.requires.held
    c.in-Some.ensures c.payload_at.ensures.found)

pub returns-clause-failed : goal.returns-clause-failed
returns-clause-failed c =
    rw (c.ok_or.ensures.value) (name_without_payload c.args.fit.now c.args.name.now c.in-Some.index c.payload_at.result c.requires.held
    c.in-Some.ensures c.payload_at.ensures.found)

pub returns-clause-offset : goal.returns-clause-offset
returns-clause-offset c =
    rw (c.ok_or.ensures.value) (in_ok_or _ c.payload_at.result NoPayload
    (named_offset c.args.fit.now c.args.name.now c.in-Some.index c.payload_at.result c.in-Some.ensures c.payload_at.ensures.offset))
