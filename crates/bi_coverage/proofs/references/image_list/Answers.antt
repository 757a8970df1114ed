use Rattle.bi_coverage.proofs.ReferenceLists.{other_lists_none, value_lists}
use Rattle.std.proofs.Common.{sym, ◌∙◌}
use Rattle.bi_coverage.proofs.references.image_list.Goals as goal

pub returns-then-is_other_name : goal.returns-then-is_other_name
returns-then-is_other_name c =
    other_lists_none (c.args.property.name.now, c.args.property.value.now) (sym c.is_other_name.ensures ∙ c.if-is_other_name.true)

pub returns : goal.returns
returns c =
    value_lists (c.args.property.name.now, c.args.property.value.now) c.list_of_names.result
    (sym c.is_other_name.ensures ∙ c.if-is_other_name.false) c.list_of_names.ensures
