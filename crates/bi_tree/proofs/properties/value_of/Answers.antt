use Rattle.std.proofs.Common.{Some, None, ap, ◌∙◌}
use Rattle.bi_tree.proofs.PropertyLists.{property_value_at}
use Rattle.bi_tree.proofs.properties.value_of.Goals as goal

pub returns-in-Some : goal.returns-in-Some
returns-in-Some c =
    ap Some c.as_slice.ensures.value
    ∙ property_value_at c.args.properties.now c.args.name.now c.find_property-index.result (Some c.in-Some.property)
    c.find_property-index.ensures.index c.in-Some.ensures.lookup.3

pub returns-in-None : goal.returns-in-None
returns-in-None c =
    property_value_at c.args.properties.now c.args.name.now c.find_property-index.result None c.find_property-index.ensures.index
    c.in-None.ensures.lookup.3
