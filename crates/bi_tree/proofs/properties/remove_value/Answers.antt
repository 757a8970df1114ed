use Rattle.std.proofs.Common.{ap, ◌∙◌, arith}
use Rattle.bi_tree.specs.Properties.{tree_properties}
use Rattle.bi_tree.proofs.PropertyLists.{property_removed_at, property_kept_without}
use Rattle.bi_tree.proofs.properties.remove_value.Goals as goal

pub returns-then-index-len : goal.returns-then-index-len
returns-then-index-len c =
    ap tree_properties c.remove.ensures.items
    ∙ property_removed_at c.args.properties.now.items c.deref.result.now c.deref.ensures.value c.find_property-index.result
    c.args.name.now c.find_property-index.ensures.index (omega (arith, c.if-index-len.true, c.len.ensures))

pub returns-else-index-len : goal.returns-else-index-len
returns-else-index-len c =
    property_kept_without c.args.properties.now.items c.deref.result.now c.deref.ensures.value c.find_property-index.result
    c.args.name.now c.find_property-index.ensures.index
    (omega (arith, c.if-index-len.false, c.len.ensures, c.find_property-index.ensures.within, c.deref.ensures.len))
