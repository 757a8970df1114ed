use Rattle.std.proofs.Common.{ap, ◌∙◌, arith}
use Rattle.bi_tree.specs.Properties.{tree_properties}
use Rattle.bi_tree.proofs.PropertyLists.{set_at, property_added_after}
use Rattle.bi_tree.proofs.properties.set_value.Goals as goal

pub returns-then-index-len-clause-set : goal.returns-then-index-len-clause-set
returns-then-index-len-clause-set c =
    set_at c.args.properties.now.items c.deref.result.now c.deref.ensures.value c.find_property-index.result
    c.args.property c.find_property-index.ensures.index
    (omega (arith, c.if-index-len.true, c.len.ensures))

pub returns-in_ok-push-clause-set : goal.returns-in_ok-push-clause-set
returns-in_ok-push-clause-set c =
    ap tree_properties c.in_ok-push.ensures.items
    ∙ property_added_after c.args.properties.now.items c.deref.result.now c.deref.ensures.value c.find_property-index.result
    c.args.property c.find_property-index.ensures.index
    (omega (arith, c.if-index-len.false, c.len.ensures, c.find_property-index.ensures.within, c.deref.ensures.len))
