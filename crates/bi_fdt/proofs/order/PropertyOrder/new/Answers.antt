use Rattle.std.proofs.Common.{arith, rules}
use Rattle.bi_fdt.proofs.PropertyOrders.{order_made, length-indices}
use Rattle.bi_fdt.proofs.order.PropertyOrder.new.Goals as goal

pub sort_properties-requires : goal.sort_properties-requires
sort_properties-requires c = search (rules, length-indices)

pub returns : goal.returns
returns c =
    order_made c.args.blob.now.table c.args.keys.now c.in_ok-pairs.pairs.len c.in_ok-pairs.pairs.items c.deref_mut.result.now
    c.sort_properties.new.pairs c.requires c.in_ok-pairs.ensures c.deref_mut.ensures.value c.sort_properties.ensures.count
    (omega (arith, c.in_ok-pairs.pairs.ok)) c.sort_properties.ensures.each
