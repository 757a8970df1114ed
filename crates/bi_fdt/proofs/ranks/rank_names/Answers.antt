use Rattle.bi_fdt.proofs.NameOrders.{ranks_are}
use Rattle.bi_fdt.proofs.ranks.rank_names.Goals as goal

pub returns : goal.returns
returns c =
    ranks_are c.args.names.now c.in_ok-order.order.items c.deref.result.now c.deref-2.result.now
    c.in_ok-names_of_order.field-0.items c.in_ok-ranks_of_order.field-0.items c.in_ok-order.ensures c.deref.ensures.value
    c.in_ok-names_of_order.ensures c.deref-2.ensures.value c.in_ok-ranks_of_order.ensures
