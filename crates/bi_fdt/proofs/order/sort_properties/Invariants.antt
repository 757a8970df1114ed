use Rattle.bi_fdt.proofs.PropertyOrders.{AreInOrderBefore}
use Rattle.bi_fdt.proofs.order.sort_properties.Given as goal

abbrev pub invariant-loop-index : goal.invariant-loop-index
invariant-loop-index l = AreInOrderBefore l.blob.table l.index l.initial.pairs l.pairs
