use Rattle.std.proofs.Common.{◌≡◌, take, All}
use Rattle.bi_fdt.specs.Ranks.{with_numbers_from}
use Rattle.bi_fdt.proofs.NameOrders.{HasItsPrefix}
use Rattle.bi_fdt.proofs.ranks.order_names.Given as goal

abbrev pub invariant-loop-number : goal.invariant-loop-number
invariant-loop-number l = record {
  numbered : l.order.items ≡ with_numbers_from 0 (take l.number l.names);
  prefixes : All HasItsPrefix l.order.items;
}
