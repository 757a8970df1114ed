use Rattle.std.proofs.Common.{◌≡◌, take}
use Rattle.bi_fdt.specs.Order.{with_indices_from}
use Rattle.bi_fdt.proofs.order.pair_keys.Given as goal

abbrev pub invariant-loop-index : goal.invariant-loop-index
invariant-loop-index l = l.pairs.items ≡ with_indices_from 0 (take l.index l.keys)
