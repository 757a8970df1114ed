use Rattle.std.proofs.Common.{◌≡◌, ℕ, ◌<◌, length, get_or}
use Rattle.bi_fdt.specs.Ranks.{NumberedName, names_in}
use Rattle.bi_fdt.proofs.NameOrders.{HasRank}
use Rattle.bi_fdt.proofs.ranks.ranks_of_order.Given as goal

abbrev pub invariant-loop-rank : goal.invariant-loop-rank
invariant-loop-rank l = record {
  count : length l.ranks.items ≡ length l.order;
  ranked : (j : ℕ) (d : NumberedName) → j < l.rank → HasRank (names_in l.order) l.ranks.items (get_or l.order j d);
}
