use Rattle.std.proofs.Common.{◌+◌, ◌≤◌, length}
use Rattle.bi_fit.proofs.CommonNumbers.{AreBegun}
use Rattle.bi_fit.proofs.comparing.orders.common_numbers.Given as goal

abbrev pub invariant-loop-number : goal.invariant-loop-number
invariant-loop-number l = record {
  begun : AreBegun l.found (length l.names) l.number-index l.next l.numbers.items;
  few : l.next ≤ length l.names + l.number-index;
}
