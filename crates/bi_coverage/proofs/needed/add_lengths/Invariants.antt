use Rattle.std.proofs.Common.{◌≡◌, ◌+◌, ◌*◌, ◌≤◌}
use Rattle.bi_coverage.proofs.needed.add_lengths.Given as goal

abbrev pub invariant-addition : goal.invariant-addition
invariant-addition l = record {
  is_sum : l.sum + l.left * l.length ≡ l.total + l.count * l.length;
  within : l.sum ≤ l.limit;
}

abbrev pub decreases-addition : goal.decreases-addition
decreases-addition l = l.left
