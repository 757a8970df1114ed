use Rattle.std.proofs.Common.{◌≤◌, ◌<◌, ℕ, ◌+◌, ◌-◌, ◌*◌}
use Rattle.bi_blob.specs.BlobFaults.{IsEndPair}
use Rattle.bi_fdt.proofs.reservations.count_reservations.Given as goal

abbrev pub invariant-loop-count : goal.invariant-loop-count
invariant-loop-count l = record {
  before : (index : ℕ) → index < l.count → ¬ (IsEndPair l.file (l.at + 16 * index));
  fits : l.at + 16 * l.count ≤ l.total;
}

abbrev pub decreases-loop-count : goal.decreases-loop-count
decreases-loop-count l = l.total - l.count
