use Rattle.std.proofs.Common.{◌≢◌, ℕ, ◌*◌, ◌<◌, ◌≤◌, length, get_or, ◌-◌}
use Rattle.bi_legacy.specs.PartTables.{cells_of}
use Rattle.bi_legacy.proofs.part_table.count_sizes.Given as goal

abbrev pub invariant-loop-size : goal.invariant-loop-size
invariant-loop-size l =
    (4 * l.count ≤ length l.body) × ((k : ℕ) → k < l.count → get_or (cells_of l.body) k 0 ≢ 0)

abbrev pub decreases-loop-size : goal.decreases-loop-size
decreases-loop-size l = length l.body - 4 * l.count
