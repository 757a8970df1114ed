use Rattle.std.proofs.Common.{◌≡◌, ◌<◌, length, map, take}
use Rattle.std.specs.List.{AllByRecursion}
use Rattle.bi_c.specs.PlanBuilding.{algorithm_of}
use Rattle.bi_c.proofs.plan_building.algorithms_of.Given as goal

-- The numbers so far are those of algorithms, and the algorithms are theirs.
abbrev pub invariant-loop-number : goal.invariant-loop-number
invariant-loop-number l = record {
  inside : AllByRecursion (λ number. number < 6) (take l.number-index l.numbers);
  counted : length l.algorithms.items ≡ l.number-index;
  so_far : l.algorithms.items ≡ map algorithm_of (take l.number-index l.numbers);
}
