use Rattle.std.proofs.Common.{◌≤◌, length, take}
use Rattle.bi_files.specs.MemoryFiles.{recorded_names, IsOccupantToo}
use Rattle.bi_files.proofs.memory_files.MemoryFiles.find.Given as goal

-- What was found of the wanted name before the steps that were seen is found of the name after all.
abbrev pub invariant-loop-left : goal.invariant-loop-left
invariant-loop-left l = record {
  within : l.left ≤ length l.self.log.items;
  same : IsOccupantToo (recorded_names (take l.left l.self.log.items) l.wanted) (recorded_names l.self.log.items l.fn.name);
}

abbrev pub decreases-loop-left : goal.decreases-loop-left
decreases-loop-left l = l.left
