use Rattle.std.proofs.Common.{◌≡◌, length}
use Rattle.bi_common.specs.HashedImages.{found_left}
use Rattle.bi_report.specs.ConcernValues.{used_left}
use Rattle.bi_report.proofs.used_hashes.UsedHashesIterator.next.Given as goal

-- The hash nodes that are left are all.
abbrev pub invariant-loop-node : goal.invariant-loop-node
invariant-loop-node l = used_left l.self ≡ used_left l.initial.self

abbrev pub decreases-loop-node : goal.decreases-loop-node
decreases-loop-node l = length (found_left l.self.hashes)
