use Rattle.std.proofs.Common.{◌≡◌, length, None}
use Rattle.bi_common.specs.HashedImages.{found_left}
use Rattle.bi_report.specs.ConcernsLeft.{image_left}
use Rattle.bi_report.proofs.check.images.ImageConcernsIterator.next.Given as goal

-- The concerns that are left are all, and none is left about a hash node before these.
abbrev pub invariant-loop-node : goal.invariant-loop-node
invariant-loop-node l = record {
  left : image_left l.self ≡ image_left l.fn.self;
  none : l.self.of_skipped ≡ None;
}

abbrev pub decreases-loop-node : goal.decreases-loop-node
decreases-loop-node l = length (found_left l.self.hashes)
