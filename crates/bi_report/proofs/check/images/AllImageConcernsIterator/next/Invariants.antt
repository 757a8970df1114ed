use Rattle.std.proofs.Common.{◌≡◌, length}
use Rattle.bi_common.specs.HashedImages.{hashed_left}
use Rattle.bi_report.specs.ConcernsLeft.{images_left}
use Rattle.bi_report.proofs.check.images.AllImageConcernsIterator.next.Given as goal

-- The concerns that are left are all.
abbrev pub invariant-loop-self : goal.invariant-loop-self
invariant-loop-self l = images_left l.self ≡ images_left l.initial.self

abbrev pub decreases-loop-self : goal.decreases-loop-self
decreases-loop-self l = length (hashed_left l.self.images)
