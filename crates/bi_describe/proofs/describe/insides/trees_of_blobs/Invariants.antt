use Rattle.std.proofs.Common.{◌≤◌, ◌+◌, length, take}
use Rattle.bi_describe.specs.MadeInsides.{HoldBlobs, long_names_in}
use Rattle.bi_describe.proofs.describe.insides.trees_of_blobs.Given as goal

-- The trees of the blobs so far, and the room that their long names leave.
abbrev pub invariant-loop-blob : goal.invariant-loop-blob
invariant-loop-blob l = record {
  held : HoldBlobs l.index 0 (take (length l.yielded) l.fn.blobs.items) l.trees.items;
  room : l.limits.file ≤ l.room + long_names_in (take (length l.yielded) l.fn.blobs.items);
}
