use Rattle.std.proofs.Common.{◌≡◌, ◌+◌, ◌≤◌, drop}
use Rattle.bi_base.specs.Slices.{bytes_of}
use Rattle.bi_coverage.specs.Signatures.{image_part, paths_of_part, total_length}
use Rattle.bi_coverage.proofs.NeededLengths.{children_length}
use Rattle.bi_coverage.proofs.needed.add_image_length.Given as goal

abbrev pub invariant-loop-child : goal.invariant-loop-child
invariant-loop-child l = record {
  is_sum : l.sum + children_length l.image (bytes_of (drop l.child-index l.children))
      ≡ l.total + total_length (paths_of_part (image_part l.image (bytes_of l.children)));
  within : l.sum ≤ l.limit;
}
