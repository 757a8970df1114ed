use Rattle.std.proofs.Common.{◌≡◌, ◌+◌, ◌≤◌, drop}
use Rattle.bi_base.specs.Slices.{bytes_of}
use Rattle.bi_fit.specs.Content.{tree_of}
use Rattle.bi_coverage.specs.Signatures.{parts_for, paths_of_parts, total_length}
use Rattle.bi_coverage.proofs.NeededLengths.{references_length}
use Rattle.bi_coverage.proofs.reading.IndexedFit.needed_length.Given as goal

abbrev pub invariant-loop-image : goal.invariant-loop-image
invariant-loop-image l = record {
  is_length : l.length + references_length (tree_of l.self.content) (bytes_of (drop l.image-index l.references))
      ≡ total_length (paths_of_parts (parts_for (tree_of l.self.content) l.name (bytes_of l.references)));
  within : l.length ≤ l.self.limit;
}
