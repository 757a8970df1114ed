use Rattle.std.proofs.Common.{◌≡◌, map, take}
use Rattle.bi_base.specs.Slices.{bytes_of}
use Rattle.bi_fit.specs.Content.{tree_of}
use Rattle.bi_coverage.specs.Signatures.{parts_for}
use Rattle.bi_coverage.specs.NeededParts.{part_value}
use Rattle.bi_coverage.proofs.reading.IndexedFit.needed_parts.Given as goal

abbrev pub invariant-loop-image : goal.invariant-loop-image
invariant-loop-image l =
    map part_value l.parts.items ≡ parts_for (tree_of l.self.content) l.name (bytes_of (take l.image-index l.references))
