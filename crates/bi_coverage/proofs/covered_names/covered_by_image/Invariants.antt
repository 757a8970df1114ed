use Rattle.std.proofs.Common.{◌≡◌, ◌++◌, map}
use Rattle.bi_blob.specs.Tree.{names}
use Rattle.bi_fit.specs.Siblings.{siblings_left}
use Rattle.bi_coverage.specs.Signatures.{covered_names}
use Rattle.bi_coverage.specs.Values.{names_in_lists}
use Rattle.bi_coverage.proofs.covered_names.covered_by_image.Given as goal

abbrev pub invariant-loop-image : goal.invariant-loop-image
invariant-loop-image l =
    names_in_lists l.found.items ++ map (λ image. covered_names (names image.children)) (siblings_left l.image-iterator)
    ≡ names_in_lists l.initial.found.items ++ map (λ image. covered_names (names image.children)) (siblings_left l.initial.image-iterator)
