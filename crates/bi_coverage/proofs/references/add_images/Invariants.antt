use Rattle.std.proofs.Common.{◌≡◌, ℕ, List, Bool, filter, length}
use Rattle.bi_blob.specs.Layout.{is_among}
use Rattle.bi_blob.specs.Tree.{names}
use Rattle.bi_fit.specs.Content.{tree_of}
use Rattle.bi_fit.specs.Judgement.{listed_names}
use Rattle.bi_coverage.specs.Paths.{with_all_new}
use Rattle.bi_coverage.specs.Signatures.{images_in}
use Rattle.bi_coverage.proofs.references.add_images.Given as goal

abbrev pub invariant-loop-name : goal.invariant-loop-name
invariant-loop-name l =
    let is_image : List ℕ → Bool = λ name. is_among name (names (images_in (tree_of l.fit))) in
    with_all_new l.found (filter is_image (listed_names l.rest))
    ≡ with_all_new l.initial.found (filter is_image (listed_names l.value))

abbrev pub decreases-loop-name : goal.decreases-loop-name
decreases-loop-name l = length l.rest
