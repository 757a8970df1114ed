use Rattle.std.proofs.Common.{◌≡◌, ℕ, List, Bool, map, filter, flat_map}
use Rattle.bi_blob.specs.Layout.{is_among}
use Rattle.bi_blob.specs.Tree.{names, property_of}
use Rattle.bi_fit.specs.Content.{tree_of}
use Rattle.bi_coverage.specs.Paths.{with_all_new}
use Rattle.bi_coverage.specs.Signatures.{images_in, names_in_property}
use Rattle.bi_coverage.proofs.references.references.Given as goal

abbrev pub invariant-loop-property : goal.invariant-loop-property
invariant-loop-property l =
    let is_image : List ℕ → Bool = λ name. is_among name (names (images_in (tree_of l.fit))) in
    with_all_new l.found (filter is_image (flat_map names_in_property (map (λ keyed. property_of keyed.1) l.property-iterator)))
    ≡ with_all_new l.initial.found (filter is_image (flat_map names_in_property
    (map (λ keyed. property_of keyed.1) l.initial.property-iterator)))
