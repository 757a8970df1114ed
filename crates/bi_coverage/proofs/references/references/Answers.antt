use Rattle.std.proofs.Common.{ℕ, List, Bool, filter, flat_map, map, sym, ap, ◌∙◌}
use Rattle.bi_blob.specs.Layout.{is_among}
use Rattle.bi_blob.specs.Tree.{names, property_of}
use Rattle.bi_fdt.specs.Properties.{file_property_of}
use Rattle.bi_fdt.specs.Order.{KeyedProperty}
use Rattle.bi_fit.specs.Content.{tree_of}
use Rattle.bi_coverage.specs.Paths.{with_all_new}
use Rattle.bi_coverage.specs.Signatures.{images_in, names_in_property}
use Rattle.bi_coverage.proofs.ReferenceLists.{list_first}
use Rattle.bi_coverage.proofs.references.references.Goals as goal

pub loop-property-preserved-in-Continue-branch-2 : goal.loop-property-preserved-in-Continue-branch-2
loop-property-preserved-in-Continue-branch-2 c =
    let is_image : List ℕ → Bool = λ name. is_among name (names (images_in (tree_of c.args.fit.now))) in
    let property = property_of (file_property_of c.in-Some.property) in
    let left = map (λ (keyed : KeyedProperty). property_of keyed.1) c.next.new.self in
    ap (λ held. with_all_new held (filter is_image (flat_map names_in_property left))) c.in_ok-add_images.ensures
    ∙ sym (list_first is_image c.loop-property.found property left c.in-Some-image_list.list.now c.in-Some-image_list.ensures)
    ∙ ap (λ l. with_all_new c.loop-property.found (filter is_image (flat_map names_in_property
    (map (λ (keyed : KeyedProperty). property_of keyed.1) l))))
    (sym c.in-Some.ensures.steps)
    ∙ c.loop-property.invariant
