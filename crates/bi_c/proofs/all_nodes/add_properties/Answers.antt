use Rattle.std.proofs.Common.{◌∷◌, [], ◌++◌, List, append-nil, append_assoc, ap, map, sym, subst, ◌∙◌}
use Rattle.std.specs.List.{AllByRecursion}
use Rattle.bi_blob.specs.Tree.{FileProperty}
use Rattle.bi_fdt.specs.Properties.{file_property_of}
use Rattle.bi_c.specs.declared.all_nodes.TreeElement.{TreeElement}
use Rattle.bi_c.specs.TreeElements.{property_in_tree}
use Rattle.bi_c.specs.TreeRegions.{HasPropertyBytes}
use Rattle.bi_c.proofs.all_nodes.add_properties.Goals as goal

pub property_of_tree-requires-clause-regions : goal.property_of_tree-requires-clause-regions
property_of_tree-requires-clause-regions c =
    (subst (AllByRecursion (HasPropertyBytes c.args.file.now)) c.in-Some.ensures.steps c.loop-property.invariant.regions).0

pub loop-property-preserved : goal.loop-property-preserved
loop-property-preserved c =
    let file = c.args.file.now in
    let before : List TreeElement = c.loop-property.elements.items in
    let one : TreeElement = property_in_tree file c.args.above (file_property_of c.in-Some.property) in
    let later : List TreeElement = map (property_in_tree file c.args.above) c.next.new.self in
    record {
      so_far = ap (λ (l : List TreeElement). l ++ later)
          (c.in_ok-push.ensures.items ∙ ap (λ (e : TreeElement). before ++ e ∷ []) c.property_of_tree.ensures)
          ∙ append_assoc before (one ∷ []) later
          ∙ ap (λ (left : List FileProperty). before ++ map (property_in_tree file c.args.above) left) (sym c.in-Some.ensures.steps)
          ∙ c.loop-property.invariant.so_far;
      regions = (subst (AllByRecursion (HasPropertyBytes file)) c.in-Some.ensures.steps c.loop-property.invariant.regions).1;
    }

pub returns : goal.returns
returns c =
    let before : List TreeElement = c.loop-property.elements.items in
    sym (append-nil before)
    ∙ ap (λ (left : List FileProperty). before ++ map (property_in_tree c.args.file.now c.args.above) left) (sym c.in-None.ensures.steps.0)
    ∙ c.loop-property.invariant.so_far
