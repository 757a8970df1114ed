use Rattle.std.proofs.Common.{ℕ, List, map, sym, ap, subst, ◌∙◌, arith}
use Rattle.std.proofs.lemmas.List.{length-map}
use Rattle.bi_blob.specs.Tree.{FileProperty}
use Rattle.bi_fdt.specs.Views.{node_of}
use Rattle.bi_c.specs.Answers.{answer_of}
use Rattle.bi_c.specs.NodeElements.{element_of_property}
use Rattle.bi_c.proofs.ArrayFilling.{IsFilling, array_is_short, array_is_filled}
use Rattle.bi_c.proofs.properties.fill_properties.Goals as goal

pub returns-then-elements-count : goal.returns-then-elements-count
returns-then-elements-count c =
    let properties = (node_of c.args.node).own.properties in
    let count = c.property_count-count.ensures ∙ sym (length-map properties (element_of_property c.args.file.now)) in
    array_is_short _ (map (element_of_property c.args.file.now) properties) 0 c.args.elements.now _
    (c.answer_with.ensures ∙ ap (λ (n : ℕ). answer_of n 0) count) (omega (arith, count, c.if-elements-count.true))

pub returns : goal.returns
returns c =
    let properties = (node_of c.args.node).own.properties in
    let all = map (element_of_property c.args.file.now) properties in
    let count = c.property_count-count.ensures ∙ sym (length-map properties (element_of_property c.args.file.now)) in
    array_is_filled _ all 0 c.loop-property.index c.args.elements.now c.loop-property.elements _
    (c.answer_with.ensures ∙ ap (λ (n : ℕ). answer_of n 0) count)
    (subst (λ (left : List FileProperty). IsFilling all (map (element_of_property c.args.file.now) left) c.loop-property.index
    c.args.elements.now c.loop-property.elements) c.in-None.ensures.steps.0 c.loop-property.invariant.filling)
