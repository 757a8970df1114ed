use Rattle.std.proofs.Common.{◌+◌, ◌<◌, ◌∷◌, drop, length, true, sym, ap, subst, ◌∙◌}
use Rattle.std.proofs.Math.ListN.{length-set}
use Rattle.std.proofs.lemmas.List.{at_drop_more}
use Rattle.std.specs.List.{AllByRecursion}
use Rattle.bi_tree.specs.Properties.{tree_properties}
use Rattle.bi_plain.specs.Ranked.{own_numbers, with_marks}
use Rattle.bi_plain.proofs.writer.names.mark_properties.Goals as goal

pub loop-property-preserved : goal.loop-property-preserved
loop-property-preserved c =
    let items = c.args.properties.now in
    let index = c.loop-property.property-index in
    let property = c.property-item.result in
    let marks = c.loop-property.marks in
    let left = at_drop_more (λ l. own_numbers (tree_properties l)) items index property c.loop-property-test.true
    ∙ ap (λ property. own_numbers (tree_properties (property ∷ drop (index + 1) items))) (sym c.property-item.is) in
    let rest = own_numbers (tree_properties (drop (index + 1) items)) in
    let all = subst (AllByRecursion (λ number. number < length marks)) left c.loop-property.invariant.1 in (
      sym (ap (λ numbers. with_marks numbers marks) left) ∙ c.loop-property.invariant.0,
      subst (λ n. AllByRecursion (λ number. number < n) rest) (sym (length-set marks property.number true)) all.1,
    )
