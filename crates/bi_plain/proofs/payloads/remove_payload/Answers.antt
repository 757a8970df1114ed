use Rattle.std.proofs.Common.{Bool, ap, rules, ◌∙◌}
use Rattle.std.proofs.lemmas.Fn.{filter_same}
use Rattle.bi_tree.specs.Properties.{tree_properties}
use Rattle.bi_tree.specs.declared.properties.TreeProperty.{TreeProperty}
use Rattle.bi_plain.proofs.OwnPayloads.{kept_are, stays}
use Rattle.bi_plain.proofs.payloads.remove_payload.Goals as goal

pub returns : goal.returns
returns c =
    let keeps : TreeProperty → Bool = λ property. stays property.name.now in
    let kept = filter_same _ keeps _ (λ x b f' t. search rules) _ _ c.retain.ensures.filtered in
    ap tree_properties kept ∙ kept_are c.args.properties.now.items
