use Rattle.std.proofs.Common.{sym, ap, subst, ◌∙◌}
use Rattle.bi_blob.specs.Tree.{AreDistinct, AreProperties, EachOwn, names, properties_of}
use Rattle.bi_blob.specs.Lookups.{root_node}
use Rattle.bi_fdt.specs.Content.{Blob, root_of}
use Rattle.bi_fit.specs.Content.{FitModel}
use Rattle.bi_fit.specs.NormalNodes.{HasDistinctNames}
use Rattle.bi_fit.proofs.FileConfigurations.{names_are_distinct}
use Rattle.bi_fit.proofs.NormalTrees.{held_distinct, held_nodes}
use Rattle.bi_describe.proofs.describe.image_nodes.entries_of.Goals as goal

pub add_properties-requires-clause-distinct : goal.add_properties-requires-clause-distinct
add_properties-requires-clause-distinct c =
    let root = c.root-root.ensures.root ∙ ap (λ (blob : Blob). root_node (root_of blob))
    (c.blob.ensures ∙ ap (λ (content : FitModel). content.blob) c.fit.ensures) in
    subst (λ s. HasDistinctNames s.own) (sym root) (held_distinct c.args.bounded.fit.now c.requires.held).0

pub add_root_children-requires-clause-distinct : goal.add_root_children-requires-clause-distinct
add_root_children-requires-clause-distinct c =
    let root = c.root-root.ensures.root ∙ ap (λ (blob : Blob). root_node (root_of blob))
    (c.blob.ensures ∙ ap (λ (content : FitModel). content.blob) c.fit.ensures) in
    subst (λ s. EachOwn HasDistinctNames s.children) (sym root) (held_distinct c.args.bounded.fit.now c.requires.held).1

pub add_root_children-requires-clause-names : goal.add_root_children-requires-clause-names
add_root_children-requires-clause-names c =
    let root = c.root-root.ensures.root ∙ ap (λ (blob : Blob). root_node (root_of blob))
    (c.blob.ensures ∙ ap (λ (content : FitModel). content.blob) c.fit.ensures) in
    let nodes = (root_of c.args.bounded.fit.now.blob).children in
    subst (λ s. AreDistinct (names s.children)) (sym root)
    (names_are_distinct (λ own. AreProperties (properties_of own)) nodes (held_nodes c.args.bounded.fit.now c.requires.held))
