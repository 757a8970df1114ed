use Rattle.std.proofs.Common.{ℕ, [], Vec, Global, Option, option_map, sym, ap, subst, ◌∙◌}
use Rattle.bi_fit.specs.Names.{value_name}
use Rattle.bi_tree.specs.Properties.{TreePropertyModel}
use Rattle.bi_tree.specs.TreeNodes.{below}
use Rattle.bi_tree.specs.Trees.{IsNumberedTree, tree_by_name}
use Rattle.bi_tree.proofs.ChangesByName.{changes_by_name}
use Rattle.bi_tree.proofs.StayingNumbers.{numbers_stay}
use Rattle.bi_edit.specs.PayloadDigests.{with_digest_if}
use Rattle.bi_edit.proofs.applying.digests.set_value.Goals as goal

pub returns-in_ok-set_property-clause-set : goal.returns-in_ok-set_property-clause-set
returns-in_ok-set_property-clause-set c =
    let old = below c.args.node.now in
    let new : TreePropertyModel = record { name = value_name; number = c.args.number; value = c.in-Some.digest.items } in
    ap tree_by_name c.in_ok-set_property.ensures.set
    ∙ changes_by_name.value old [] new
    ∙ ap (λ (digest : Option (Vec ℕ Global)). with_digest_if (option_map (λ bytes. bytes.items) digest) (tree_by_name old))
    (sym c.in-Some.is)

pub returns-in_ok-set_property-clause-numbered : goal.returns-in_ok-set_property-clause-numbered
returns-in_ok-set_property-clause-numbered c names is all =
    let new : TreePropertyModel = record { name = value_name; number = c.args.number; value = c.in-Some.digest.items } in
    subst (IsNumberedTree names) (sym c.in_ok-set_property.ensures.set)
    ((numbers_stay names (below c.args.node.now) all).value [] new is)
