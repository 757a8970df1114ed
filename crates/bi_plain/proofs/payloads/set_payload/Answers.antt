use Rattle.std.proofs.Common.{◌≡◌, ℕ, List, [], None, Option, Bor, take, option_map, sym, ap, subst, ◌∙◌}
use Rattle.bi_blob.specs.Tree.{Root, with_each}
use Rattle.bi_fit.specs.Names.{data_name}
use Rattle.bi_tree.specs.Properties.{TreePropertyModel, tree_properties}
use Rattle.bi_tree.specs.TreeNodes.{below, nodes_of_models}
use Rattle.bi_tree.specs.Trees.{IsNumberedTree, by_name, tree_by_name, with_value_by_path}
use Rattle.bi_tree.proofs.ChangesByName.{changes_by_name}
use Rattle.bi_tree.proofs.StayingNumbers.{numbered_with_nodes, numbers_stay}
use Rattle.bi_plain.specs.PlainNodes.{with_own_payload, without_payload_names}
use Rattle.bi_plain.proofs.OwnPayloads.{numbered_kept, without_payload_by_name}
use Rattle.bi_plain.proofs.payloads.set_payload.Goals as goal

-- A node after the properties of payloads were taken out.
abbrev emptied : Root (List TreePropertyModel) → Root (List TreePropertyModel)
emptied root = record { own = without_payload_names root.own; children = root.children }

numbered_emptied : (names : List (List ℕ)) (root : Root (List TreePropertyModel)) → IsNumberedTree names root →
    IsNumberedTree names (emptied root)
numbered_emptied names root all = (numbered_kept names root.own all.0, all.1, tt)

emptied_by_name : (root : Root (List TreePropertyModel)) → tree_by_name (emptied root) ≡ with_own_payload None (tree_by_name root)
emptied_by_name root =
    ap (λ own. record { own = own; children = with_each by_name root.children }) (without_payload_by_name root.own)

pub returns-in_err-set_property-clause-numbered : goal.returns-in_err-set_property-clause-numbered
returns-in_err-set_property-clause-numbered c names is all =
    let nodes = nodes_of_models c.node.inside.children.items in
    let was : Root (List TreePropertyModel) =
    record { own = tree_properties c.remove_payload.new.properties.items; children = nodes } in
    let was_is : was ≡ emptied (below c.args.node.now) =
    ap (λ own. record { own = own; children = nodes }) c.remove_payload.ensures ∙ ap (λ top. emptied (below top)) c.node.view_is in
    let some = c.in_err-set_property.ensures.failed in
    subst (IsNumberedTree names) (sym some.1)
    (numbered_with_nodes names (take some.0 []) was
    (subst (IsNumberedTree names) (sym was_is) (numbered_emptied names (below c.args.node.now) all)))

pub returns-in_ok-set_property-clause-set : goal.returns-in_ok-set_property-clause-set
returns-in_ok-set_property-clause-set c =
    let nodes = nodes_of_models c.node.inside.children.items in
    let was : Root (List TreePropertyModel) =
    record { own = tree_properties c.remove_payload.new.properties.items; children = nodes } in
    let was_is : was ≡ emptied (below c.args.node.now) =
    ap (λ own. record { own = own; children = nodes }) c.remove_payload.ensures ∙ ap (λ top. emptied (below top)) c.node.view_is in
    let new : TreePropertyModel = record { name = data_name; number = c.args.number; value = c.in-Some.payload.now } in
    ap tree_by_name c.in_ok-set_property.ensures.set
    ∙ changes_by_name.value was [] new
    ∙ ap (with_value_by_path [] data_name c.in-Some.payload.now) (ap tree_by_name was_is ∙ emptied_by_name (below c.args.node.now))
    ∙ ap (λ (payload : Option (Bor (List ℕ))). with_own_payload (option_map (λ payload. payload.now) payload)
    (tree_by_name (below c.args.node.now))) (sym c.in-Some.is)

pub returns-in_ok-set_property-clause-numbered : goal.returns-in_ok-set_property-clause-numbered
returns-in_ok-set_property-clause-numbered c names is all =
    let nodes = nodes_of_models c.node.inside.children.items in
    let was : Root (List TreePropertyModel) =
    record { own = tree_properties c.remove_payload.new.properties.items; children = nodes } in
    let was_is : was ≡ emptied (below c.args.node.now) =
    ap (λ own. record { own = own; children = nodes }) c.remove_payload.ensures ∙ ap (λ top. emptied (below top)) c.node.view_is in
    let new : TreePropertyModel = record { name = data_name; number = c.args.number; value = c.in-Some.payload.now } in
    subst (IsNumberedTree names) (sym c.in_ok-set_property.ensures.set)
    ((numbers_stay names was
    (subst (IsNumberedTree names) (sym was_is) (numbered_emptied names (below c.args.node.now) all))).value [] new is)

pub returns-in_default-clause-set : goal.returns-in_default-clause-set
returns-in_default-clause-set c =
    let nodes = nodes_of_models c.node.inside.children.items in
    let was : Root (List TreePropertyModel) =
    record { own = tree_properties c.remove_payload.new.properties.items; children = nodes } in
    let was_is : was ≡ emptied (below c.args.node.now) =
    ap (λ own. record { own = own; children = nodes }) c.remove_payload.ensures ∙ ap (λ top. emptied (below top)) c.node.view_is in
    ap tree_by_name was_is
    ∙ emptied_by_name (below c.args.node.now)
    ∙ ap (λ (payload : Option (Bor (List ℕ))). with_own_payload (option_map (λ payload. payload.now) payload)
    (tree_by_name (below c.args.node.now))) (sym c.in_default.is)

pub returns-in_default-clause-numbered : goal.returns-in_default-clause-numbered
returns-in_default-clause-numbered c names is all =
    let nodes = nodes_of_models c.node.inside.children.items in
    let was : Root (List TreePropertyModel) =
    record { own = tree_properties c.remove_payload.new.properties.items; children = nodes } in
    let was_is : was ≡ emptied (below c.args.node.now) =
    ap (λ own. record { own = own; children = nodes }) c.remove_payload.ensures ∙ ap (λ top. emptied (below top)) c.node.view_is in
    subst (IsNumberedTree names) (sym was_is) (numbered_emptied names (below c.args.node.now) all)
