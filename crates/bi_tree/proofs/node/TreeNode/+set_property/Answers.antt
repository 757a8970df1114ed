use Rattle.std.proofs.Common.{◌-◌, [], suc, length, take, drop, refl, sym, ap, ◌∙◌, Result, Ok, Err, OnErr}
use Rattle.bi_tree.specs.Changes.{with_node, with_new_node, with_node_at}
use Rattle.bi_tree.specs.Properties.{tree_properties, tree_property, with_property_at}
use Rattle.bi_tree.specs.TreeNodes.{below}
use Rattle.bi_base.specs.Slices.{bytes_of}
use Rattle.bi_tree.proofs.ChangedTrees.{first_name, path_is, set_below}
use Rattle.bi_tree.proofs.NodeLists.{changed_at}
use Rattle.bi_tree.proofs.node.TreeNode.+set_property.Goals as goal

pub returns-clause-set : goal.returns-clause-set
returns-clause-set t c =
    let path = c.args.path.now in
    let later = bytes_of (take (length path - 1) (drop 1 path)) in
    let first = first_name path in
    let new = tree_property c.args.property in
    let items = c.child_or_new.new.children.items in
    let here = c.index_mut.result.now in
    let changed = changed_at items items refl c.in_ok-index.index first c.in_ok-index.ensures.index
    (with_property_at later new) c.set_property.new.self here c.in_ok-index.ensures.within
    (c.in_ok-set_property.ensures.name ∙ ap (λ node. node.name) c.index_mut.ensures.value)
    (c.in_ok-set_property.ensures.set
    ∙ ap (λ node. with_property_at later new (below node)) c.index_mut.ensures.value) in
    ap (λ nodes. record { own = tree_properties c.self.inside.properties.items; children = nodes })
    (changed ∙ ap (λ nodes. with_node first (with_property_at later new) nodes) c.in_ok-index.ensures.nodes)
    ∙ sym
    (ap (λ names. with_property_at names new (below c.args.self.now))
    (path_is path c.in-len1-up.len_at_least)
    ∙ set_below first later new (below c.args.self.now)
    ∙ ap (λ top. record {
      own = top.own;
      children = with_node first (with_property_at later new) (with_new_node [] first top.children);
    })
    (sym c.self.view_is))

-- What holds in any case holds after an error.
on_error : {T E P : Type 0} (result : Result T E) → P → OnErr result P
on_error (Ok value) holds = tt
on_error (Err error) holds = holds

pub returns-in_err-set_property-clause-failed : goal.returns-in_err-set_property-clause-failed
returns-in_err-set_property-clause-failed t c =
    let path = c.args.path.now in
    let later = bytes_of (take (length path - 1) (drop 1 path)) in
    let first = first_name path in
    let items = c.child_or_new.new.children.items in
    let here = c.index_mut.result.now in
    let some = c.in_err-set_property.ensures.failed in
    let changed = changed_at items items refl c.in_ok-index.index first c.in_ok-index.ensures.index
    (with_node_at [] (take some.0 later)) c.set_property.new.self here c.in_ok-index.ensures.within
    (c.in_err-set_property.ensures.name ∙ ap (λ node. node.name) c.index_mut.ensures.value)
    (some.1 ∙ ap (λ node. with_node_at [] (take some.0 later) (below node)) c.index_mut.ensures.value) in
    on_error c.from_residual-in_err-set_property.result (
      suc some.0,
      ap (λ nodes. record { own = tree_properties c.self.inside.properties.items; children = nodes })
          (changed ∙ ap (λ nodes. with_node first (with_node_at [] (take some.0 later)) nodes) c.in_ok-index.ensures.nodes)
          ∙ sym
          (ap (λ names. with_node_at [] (take (suc some.0) names) (below c.args.self.now))
          (path_is path c.in-len1-up.len_at_least)
          ∙ ap (λ top. record {
            own = top.own;
            children = with_node first (with_node_at [] (take some.0 later)) (with_new_node [] first top.children);
          })
          (sym c.self.view_is)),
    )
