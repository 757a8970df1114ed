use Rattle.std.proofs.Common.{◌-◌, length, take, drop, sym, ap, ◌∙◌, arith}
use Rattle.bi_tree.specs.Changes.{with_node, without_node_at}
use Rattle.bi_tree.specs.Properties.{tree_properties}
use Rattle.bi_tree.specs.TreeNodes.{below}
use Rattle.bi_base.specs.Slices.{bytes_of}
use Rattle.bi_tree.proofs.ChangedTrees.{first_name, path_is, removed_below, some_names}
use Rattle.bi_tree.proofs.NodeLists.{changed_at, not_changed}
use Rattle.bi_tree.proofs.node.TreeNode.+remove_node.Goals as goal

pub returns-then-index-len-clause-removed : goal.returns-then-index-len-clause-removed
returns-then-index-len-clause-removed t c =
    let path = c.args.path.now in
    let later = bytes_of (take (length path - 1) (drop 1 path)) in
    let items = c.self.inside.children.items in
    let changed = changed_at items c.deref.result.now c.deref.ensures.value c.find_child-index.result (first_name path)
    c.find_child-index.ensures.index (without_node_at later) c.remove_node.new.self c.index_mut.result.now
    (omega (arith, c.if-index-len.true, c.len.ensures))
    (c.remove_node.ensures.name ∙ ap (λ node. node.name) c.index_mut.ensures.value)
    (c.remove_node.ensures.removed ∙ ap (λ node. without_node_at later (below node)) c.index_mut.ensures.value) in
    ap (λ nodes. record { own = tree_properties c.self.inside.properties.items; children = nodes }) changed
    ∙ ap (λ top. record { own = top.own; children = with_node (first_name path) (without_node_at later) top.children })
    c.self.view_is
    ∙ sym (removed_below (first_name path) later (below c.args.self.now)
    (some_names (take (length path - 1) (drop 1 path)) (sym c.is_empty.ensures ∙ c.if-is_empty.false)))
    ∙ sym
    (ap (λ names. without_node_at names (below c.args.self.now))
    (path_is path c.in-len1-up.len_at_least))

pub returns-else-index-len-clause-removed : goal.returns-else-index-len-clause-removed
returns-else-index-len-clause-removed t c =
    let path = c.args.path.now in
    let later = bytes_of (take (length path - 1) (drop 1 path)) in
    let items = c.self.inside.children.items in
    let same = not_changed items c.deref.result.now c.deref.ensures.value c.find_child-index.result (first_name path)
    c.find_child-index.ensures.index (without_node_at later)
    (omega (arith, c.if-index-len.false, c.len.ensures, c.find_child-index.ensures.within, c.deref.ensures.len)) in
    sym (ap below c.self.view_is)
    ∙ ap (λ nodes. record { own = tree_properties c.self.inside.properties.items; children = nodes }) same
    ∙ ap (λ top. record { own = top.own; children = with_node (first_name path) (without_node_at later) top.children })
    c.self.view_is
    ∙ sym (removed_below (first_name path) later (below c.args.self.now)
    (some_names (take (length path - 1) (drop 1 path)) (sym c.is_empty.ensures ∙ c.if-is_empty.false)))
    ∙ sym
    (ap (λ names. without_node_at names (below c.args.self.now))
    (path_is path c.in-len1-up.len_at_least))
