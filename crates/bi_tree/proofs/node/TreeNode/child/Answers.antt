use Rattle.std.proofs.Common.{sym, ap, ◌∙◌}
use Rattle.bi_tree.specs.Changes.{child_named}
use Rattle.bi_tree.proofs.NodeLists.{node_found_at, read_at}
use Rattle.bi_tree.proofs.node.TreeNode.child.Goals as goal

pub returns : goal.returns
returns c =
    let items = c.self.inside.children.items in
    read_at items c.deref-2.result.now c.find_child-index.result c.get.result c.deref-2.ensures.value c.get.ensures.lookup.3
    ∙ sym
    (node_found_at items c.deref.result.now c.deref.ensures.value c.find_child-index.result c.args.name.now
    c.find_child-index.ensures.index)
    ∙ ap (λ top. child_named top.children c.args.name.now) c.self.view_is
