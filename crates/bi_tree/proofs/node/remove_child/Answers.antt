use Rattle.std.proofs.Common.{ap, ◌∙◌, arith}
use Rattle.bi_tree.specs.TreeNodes.{nodes_of_models}
use Rattle.bi_tree.proofs.NodeLists.{removed_at, kept_without}
use Rattle.bi_tree.proofs.node.remove_child.Goals as goal

pub returns-then-index-len : goal.returns-then-index-len
returns-then-index-len c =
    ap nodes_of_models c.remove.ensures.items
    ∙ removed_at c.args.children.now.items c.deref.result.now c.deref.ensures.value c.find_child-index.result
    c.args.name.now c.find_child-index.ensures.index (omega (arith, c.if-index-len.true, c.len.ensures))

pub returns-else-index-len : goal.returns-else-index-len
returns-else-index-len c =
    kept_without c.args.children.now.items c.deref.result.now c.deref.ensures.value c.find_child-index.result
    c.args.name.now c.find_child-index.ensures.index
    (omega (arith, c.if-index-len.false, c.len.ensures, c.find_child-index.ensures.within, c.deref.ensures.len))
