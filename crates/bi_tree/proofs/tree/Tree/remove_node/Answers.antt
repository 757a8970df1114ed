use Rattle.std.proofs.Common.{sym, ap, subst, ◌∙◌}
use Rattle.bi_tree.specs.Changes.{without_node_at}
use Rattle.bi_tree.specs.TreeNodes.{below}
use Rattle.bi_base.specs.Slices.{bytes_of}
use Rattle.bi_tree.specs.Trees.{IsNumberedTree, tree_by_name}
use Rattle.bi_tree.proofs.ChangesByName.{changes_by_name}
use Rattle.bi_tree.proofs.StayingNumbers.{numbers_stay}
use Rattle.bi_tree.proofs.tree.Tree.remove_node.Goals as goal

pub invariant_of-self : goal.invariant_of-self
invariant_of-self c = record {
  distinct = c.self.invariant.distinct;
  numbered = subst (IsNumberedTree (bytes_of c.self.inside.names.items)) (sym c.remove_node.ensures.removed)
      ((numbers_stay (bytes_of c.self.inside.names.items) (below c.self.inside.root) c.self.invariant.numbered).removal
      (bytes_of c.args.path.now));
}

pub returns : goal.returns
returns c =
    let path = bytes_of c.args.path.now in
    ap tree_by_name c.remove_node.ensures.removed
    ∙ changes_by_name.removal (below c.self.inside.root) path
    ∙ ap (without_node_at path) c.self.view_is
