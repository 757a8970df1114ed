use Rattle.std.proofs.Common.{sym, ap, subst, ◌∙◌}
use Rattle.bi_tree.specs.TreeNodes.{below}
use Rattle.bi_base.specs.Slices.{bytes_of}
use Rattle.bi_tree.specs.Trees.{IsNumberedTree, tree_by_name, without_value_by_path}
use Rattle.bi_tree.proofs.ChangesByName.{changes_by_name}
use Rattle.bi_tree.proofs.StayingNumbers.{numbers_stay}
use Rattle.bi_tree.proofs.tree.Tree.remove_property.Goals as goal

pub invariant_of-self : goal.invariant_of-self
invariant_of-self c = record {
  distinct = c.self.invariant.distinct;
  numbered = subst (IsNumberedTree (bytes_of c.self.inside.names.items)) (sym c.remove_property.ensures.removed)
      ((numbers_stay (bytes_of c.self.inside.names.items) (below c.self.inside.root) c.self.invariant.numbered).property
      (bytes_of c.args.path.now) c.args.name.now);
}

pub returns : goal.returns
returns c =
    let path = bytes_of c.args.path.now in
    ap tree_by_name c.remove_property.ensures.removed
    ∙ changes_by_name.property (bytes_of c.self.inside.names.items) (below c.self.inside.root) path c.args.name.now
    c.self.invariant.numbered
    ∙ ap (without_value_by_path path c.args.name.now) c.self.view_is
