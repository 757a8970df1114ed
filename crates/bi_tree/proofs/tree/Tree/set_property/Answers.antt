use Rattle.std.proofs.Common.{ap, take, subst, sym, ◌∙◌}
use Rattle.std.specs.Cow.{cow_slice_items}
use Rattle.bi_base.specs.Slices.{bytes_of}
use Rattle.bi_tree.specs.TreeNodes.{below}
use Rattle.bi_tree.specs.Trees.{IsNumberedTree, tree_by_name, with_value_by_path}
use Rattle.bi_tree.proofs.ChangesByName.{changes_by_name}
use Rattle.bi_tree.proofs.StayingNumbers.{numbered_with_nodes, numbers_stay}
use Rattle.bi_tree.proofs.tree.Tree.set_property.Goals as goal

pub invariant_of-self-in_err-set_property : goal.invariant_of-self-in_err-set_property
invariant_of-self-in_err-set_property c =
    let some = c.in_err-set_property.ensures.failed in
    let names = bytes_of c.self.inside.names.items in
    let more = bytes_of c.number_name.new.names.items in
    record {
      distinct = c.number_name.ensures.distinct c.self.invariant.distinct;
      numbered = subst (IsNumberedTree more) (sym some.1)
          (numbered_with_nodes more (take some.0 (bytes_of c.args.path.now)) (below c.self.inside.root)
          ((numbers_stay names (below c.self.inside.root) c.self.invariant.numbered).more more c.number_name.ensures.more));
    }

pub invariant_of-self-2 : goal.invariant_of-self-2
invariant_of-self-2 c =
    let names = bytes_of c.self.inside.names.items in
    let more = bytes_of c.number_name.new.names.items in
    record {
      distinct = c.number_name.ensures.distinct c.self.invariant.distinct;
      numbered = subst (IsNumberedTree more) (sym c.in_ok-set_property.ensures.set)
          ((numbers_stay more (below c.self.inside.root)
          ((numbers_stay names (below c.self.inside.root) c.self.invariant.numbered).more more c.number_name.ensures.more)).value
          (bytes_of c.args.path.now)
          (record { name = c.args.name.now; number = c.in_ok-number.number; value = cow_slice_items c.args.value })
          c.in_ok-number.ensures.number);
    }

pub returns : goal.returns
returns c =
    let path = bytes_of c.args.path.now in
    let value = cow_slice_items c.args.value in
    ap tree_by_name c.in_ok-set_property.ensures.set
    ∙ changes_by_name.value (below c.self.inside.root) path
    (record { name = c.args.name.now; number = c.in_ok-number.number; value = value })
    ∙ ap (with_value_by_path path c.args.name.now value) c.self.view_is
