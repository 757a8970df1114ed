use Rattle.bi_base.specs.Slices.{bytes_of}
use Rattle.bi_tree.specs.TreeNodes.{below}
use Rattle.bi_tree.proofs.StayingNumbers.{numbers_stay}
use Rattle.bi_plain.proofs.payloads.set_payloads.Goals as goal

pub invariant_of-tree-2 : goal.invariant_of-tree-2
invariant_of-tree-2 c =
    let names = bytes_of c.tree.inside.names.items in
    let more = bytes_of c.number_name.new.names.items in
    record {
      distinct = c.number_name.ensures.distinct c.tree.invariant.distinct;
      numbered = c.set_root_payloads.ensures.numbered more c.in_ok-number.ensures.number
          ((numbers_stay names (below c.tree.inside.root) c.tree.invariant.numbered).more more c.number_name.ensures.more);
    }
