use Rattle.std.proofs.Common.{◌≡◌, length, suc, ap, rules}
use Rattle.std.specs.Option.{option_map}
use Rattle.bi_fdt.specs.Views.{node_of}
use Rattle.bi_blob.specs.Lookups.{siblings_from}
use Rattle.bi_fit.proofs.Siblings.{from_next}
use Rattle.bi_fit.proofs.nodes.SiblingsIterator.next.Goals as goal

pub returns-clause-steps : goal.returns-clause-steps
returns-clause-steps c = from_next c.args.self.now.next c.next_sibling-self.result c.in_ok-node.node c.in_ok-node.was
    c.next_sibling-self.ensures.sibling

pub returns-clause-goes : goal.returns-clause-goes
returns-clause-goes c =
    let fewer : length (siblings_from (option_map node_of c.args.self.now.next))
    ≡ suc (length (siblings_from (option_map node_of c.next_sibling-self.result))) =
    ap length (from_next c.args.self.now.next c.next_sibling-self.result c.in_ok-node.node c.in_ok-node.was
    c.next_sibling-self.ensures.sibling) in
    search rules
