use Rattle.std.proofs.Common.{◌≡◌, ◌≤◌, ◌-◌, List, [], ◌∷◌, get_or, take, drop, take_all, length, sym, ap, arith}
use Rattle.bi_fit.proofs.PayloadEnds.{no_image}
use Rattle.bi_fit.proofs.Siblings.{from_next}
use Rattle.bi_fit.proofs.nodes.ImagesWithNodesIterator.next.Goals as goal

-- A list that is not empty is its first element and the others.
first_and_others : {X : Type 0} (xs : List X) (d : X) → 1 ≤ length xs → xs ≡ get_or xs 0 d ∷ take (length xs - 1) (drop 1 xs)
first_and_others [] d some = absurd (omega arith)
first_and_others (x ∷ xs) d some = ap (λ (later : List _). x ∷ later) (sym (take_all (length (x ∷ xs) - 1) xs (omega arith)))

pub invariant_of-self : goal.invariant_of-self
invariant_of-self c =
    let nodes = ap length (from_next c.args.self.now.next c.next_sibling-self.result c.in_ok-node.node c.in_ok-node.was
    c.next_sibling-self.ensures.sibling) in
    let images = ap length (first_and_others c.args.self.now.images.now no_image c.in-len1-up.len_at_least) in
    record { paired = omega (arith, nodes, images, c.args.self.now.paired) }

pub returns-clause-steps : goal.returns-clause-steps
returns-clause-steps c = record {
  node = c.in_ok-node.was;
  sibling = c.next_sibling-self.ensures.sibling;
  same_table = c.next_sibling-self.ensures.same_table;
  nodes = from_next c.args.self.now.next c.next_sibling-self.result c.in_ok-node.node c.in_ok-node.was c.next_sibling-self.ensures.sibling;
  images = first_and_others c.args.self.now.images.now no_image c.in-len1-up.len_at_least;
}
