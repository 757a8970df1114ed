use Rattle.std.proofs.Common.{length, ap, sym, ◌∙◌, arith}
use Rattle.bi_fdt.specs.Views.{node_of}
use Rattle.bi_fit.proofs.Siblings.{from_next}
use Rattle.bi_common.proofs.HashedImages.{hashes_after_another}
use Rattle.bi_common.proofs.hash_nodes.first_hash_node.Goals as goal

pub loop-next-smaller : goal.loop-next-smaller
loop-next-smaller c =
    let here = ap length (from_next c.loop-next.next c.next_sibling-next.result c.in-Some.node c.in-Some.is
    c.next_sibling-next.ensures.sibling) in
    omega (arith, here)

pub loop-next-preserved : goal.loop-next-preserved
loop-next-preserved c =
    let here = from_next c.loop-next.next c.next_sibling-next.result c.in-Some.node c.in-Some.is c.next_sibling-next.ensures.sibling in
    hashes_after_another (node_of c.in-Some.node) _ _ here (sym c.is_hash.ensures ∙ c.if-is_hash.false) ∙ c.loop-next.invariant
