use Rattle.bi_describe.proofs.SameInsides.{insides_same}
use Rattle.bi_describe.proofs.describe.inside.InsideTree.is_same.Goals as goal

pub returns-then-have_same_heads : goal.returns-then-have_same_heads
returns-then-have_same_heads c payload tree others is also =
    let both = insides_same payload payload tree others c.args.self.now c.args.other.now is also in
    let heads = c.have_same_heads.ensures.0 c.if-have_same_heads.true in (
      (λ same. both.0 (heads.0, heads.1, c.have_same_nodes.ensures.0 same)),
      (λ same. c.have_same_nodes.ensures.1 (both.1 same).2),
    )
