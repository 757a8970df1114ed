use Rattle.std.proofs.Common.{◌∙◌, sym, true≢false}
use Rattle.bi_describe.specs.MadeInsides.{is_one_of_places}
use Rattle.bi_describe.proofs.OpenedTrees.{trees_same_less}
use Rattle.bi_describe.proofs.describe.kept.tree.KeptFit.is_same_unless_opened.Goals as goal

pub returns-then-have_same_heads : goal.returns-then-have_same_heads
returns-then-have_same_heads c tree others is also =
    let both = trees_same_less (is_one_of_places c.args.opened.now) tree others c.args.self.now c.args.other.now is also in
    let heads = c.have_same_heads.ensures.0 c.if-have_same_heads.true in (
      (λ same. both.0 (heads, c.have_same_trees_unless_opened.ensures.0 same)),
      (λ same. c.have_same_trees_unless_opened.ensures.1 (both.1 same).1),
    )

pub returns-else-have_same_heads : goal.returns-else-have_same_heads
returns-else-have_same_heads c tree others is also =
    let both = trees_same_less (is_one_of_places c.args.opened.now) tree others c.args.self.now c.args.other.now is also in (
      (λ yes. absurd (true≢false (sym yes ∙ c.if-have_same_heads.false))),
      (λ same. c.have_same_heads.ensures.1 (both.1 same).0),
    )
