use Rattle.std.proofs.Common.{arith, ap, sym, ◌∙◌, true≢false}
use Rattle.bi_describe.specs.MadeInsides.{kept_part_unless}
use Rattle.bi_describe.proofs.SameLists.{same_at}
use Rattle.bi_describe.proofs.describe.kept.legacy.are_same_unless_opened.Goals as goal

pub returns-then-not-is_same_unless_opened : goal.returns-then-not-is_same_unless_opened
returns-then-not-is_same_unless_opened c = (
  (λ is. absurd (true≢false (sym is))),
  (λ same.
      let part = kept_part_unless c.args.opened.now in
      let equal = ap part c.index-one-index.is
      ∙ same_at part c.args.one.now c.args.other.now c.loop-index.index c.index-one-index.result c.index-other-index.result
      (omega arith)
      (omega arith) same ∙ sym (ap part c.index-other-index.is) in
      absurd (true≢false (sym (c.is_same_unless_opened.ensures.1 equal) ∙ c.if-not-is_same_unless_opened.true))),
)
