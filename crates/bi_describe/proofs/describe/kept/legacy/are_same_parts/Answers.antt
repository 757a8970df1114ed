use Rattle.std.proofs.Common.{arith, ap, sym, ◌∙◌, true≢false}
use Rattle.bi_describe.specs.KeptImages.{numbered_part}
use Rattle.bi_describe.proofs.SameLists.{same_at}
use Rattle.bi_describe.proofs.describe.kept.legacy.are_same_parts.Goals as goal

pub returns-then-not-is_same_part : goal.returns-then-not-is_same_part
returns-then-not-is_same_part c = (
  (λ is. absurd (true≢false (sym is))),
  (λ same.
      let equal = ap numbered_part c.index-one-index.is
      ∙ same_at numbered_part c.args.one.now c.args.other.now c.loop-index.index c.index-one-index.result c.index-other-index.result
      (omega arith)
      (omega arith) same ∙ sym (ap numbered_part c.index-other-index.is) in
      absurd (true≢false (sym (c.is_same_part.ensures.1 equal) ∙ c.if-not-is_same_part.true))),
)
