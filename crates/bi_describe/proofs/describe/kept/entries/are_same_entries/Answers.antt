use Rattle.std.proofs.Common.{arith, ap, sym, ◌∙◌, true≢false}
use Rattle.bi_describe.specs.TreeEntries.{as_entry}
use Rattle.bi_describe.proofs.SameLists.{same_at}
use Rattle.bi_describe.proofs.describe.kept.entries.are_same_entries.Goals as goal

pub returns-then-not-is_same_entry : goal.returns-then-not-is_same_entry
returns-then-not-is_same_entry c = (
  (λ is. absurd (true≢false (sym is))),
  (λ same.
      let equal = ap as_entry c.index-one-index.is
      ∙ same_at as_entry c.args.one.now c.args.other.now c.loop-index.index c.index-one-index.result c.index-other-index.result
      (omega arith)
      (omega arith) same ∙ sym (ap as_entry c.index-other-index.is) in
      absurd (true≢false (sym (c.is_same_entry.ensures.1 equal) ∙ c.if-not-is_same_entry.true))),
)
