use Rattle.std.proofs.Common.{◌∙◌, sym, true≢false}
use Rattle.bi_describe.proofs.OpenedTrees.{legacy_same_less}
use Rattle.bi_describe.proofs.describe.kept.legacy.KeptLegacy.is_same_unless_opened.Goals as goal

pub returns-then-have_same_headers : goal.returns-then-have_same_headers
returns-then-have_same_headers c image others is also =
    let both = legacy_same_less c.args.opened.now image others c.args.self.now c.args.other.now is also in
    let heads = c.have_same_headers.ensures.0 c.if-have_same_headers.true in
    let parts = rw (c.deref.ensures.value, c.deref-then-have_same_headers.ensures.value) at c.are_same_unless_opened.ensures in (
      (λ same. both.0 (heads.0, heads.1, parts.0 same)),
      (λ same. parts.1 (both.1 same).2),
    )

pub returns-else-have_same_headers : goal.returns-else-have_same_headers
returns-else-have_same_headers c image others is also =
    let both = legacy_same_less c.args.opened.now image others c.args.self.now c.args.other.now is also in (
      (λ yes. absurd (true≢false (sym yes ∙ c.if-have_same_headers.false))),
      (λ same. c.have_same_headers.ensures.1 ((both.1 same).0, (both.1 same).1)),
    )
