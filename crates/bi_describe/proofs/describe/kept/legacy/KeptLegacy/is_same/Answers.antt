use Rattle.bi_describe.proofs.KeptImageFacts.{legacy_same}
use Rattle.bi_describe.proofs.describe.kept.legacy.KeptLegacy.is_same.Goals as goal

pub returns-then-have_same_headers : goal.returns-then-have_same_headers
returns-then-have_same_headers c image others is also =
    let both = legacy_same image others c.args.self.now c.args.other.now is also in
    let heads = c.have_same_headers.ensures.0 c.if-have_same_headers.true in
    let parts = rw (c.deref.ensures.value, c.deref-then-have_same_headers.ensures.value) at c.are_same_parts.ensures in (
      (λ same. both.0 (heads.0, heads.1, parts.0 same)),
      (λ same. parts.1 (both.1 same).2),
    )
