use Rattle.std.proofs.Common.{ℕ, zero, suc, ◌<◌, ◌==◌, not, IsTrue, vec_len, sym, subst, arith, true≢false}
use Rattle.bi_blob.specs.TextLaws.{HasOneNormalTree}
use Rattle.bi_lay.proofs.ClosedEvents.{closed_has_tree}
use Rattle.bi_lay.proofs.document.Doc.is_closed.Goals as goal

-- A number that is not equal to zero by test.
not_zero : (n : ℕ) → IsTrue (not (n == 0)) → 0 < n
not_zero zero is = absurd (true≢false (sym is))
not_zero (suc n) is = omega arith

pub returns-then-self-eq0-clause-tree : goal.returns-then-self-eq0-clause-tree
returns-then-self-eq0-clause-tree c closed =
    let some : 0 < vec_len c.self.inside.items = not_zero (vec_len c.self.inside.items) (rw c.is_empty.ensures at closed) in
    subst (λ content. HasOneNormalTree content.events) c.self.view_is
    (closed_has_tree c.self.inside c.self.invariant c.if-self-eq0.true some)
