use Rattle.std.proofs.Common.{[], arith, ap, refl, sym, ◌∙◌, true≢false}
use Rattle.bi_describe.specs.DeepEntries.{last_begun}
use Rattle.bi_describe.specs.MadeInsides.{is_one_of_places}
use Rattle.bi_describe.specs.TreeEntries.{as_entry}
use Rattle.bi_describe.proofs.OpenedTrees.{none_left, same_further, same_here, same_lengths}
use Rattle.bi_describe.proofs.SameLists.{same_at}
use Rattle.bi_describe.proofs.describe.kept.entries.are_same_unless_opened.Goals as goal

pub returns-then-one-other : goal.returns-then-one-other
returns-then-one-other c = (
  (λ is. absurd (true≢false (sym is))),
  (λ same. absurd (c.if-one-other.true (same_lengths (is_one_of_places c.args.opened.now) [] c.args.one.now c.args.other.now same))),
)

pub loop-index-preserved : goal.loop-index-preserved
loop-index-preserved c =
    let now = c.loop-index in
    let a = c.index-one-index in
    let b = c.index-other-index in
    let again = c.index-one-index-in-loop-index in
    let one = c.args.one.now in
    let same_entry = ap as_entry again.is ∙ same_at as_entry one one now.index again.result a.result (omega arith) (omega arith) refl
    ∙ sym (ap as_entry a.is) in
    same_further (is_one_of_places c.args.opened.now) one c.args.other.now now.index a.result b.result now.last.now
    c.last_begun-last.result.now _ a.is b.is (omega arith) (omega arith)
    (c.is_same_unless_opened.ensures.0 c.if-not-is_same_unless_opened.false)
    (c.last_begun-last.ensures ∙ ap (last_begun now.last.now) same_entry) now.invariant

pub returns-then-not-is_same_unless_opened : goal.returns-then-not-is_same_unless_opened
returns-then-not-is_same_unless_opened c =
    let now = c.loop-index in
    let a = c.index-one-index in
    let b = c.index-other-index in (
      (λ is. absurd (true≢false (sym is))),
      (λ same.
          let equal = same_here (is_one_of_places c.args.opened.now) c.args.one.now c.args.other.now now.index a.result b.result
          now.last.now _ a.is b.is (omega arith) (omega arith) now.invariant same in
          absurd (true≢false (sym (c.is_same_unless_opened.ensures.1 equal) ∙ c.if-not-is_same_unless_opened.true))),
    )

pub returns : goal.returns
returns c = (
  (λ is. none_left (is_one_of_places c.args.opened.now) c.args.one.now c.args.other.now c.loop-index.index c.loop-index.last.now _
      c.loop-index-test.false (omega arith) c.loop-index.invariant),
  (λ same. refl),
)
