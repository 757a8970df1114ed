use Rattle.std.proofs.Common.{◌≤◌, ◌+◌, ◌*◌, ◌∙◌, sym, refl, length, arith, inl, inr}
use Rattle.std.proofs.lemmas.Bool.{cases_lt}
use borrow.Author.Count.{below_more}
use Rattle.bi_legacy.proofs.TableSizes.{length-cells, get_or-cells, length-table_sizes}
use Rattle.bi_legacy.proofs.part_table.count_sizes.Goals as goal

pub returns-then-size-eq0-clause-ends : goal.returns-then-size-eq0-clause-ends
returns-then-size-eq0-clause-ends c =
    let body = c.args.body.now in
    let within : 4 * (c.loop-size.count + 1) ≤ length body = omega (arith, c.in-Some.ensures.within.0 refl) in (
      λ _. (
        c.loop-size.count,
        omega (arith, length-cells body),
        get_or-cells body c.loop-size.count within ∙ sym c.in-Some.ensures.value ∙ c.if-size-eq0.true,
      ),
      λ _. refl,
    )

pub returns-then-size-eq0-clause-count : goal.returns-then-size-eq0-clause-count
returns-then-size-eq0-clause-count c =
    length-table_sizes c.args.body.now c.loop-size.count c.loop-size.invariant.1 (omega (arith, c.in-Some.ensures.within.0 refl))
    (sym c.in-Some.ensures.value ∙ c.if-size-eq0.true)

pub loop-size-preserved : goal.loop-size-preserved
loop-size-preserved c =
    let body = c.args.body.now in
    let within : 4 * (c.loop-size.count + 1) ≤ length body = omega (arith, c.in-Some.ensures.within.0 refl) in (
      within,
      below_more _ _ c.loop-size.invariant.1
          (λ zero. c.if-size-eq0.false (c.in-Some.ensures.value ∙ sym (get_or-cells body c.loop-size.count within) ∙ zero)),
    )

pub returns-clause-ends : goal.returns-clause-ends
returns-clause-ends c =
    let body = c.args.body.now in (
      λ e. absurd cc,
      λ ends. elim (cases_lt ends.0 c.loop-size.count) [
        | inl below ↦ absurd (c.loop-size.invariant.1 ends.0 below ends.2)
        | inr past ↦ c.in_default.ensures.within.1 (omega (arith, length-cells body, ends.1))
      ],
    )
