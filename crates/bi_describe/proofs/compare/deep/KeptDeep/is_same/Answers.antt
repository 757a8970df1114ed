use Rattle.std.proofs.Common.{◌∙◌, sym, true≢false}
use Rattle.bi_describe.specs.MadeInsides.{is_one_of_places}
use Rattle.bi_describe.specs.OpenedPayloads.{tree_at_without}
use Rattle.bi_describe.specs.ReducedMeanings.{meaning_without}
use Rattle.bi_describe.proofs.DeepComparisons.{same_inside, same_rest}
use Rattle.bi_describe.proofs.compare.deep.KeptDeep.is_same.Goals as goal

pub returns-then-is_same_unless_opened : goal.returns-then-is_same_unless_opened
returns-then-is_same_unless_opened c words one other kept other_kept are =
    let both = same_inside words one other (is_one_of_places c.args.opened.now) _ _ are
    (c.is_same_unless_opened.ensures (meaning_without words one.meaning) (meaning_without words other.meaning) kept.is_kept
    other_kept.is_kept)
    (c.are_same_at.ensures (tree_at_without words one.insides) (tree_at_without words other.insides) kept.are_held other_kept.are_held) in (
      (λ same. both.0 (c.if-is_same_unless_opened.true, same)),
      (λ same. (both.1 same).1),
    )

pub returns-else-is_same_unless_opened : goal.returns-else-is_same_unless_opened
returns-else-is_same_unless_opened c words one other kept other_kept are =
    let rest = c.is_same_unless_opened.ensures (meaning_without words one.meaning) (meaning_without words other.meaning) kept.is_kept
    other_kept.is_kept in (
      (λ is. absurd (true≢false (sym is ∙ c.if-is_same_unless_opened.false))),
      (λ same. rest.1 (same_rest words one other (is_one_of_places c.args.opened.now) are same)),
    )
