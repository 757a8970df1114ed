use Rattle.std.proofs.Common.{inl, refl, sym, ◌∙◌, true≢false}
use Rattle.bootimg.specs.CommandLine.{texts_of, IsBadValue}
use Rattle.bootimg.specs.OwnTexts.{AreDescriptions, AreNamedTexts}
use Rattle.bootimg.proofs.CommandLines.{outcome_weaker}
use Rattle.bootimg.proofs.command_line.texts.parse_descriptions.Goals as goal

pub returns-in_err-texts-clause-failure : goal.returns-in_err-texts-clause-failure
returns-in_err-texts-clause-failure c = λ held holds.
    let words = texts_of c.args.words.now in
    outcome_weaker (IsBadValue (AreNamedTexts held words)) (IsBadValue (AreDescriptions held words)) c.from_residual.result
    c.in_err-texts.field-0.0 c.from_residual.ensures.1 (c.in_err-texts.ensures.failure held holds)
    (λ failure bad. (bad.0, λ texts are. bad.1 texts are.texts))

pub returns-then-not-branch-clause-failure : goal.returns-then-not-branch-clause-failure
returns-then-not-branch-clause-failure c = λ held holds.
    inl (
      refl,
      λ texts are.
          true≢false (sym (c.in_ok-have_distinct_names.ensures.1 are.distinct) ∙ c.if-not-branch.true),
    )
