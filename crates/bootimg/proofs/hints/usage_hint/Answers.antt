use Rattle.std.proofs.Common.{None, Some, ◌∙◌, option_map, refl, subst, sym}
use Rattle.bootimg.specs.CommandLine.{texts_of}
use Rattle.bootimg.specs.Hints.{OfFailure, OfWord}
use Rattle.bootimg.specs.RefusedWords.{FindsRefusedWord, refused_model}
use Rattle.bootimg.proofs.RunFacts.{hint_is_given}
use Rattle.bootimg.proofs.hints.usage_hint.Goals as goal

pub returns-then-not-is_about_word : goal.returns-then-not-is_about_word
returns-then-not-is_about_word c =
    hint_is_given _ _ _ _ c.if-not-hints.false (OfFailure (sym c.is_about_word.ensures ∙ c.if-not-is_about_word.true) c.hint.ensures)

pub returns-in-Ok-Some : goal.returns-in-Ok-Some
returns-in-Ok-Some c =
    hint_is_given _ _ _ _ c.if-not-hints.false
    (OfWord (Some (refused_model c.in-Ok-Some.refused))
    (subst (λ found. FindsRefusedWord (texts_of c.args.arguments.now) c.args.failure (option_map refused_model found))
    c.in-Ok-Some.field-0-is c.in-Ok-Some.ensures) refl)

pub returns-in-Ok-None : goal.returns-in-Ok-None
returns-in-Ok-None c =
    hint_is_given _ _ _ _ c.if-not-hints.false
    (OfWord None
    (subst (λ found. FindsRefusedWord (texts_of c.args.arguments.now) c.args.failure (option_map refused_model found))
    c.in-Ok-None.field-0-is c.in-Ok-None.ensures) c.hint-in-Ok-None.ensures)
