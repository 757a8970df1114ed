use Rattle.std.proofs.Common.{List, ℕ, map, subst₂, sym}
use Rattle.bootimg.specs.CommandLine.{texts_of, AreOwnTexts, IsBadValue}
use Rattle.bootimg.specs.ConfigurationWords.{name_of_word}
use Rattle.bootimg.specs.OwnTexts.{AreDescriptions, AreNamedTexts}
use Rattle.bootimg.proofs.CommandLines.{outcome_weaker}
use Rattle.bootimg.proofs.command_line.texts.own_texts.Goals as goal

pub returns-in_err-parse_texts-clause-failure : goal.returns-in_err-parse_texts-clause-failure
returns-in_err-parse_texts-clause-failure c =
    let names = map name_of_word (texts_of c.all_values.result.now) in
    let words = texts_of c.all_values-3.result.now in
    outcome_weaker (IsBadValue (AreNamedTexts names words)) (IsBadValue (AreOwnTexts c.args.options.now))
    c.from_residual-in_err-parse_texts.result c.in_err-parse_texts.field-0.0 c.from_residual-in_err-parse_texts.ensures.1
    (c.in_err-parse_texts.ensures.failure names c.in_ok-configurations.ensures)
    (λ failure bad. (
      bad.0,
      λ texts are. bad.1 texts.compatibles.items
          (subst₂ (λ (given words : List (List ℕ)). AreNamedTexts (map name_of_word given) words texts.compatibles.items)
          (sym c.all_values.ensures) (sym c.all_values-3.ensures) are.compatibles),
    ))

pub returns-in_err-parse_descriptions-clause-failure : goal.returns-in_err-parse_descriptions-clause-failure
returns-in_err-parse_descriptions-clause-failure c =
    let names = map name_of_word (texts_of c.all_values.result.now) in
    let words = texts_of c.all_values-4.result.now in
    outcome_weaker (IsBadValue (AreDescriptions names words)) (IsBadValue (AreOwnTexts c.args.options.now))
    c.from_residual-in_err-parse_descriptions.result c.in_err-parse_descriptions.field-0.0
    c.from_residual-in_err-parse_descriptions.ensures.1
    (c.in_err-parse_descriptions.ensures.failure names c.in_ok-configurations.ensures)
    (λ failure bad. (
      bad.0,
      λ texts are. bad.1 texts.configurations.items
          (subst₂ (λ (given words : List (List ℕ)). AreDescriptions (map name_of_word given) words texts.configurations.items)
          (sym c.all_values.ensures) (sym c.all_values-4.ensures) are.configurations),
    ))

pub returns-in_err-parse_descriptions-2-clause-failure : goal.returns-in_err-parse_descriptions-2-clause-failure
returns-in_err-parse_descriptions-2-clause-failure c =
    let names = map name_of_word (texts_of c.all_values-2.result.now) in
    let words = texts_of c.all_values-5.result.now in
    outcome_weaker (IsBadValue (AreDescriptions names words)) (IsBadValue (AreOwnTexts c.args.options.now))
    c.from_residual-in_err-parse_descriptions-2.result c.in_err-parse_descriptions-2.field-0.0
    c.from_residual-in_err-parse_descriptions-2.ensures.1
    (c.in_err-parse_descriptions-2.ensures.failure names c.in_ok-images.ensures)
    (λ failure bad. (
      bad.0,
      λ texts are. bad.1 texts.images.items
          (subst₂ (λ (given words : List (List ℕ)). AreDescriptions (map name_of_word given) words texts.images.items)
          (sym c.all_values-2.ensures) (sym c.all_values-5.ensures) are.images),
    ))

pub returns-clause-texts : goal.returns-clause-texts
returns-clause-texts c =
    let configurations = map name_of_word (texts_of c.all_values.result.now) in
    let images = map name_of_word (texts_of c.all_values-2.result.now) in
    record {
      compatibles = subst₂ (λ (given words : List (List ℕ)). AreNamedTexts (map name_of_word given) words
          c.in_ok-parse_texts.field-0.items) c.all_values.ensures c.all_values-3.ensures
          (c.in_ok-parse_texts.ensures.texts configurations c.in_ok-configurations.ensures);
      configurations = subst₂ (λ (given words : List (List ℕ)). AreDescriptions (map name_of_word given) words
          c.in_ok-parse_descriptions.field-0.items) c.all_values.ensures c.all_values-4.ensures
          (c.in_ok-parse_descriptions.ensures.texts configurations c.in_ok-configurations.ensures);
      images = subst₂ (λ (given words : List (List ℕ)). AreDescriptions (map name_of_word given) words
          c.in_ok-parse_descriptions-2.field-0.items) c.all_values-2.ensures c.all_values-5.ensures
          (c.in_ok-parse_descriptions-2.ensures.texts images c.in_ok-images.ensures);
    }
