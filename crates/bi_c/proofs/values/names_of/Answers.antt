use Rattle.std.proofs.Common.{◌∙◌, IfNone, IfOk, IfSome, List, ℕ, subst, sym}
use Rattle.bi_values.specs.NameWords.{AreNoWords, AreWordsOf}
use Rattle.bi_values.specs.ValueNames.{value_name_models}
use Rattle.bi_c.proofs.ValueCallAnswers.{both_words, place_alone}
use Rattle.bi_c.proofs.values.names_of.Goals as goal

pub returns-then-is_empty-clause-some : goal.returns-then-is_empty-clause-some
returns-then-is_empty-clause-some c =
    subst (λ (words : List (List ℕ)). IfOk c.parse_all.result
    (λ found. IfSome found (λ names. AreWordsOf words (value_name_models names.items))))
    (place_alone c.args.place.now c.args.name.now (sym c.is_empty.ensures ∙ c.if-is_empty.true)) c.parse_all.ensures.some

pub returns-then-is_empty-clause-none : goal.returns-then-is_empty-clause-none
returns-then-is_empty-clause-none c =
    subst (λ (words : List (List ℕ)). IfOk c.parse_all.result (λ found. IfNone found (AreNoWords words)))
    (place_alone c.args.place.now c.args.name.now (sym c.is_empty.ensures ∙ c.if-is_empty.true)) c.parse_all.ensures.none

pub returns-clause-some : goal.returns-clause-some
returns-clause-some c =
    subst (λ (words : List (List ℕ)). IfOk c.parse_all-2.result
    (λ found. IfSome found (λ names. AreWordsOf words (value_name_models names.items))))
    (both_words c.args.place.now c.args.name.now (sym c.is_empty.ensures ∙ c.if-is_empty.false)) c.parse_all-2.ensures.some

pub returns-clause-none : goal.returns-clause-none
returns-clause-none c =
    subst (λ (words : List (List ℕ)). IfOk c.parse_all-2.result (λ found. IfNone found (AreNoWords words)))
    (both_words c.args.place.now c.args.name.now (sym c.is_empty.ensures ∙ c.if-is_empty.false)) c.parse_all-2.ensures.none
