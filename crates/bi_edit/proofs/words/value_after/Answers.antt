use Rattle.std.proofs.Common.{ap, subst, sym, ◌∙◌}
use Rattle.std.specs.Option.{option_map}
use Rattle.bi_common.proofs.UnshownNames.{empty_list, some_list}
use Rattle.bi_edit.specs.EditWords.{IsValueAfter}
use Rattle.bi_edit.proofs.Outcomes.{none_by, some_by}
use Rattle.bi_edit.proofs.words.value_after.Goals as goal

pub returns-then-is_empty-clause-none : goal.returns-then-is_empty-clause-none
returns-then-is_empty-clause-none c = λ value is.
    (subst (λ after. IsValueAfter after value) (ap (option_map (λ text. text.now)) c.in-Some.is) is).0
    (empty_list c.in-Some.text.now (sym c.is_empty.ensures ∙ c.if-is_empty.true))

pub returns-clause-some : goal.returns-clause-some
returns-clause-some c =
    some_by _ c.parse_value.result
    (λ value is. subst (λ after. IsValueAfter after value.items) (sym (ap (option_map (λ text. text.now)) c.in-Some.is))
    (some_list c.in-Some.text.now (sym c.is_empty.ensures ∙ c.if-is_empty.false), is))
    c.parse_value.ensures.some

pub returns-clause-none : goal.returns-clause-none
returns-clause-none c =
    none_by c.parse_value.result
    (λ none value is.
    none value (subst (λ after. IsValueAfter after value) (ap (option_map (λ text. text.now)) c.in-Some.is) is).1)
    c.parse_value.ensures.none
