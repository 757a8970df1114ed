use Rattle.std.proofs.Common.{◌∙◌, sym}
use Rattle.std.proofs.lemmas.List.{length-map}
use Rattle.bi_common.proofs.UnshownNames.{some_holds}
use Rattle.bi_values.specs.NameWords.{AreWordsOf}
use Rattle.bi_values.specs.ValueNames.{value_name_model, value_name_models}
use Rattle.bi_c.specs.ValueCalls.{words_of_place}
use Rattle.bi_values.proofs.ValueWords.{none_holds}
use Rattle.bi_c.proofs.ValueCallAnswers.{not_one_named, nothing_named, one_named}
use Rattle.bi_c.proofs.values.one_name.Goals as goal

pub returns-in_default-clause-none : goal.returns-in_default-clause-none
returns-in_default-clause-none c =
    nothing_named c.args.place.now c.args.name.now (none_holds _ c.in_ok-names.field-0 c.in_default.is c.in_ok-names.ensures.none)

pub returns-then-len-ne1-clause-none : goal.returns-then-len-ne1-clause-none
returns-then-len-ne1-clause-none c =
    let place = c.args.place.now in
    let name = c.args.name.now in
    let names = c.in-Some.names in
    not_one_named place name (value_name_models names.items)
    (some_holds (λ found. AreWordsOf (words_of_place place name) (value_name_models found.items)) c.in_ok-names.field-0 names c.in-Some.is
    c.in_ok-names.ensures.some)
    (λ same. c.if-len-ne1.true (c.len.ensures ∙ names.ok.0 ∙ sym (length-map names.items value_name_model) ∙ same))

pub returns-clause-some : goal.returns-clause-some
returns-clause-some c =
    let place = c.args.place.now in
    let name = c.args.name.now in
    let names = c.in-Some.names in
    one_named place name (value_name_models names.items)
    (some_holds (λ found. AreWordsOf (words_of_place place name) (value_name_models found.items)) c.in_ok-names.field-0 names c.in-Some.is
    c.in_ok-names.ensures.some)
    (length-map names.items value_name_model ∙ sym names.ok.0 ∙ sym c.len.ensures ∙ c.if-len-ne1.false)
