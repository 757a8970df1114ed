use Rattle.std.proofs.Common.{◌≡◌, ◌∙◌, List, None, Some, ap, codes, inl, length, refl, sym}
use Rattle.std.proofs.lemmas.List.{length-map}
use Rattle.bi_values.specs.NameWords.{AreNoWords}
use Rattle.bi_values.specs.ValueNames.{value_name_model, value_name_models, words_of_value}
use Rattle.bi_values.specs.declared.value_name.ValueName.{ValueName}
use Rattle.bootimg.specs.CommandLine.{IsBadValue, IsGetPlan, texts_of, values_of}
use Rattle.bootimg.specs.ValueWords.{texts_of_value}
use Rattle.bootimg.specs.declared.failure.Failure.TheVariants.{BadValue}
use Rattle.bootimg.proofs.CommandLines.{fails_with, ok_or_failed, ok_or_some, outcome_weaker}
use Rattle.bootimg.proofs.command_line.get.get_plan.Goals as goal

pub invariant_of-result : goal.invariant_of-result
invariant_of-result c =
    let names = c.deref.result.now in
    let words = c.in_ok-words.words.items in
    record {
      paired = sym (length-map words texts_of_value) ∙ ap length c.in_ok-words.ensures
          ∙ length-map (value_name_models names) words_of_value ∙ length-map names value_name_model ∙ ap length c.deref.ensures.value;
    }

pub returns-in_err-form-clause-failure : goal.returns-in_err-form-clause-failure
returns-in_err-form-clause-failure c =
    let options = c.args.options.now in
    let failed = ok_or_failed c.parse_form.result BadValue c.in_err-form.field-0.0 c.ok_or.result c.ok_or.ensures.value c.in_err-form.was in
    fails_with (IsBadValue (IsGetPlan options)) c.from_residual.result c.in_err-form.field-0.0 c.from_residual.ensures.1 (
      failed.1,
      λ plan is.
          absurd (let e : None ≡ Some plan.form = sym failed.0 ∙ c.parse_form.ensures.exactly plan.form (c.get_str.ensures ∙ is.form) in
          cc),
    )

pub returns-in_err-names-clause-failure : goal.returns-in_err-names-clause-failure
returns-in_err-names-clause-failure c =
    let options = c.args.options.now in
    let words = c.all_values-words.result.now in
    let same : texts_of words ≡ values_of options (codes "where") = c.all_values-words.ensures in
    outcome_weaker (λ failure. (failure ≡ BadValue) × AreNoWords (texts_of words)) (IsBadValue (IsGetPlan options))
    c.from_residual-in_err-names.result c.in_err-names.field-0.0 c.from_residual-in_err-names.ensures.1 c.in_err-names.ensures.failure
    (λ failure bad. (
      bad.0,
      λ plan is. bad.1 (value_name_models plan.names.items) is.names.valid (is.names.are ∙ sym same),
    ))

-- There are as many names as in another plan.
same_number : (names others : List ValueName) → value_name_models others ≡ value_name_models names → length others ≡ length names
same_number names others same =
    sym (length-map others value_name_model) ∙ ap length same ∙ length-map names value_name_model

-- Several values are not written raw.
pub returns-then-not-can_write-clause-failure : goal.returns-then-not-can_write-clause-failure
returns-then-not-can_write-clause-failure c =
    let options = c.args.options.now in
    let words = c.all_values-words.result.now in
    let same : texts_of words ≡ values_of options (codes "where") = c.all_values-words.ensures in
    let cannot = c.can_write.ensures.cannot c.if-not-can_write.true in
    let found = ok_or_some c.parse_form.result BadValue c.in_ok-form.form c.ok_or.result c.ok_or.ensures.value c.in_ok-form.was in
    inl (
      refl,
      λ plan is.
          let given : Some c.in_ok-form.form ≡ Some plan.form = sym found ∙ c.parse_form.ensures.exactly plan.form
          (c.get_str.ensures ∙ is.form) in
          let form : c.in_ok-form.form ≡ plan.form = cc in
          let all = c.in_ok-names.ensures.names.only (value_name_models plan.names.items) is.names.valid (is.names.are ∙ sym same) in
          let one = is.one (sym form ∙ cannot.0) in
          cannot.1 (c.len.ensures ∙ c.in_ok-names.names.ok.0 ∙ sym (same_number c.in_ok-names.names.items plan.names.items all) ∙ one),
    )
