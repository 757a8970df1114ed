use Rattle.std.proofs.Common.{◌≡◌, codes, option_map, subst, sym}
use Rattle.bi_norm.specs.FitBuilding.{names_of_specs}
use Rattle.bootimg.specs.CommandLine.{option_of, texts_of, values_of, AreImages, HasFitValues, IsBadConfiguration, IsBadImage}
use Rattle.bootimg.specs.CommandLine.{AreOwnTexts, IsBadValue, IsFitPlanFailure}
use Rattle.bootimg.specs.ConfigurationWords.{IsDefault}
use Rattle.bootimg.proofs.CommandLines.{fails_with, outcome_weaker}
use Rattle.bootimg.proofs.PlanFailures.{bad_configuration, bad_default, bad_form, bad_image, bad_own_texts, bad_time}
use Rattle.bootimg.proofs.command_line.build.fit_plan.Goals as goal

pub returns-in_err-number-clause-failure : goal.returns-in_err-number-clause-failure
returns-in_err-number-clause-failure c =
    let options = c.args.options.now in
    fails_with (IsFitPlanFailure options) c.from_residual.result c.in_err-number.field-0.0 c.from_residual.ensures.1
    (bad_time options c.in_err-number.field-0.0 c.in_err-number.ensures.bad)

pub returns-in_err-form-clause-failure : goal.returns-in_err-form-clause-failure
returns-in_err-form-clause-failure c =
    let options = c.args.options.now in
    fails_with (IsFitPlanFailure options) c.from_residual-in_err-form.result c.in_err-form.field-0.0
    c.from_residual-in_err-form.ensures.1 (bad_form options c.in_err-form.field-0.0 c.in_err-form.ensures.failure)

pub returns-in_err-default-clause-failure : goal.returns-in_err-default-clause-failure
returns-in_err-default-clause-failure c =
    let options = c.args.options.now in
    let words = c.all_values-words.result.now in
    let same : texts_of words ≡ values_of options (codes "config") = c.all_values-words.ensures in
    fails_with (IsFitPlanFailure options) c.from_residual-in_err-default.result c.in_err-default.field-0.0
    c.from_residual-in_err-default.ensures.1
    (bad_default options (texts_of words) c.in_err-default.field-0.0 same c.in_err-default.ensures.bad)

pub returns-in_err-own_texts-clause-failure : goal.returns-in_err-own_texts-clause-failure
returns-in_err-own_texts-clause-failure c =
    let options = c.args.options.now in
    outcome_weaker (IsBadValue (AreOwnTexts options)) (IsFitPlanFailure options) c.from_residual-in_err-own_texts.result
    c.in_err-own_texts.field-0.0 c.from_residual-in_err-own_texts.ensures.1 c.in_err-own_texts.ensures.failure
    (λ failure bad. bad_own_texts options failure bad)

pub returns-in_err-built-clause-failure : goal.returns-in_err-built-clause-failure
returns-in_err-built-clause-failure c =
    let options = c.args.options.now in
    let words = c.all_values-words.result.now in
    let arguments = c.all_values-arguments.result.now in
    let same : texts_of words ≡ values_of options (codes "config") = c.all_values-words.ensures in
    let same_images : texts_of arguments ≡ values_of options (codes "images") = c.all_values-arguments.ensures in
    let default = option_map (λ bytes. bytes.now) c.in_ok-default.default in
    let has : HasFitValues options = record {
      time = c.in_ok-number.field-0;
      is_time = c.in_ok-number.ensures.value;
      form = c.in_ok-form.form;
      is_form = c.in_ok-form.ensures.form;
      default = default;
      is_default = subst (λ w. IsDefault w (option_of options (codes "default")) default) same c.in_ok-default.ensures.name;
      algorithms = c.in_ok-algorithms.algorithms.items;
      are_algorithms = c.in_ok-algorithms.ensures.algorithms;
      own_texts = c.in_ok-own_texts.own_texts;
      are_own_texts = c.in_ok-own_texts.ensures.texts;
    } in
    outcome_weaker (IsBadImage (texts_of arguments)) (IsFitPlanFailure options) c.from_residual-in_err-built.result
    c.in_err-built.field-0.0 c.from_residual-in_err-built.ensures.1 c.in_err-built.ensures.failure
    (λ failure bad. bad_image options (texts_of arguments) failure has same_images bad)

pub returns-in_err-configurations-clause-failure : goal.returns-in_err-configurations-clause-failure
returns-in_err-configurations-clause-failure c =
    let options = c.args.options.now in
    let words = c.all_values-words.result.now in
    let arguments = c.all_values-arguments.result.now in
    let same : texts_of words ≡ values_of options (codes "config") = c.all_values-words.ensures in
    let same_images : texts_of arguments ≡ values_of options (codes "images") = c.all_values-arguments.ensures in
    let default = option_map (λ bytes. bytes.now) c.in_ok-default.default in
    let has : HasFitValues options = record {
      time = c.in_ok-number.field-0;
      is_time = c.in_ok-number.ensures.value;
      form = c.in_ok-form.form;
      is_form = c.in_ok-form.ensures.form;
      default = default;
      is_default = subst (λ w. IsDefault w (option_of options (codes "default")) default) same c.in_ok-default.ensures.name;
      algorithms = c.in_ok-algorithms.algorithms.items;
      are_algorithms = c.in_ok-algorithms.ensures.algorithms;
      own_texts = c.in_ok-own_texts.own_texts;
      are_own_texts = c.in_ok-own_texts.ensures.texts;
    } in
    let built = c.in_ok-built.built in
    let images = c.deref.result.now in
    let are : AreImages (values_of options (codes "images")) images built.texts.items built.payloads.items
    = subst (λ i. AreImages (values_of options (codes "images")) i built.texts.items built.payloads.items) (sym c.deref.ensures.value)
    (subst (λ w. AreImages w built.images.items built.texts.items built.payloads.items) same_images c.in_ok-built.ensures.images) in
    outcome_weaker (IsBadConfiguration (names_of_specs images) (texts_of words)) (IsFitPlanFailure options)
    c.from_residual-in_err-configurations.result c.in_err-configurations.field-0.0 c.from_residual-in_err-configurations.ensures.1
    c.in_err-configurations.ensures.failure
    (λ failure bad. bad_configuration options images built.texts.items built.payloads.items (texts_of words) failure has are same bad)
