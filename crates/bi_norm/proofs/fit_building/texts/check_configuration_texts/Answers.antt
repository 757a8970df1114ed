use Rattle.std.proofs.Common.{◌≡◌, [], ◌++◌, get_or, map, take_all, option_to_list, sym, subst, arith, rules}
use Rattle.std.specs.List.{AllByRecursion}
use Rattle.bi_base.proofs.ListMembers.{each-append, each-front, each-back, each-weaker}
use Rattle.bi_blob.specs.Tree.{HasNoZero}
use Rattle.bi_fit.specs.Building.{IsText}
use Rattle.bi_fit.specs.NamedImages.{configuration_spec_model, configuration_spec_models}
use Rattle.bi_norm.specs.BuildChecks.{HasTextValues}
use Rattle.bi_norm.specs.FitBuilding.{own_texts_of_configuration}
use Rattle.bi_norm.proofs.ConfigurationChecks.{no_configuration_spec}
use Rattle.bi_norm.proofs.OwnTexts.{all_texts_pass, configuration_texts_at, length-configuration_texts, models_more, none_passed}
use Rattle.bi_norm.proofs.OwnTexts.{texts_fail}
use Rattle.bi_norm.proofs.OwnTexts.{texts_of_option, texts_pass}
use Rattle.bi_norm.proofs.fit_building.texts.check_configuration_texts.Goals as goal
use Rattle.bi_norm.proofs.fit_building.texts.check_configuration_texts.Goals.{then-not-has_text-via-then-not-has_text}
use Rattle.bi_norm.proofs.fit_building.texts.check_configuration_texts.Goals.{then-not-has_text-via-else-not-has_text+then-not-are_texts}

pub loop-index-init : goal.loop-index-init
loop-index-init c = record {
  passed = none_passed (map own_texts_of_configuration (configuration_spec_models c.args.configurations.now));
  texts = tt;
}

pub returns-then-not-has_text-clause-fault : goal.returns-then-not-has_text-clause-fault
returns-then-not-has_text-clause-fault c =
    let configurations = c.args.configurations.now in
    let index = c.loop-index.index in
    let model = configuration_spec_model (get_or configurations index no_configuration_spec) in
    let fails : ¬ (AllByRecursion HasNoZero (own_texts_of_configuration model)) = elim c.then-not-has_text.branch [
      | then-not-has_text-via-then-not-has_text w ↦ λ all.
          c.has_text.ensures.other w.if-not-has_text.true
          (each-front HasNoZero (option_to_list model.description) model.compatible all)
      | then-not-has_text-via-else-not-has_text+then-not-are_texts w ↦ λ all.
          w.are_texts.ensures.other w.if-not-are_texts.true
          (each-back HasNoZero (option_to_list model.description) model.compatible all)
    ] in
    let first = texts_fail (map own_texts_of_configuration (configuration_spec_models configurations)) index []
    (omega (arith, c.loop-index-test.true, length-configuration_texts configurations)) c.loop-index.invariant.passed
    (λ fine. fails
    (subst (AllByRecursion HasNoZero) (configuration_texts_at configurations index no_configuration_spec c.loop-index-test.true) fine))
    in
    search rules

pub loop-index-preserved : goal.loop-index-preserved
loop-index-preserved c =
    let configurations = c.args.configurations.now in
    let index = c.loop-index.index in
    let model = configuration_spec_model (get_or configurations index no_configuration_spec) in
    let description = c.has_text.ensures.text c.if-not-has_text.false in
    let compatible = c.are_texts.ensures.texts c.if-not-are_texts.false in
    record {
      passed = texts_pass (map own_texts_of_configuration (configuration_spec_models configurations)) index []
          (omega (arith, c.loop-index-test.true, length-configuration_texts configurations)) c.loop-index.invariant.passed
          (subst (AllByRecursion HasNoZero)
          (sym (configuration_texts_at configurations index no_configuration_spec c.loop-index-test.true))
          (each-append HasNoZero (option_to_list model.description) model.compatible (texts_of_option model.description description)
          (each-weaker IsText HasNoZero (λ text is. is.no_zero) model.compatible compatible)));
      texts = models_more HasTextValues configuration_spec_model configurations index no_configuration_spec c.loop-index-test.true
          c.loop-index.invariant.texts (record { description = description; compatible = compatible });
    }

pub returns-clause-passed : goal.returns-clause-passed
returns-clause-passed c =
    let configurations = c.args.configurations.now in
    all_texts_pass (map own_texts_of_configuration (configuration_spec_models configurations)) c.loop-index.index
    (omega (arith, c.loop-index-test.false, length-configuration_texts configurations)) c.loop-index.invariant.passed

pub returns-clause-texts : goal.returns-clause-texts
returns-clause-texts c =
    subst (λ configurations. AllByRecursion HasTextValues (configuration_spec_models configurations))
    (take_all c.loop-index.index c.args.configurations.now c.loop-index-test.false) c.loop-index.invariant.texts
