use Rattle.std.proofs.Common.{[], ◌∷◌, ◌++◌, take, take_all, get_or, sym, ap, subst, ◌∙◌, rules, true≢false}
use Rattle.std.proofs.lemmas.Bool.{not-true, not-false}
use Rattle.bi_blob.specs.NameSets.{HoldsNames}
use Rattle.bi_blob.specs.Tree.{IsNew, IsChildName, AreDistinct}
use Rattle.bi_blob.proofs.Blobs.OpenNodes.{AreDistinct-push}
use Rattle.bi_blob.proofs.NameSets.{HoldsNames-insert, HoldsNames-new, HoldsNames-held}
use Rattle.bi_fit.specs.Building.{ConfigurationSpecModel, configuration_names}
use Rattle.bi_fit.specs.NamedImages.{configuration_spec_model, configuration_spec_models}
use Rattle.bi_norm.specs.FitBuilding.{ListsOnly}
use Rattle.bi_norm.specs.BuildChecks.{IsPlainConfiguration}
use Rattle.bi_norm.proofs.ConfigurationChecks.{no_configuration_model, no_configuration_spec, configuration_names_more, configuration_fails}
use Rattle.bi_norm.proofs.ConfigurationChecks.{configuration_name_fails, configuration_passed, configurations_passed, configurations_can}
use Rattle.bi_norm.proofs.ConfigurationChecks.{model_at, within_models, past_models}
use Rattle.bi_norm.proofs.fit_building.configurations.check_configurations.Goals as goal
use Rattle.bi_norm.proofs.fit_building.configurations.check_configurations.Goals.{then-not-is_child_name-via-then-not-is_child_name}
use Rattle.bi_norm.proofs.fit_building.configurations.check_configurations.Goals.{then-not-is_child_name-via-else-not-is_child_name+then-not-lists_only}

pub returns-then-not-is_child_name-clause-failed : goal.returns-then-not-is_child_name-clause-failed
returns-then-not-is_child_name-clause-failed c = λ held holds.
    let configurations = c.args.configurations.now in
    let models = configuration_spec_models configurations in
    let index = c.loop-index.index in
    let spec = get_or configurations index no_configuration_spec in
    let fails : ¬ (IsChildName spec.name.now × ListsOnly held (configuration_spec_model spec)) = elim c.then-not-is_child_name.branch [
      | then-not-is_child_name-via-then-not-is_child_name w ↦ λ both.
          true≢false (sym (c.is_child_name.ensures.1 both.0) ∙ w.if-not-is_child_name.true)
      | then-not-is_child_name-via-else-not-is_child_name+then-not-lists_only w ↦ λ both.
          true≢false (sym ((w.lists_only.ensures held holds).1 both.1) ∙ w.if-not-lists_only.true)
    ] in
    let first = configuration_fails held models index no_configuration_model
    (within_models configurations index c.loop-index-test.true) (c.loop-index.invariant.passed held holds)
    (subst (λ (configuration : ConfigurationSpecModel). ¬ (IsChildName configuration.name × ListsOnly held configuration))
    (model_at configurations index no_configuration_spec c.loop-index-test.true) fails) in
    search rules

pub returns-then-not-branch-clause-failed : goal.returns-then-not-branch-clause-failed
returns-then-not-branch-clause-failed c = λ held holds.
    let configurations = c.args.configurations.now in
    let models = configuration_spec_models configurations in
    let index = c.loop-index.index in
    let spec = get_or configurations index no_configuration_spec in
    let here = model_at configurations index no_configuration_spec c.loop-index-test.true in
    let names = configuration_names (take index models) in
    let can : IsPlainConfiguration held (configuration_spec_model spec) = record {
      is_name = c.is_child_name.ensures.0 c.if-not-is_child_name.false;
      name_bytes = c.are_bytes.ensures;
      description = tt;
      compatible = tt;
      of_images = (c.lists_only.ensures held holds).0 c.if-not-lists_only.false;
    } in
    let has = not-false _ (sym c.in_ok-insert.ensures.added ∙ c.if-not-branch.true) in
    let old = HoldsNames-held c.loop-index.names spec.name names c.loop-index.invariant.names has in
    let first = configuration_name_fails held models index no_configuration_model
    (within_models configurations index c.loop-index-test.true) (c.loop-index.invariant.passed held holds)
    (subst (IsPlainConfiguration held) here can)
    (subst (λ (configuration : ConfigurationSpecModel). ¬ (IsNew configuration.name names)) here old) in
    search rules

pub loop-index-preserved : goal.loop-index-preserved
loop-index-preserved c =
    let configurations = c.args.configurations.now in
    let models = configuration_spec_models configurations in
    let index = c.loop-index.index in
    let spec = get_or configurations index no_configuration_spec in
    let within = within_models configurations index c.loop-index-test.true in
    let here = model_at configurations index no_configuration_spec c.loop-index-test.true in
    let names = configuration_names (take index models) in
    let lacks = not-true _ (sym c.in_ok-insert.ensures.added ∙ c.if-not-branch.false) in
    let new = HoldsNames-new c.loop-index.names spec.name names c.loop-index.invariant.names lacks in
    let more = ap (λ (configuration : ConfigurationSpecModel). names ++ configuration.name ∷ []) here
    ∙ sym (configuration_names_more models index no_configuration_model within) in
    record {
      names = subst (HoldsNames c.insert.new.self) more
          (HoldsNames-insert c.loop-index.names c.insert.new.self spec.name names c.loop-index.invariant.names
          c.in_ok-insert.ensures.updates);
      distinct = subst AreDistinct more (AreDistinct-push names spec.name.now c.loop-index.invariant.distinct new);
      passed = λ held holds.
          let can : IsPlainConfiguration held (configuration_spec_model spec) = record {
            is_name = c.is_child_name.ensures.0 c.if-not-is_child_name.false;
            name_bytes = c.are_bytes.ensures;
            description = tt;
            compatible = tt;
            of_images = (c.lists_only.ensures held holds).0 c.if-not-lists_only.false;
          } in
          configuration_passed held models index no_configuration_model within (c.loop-index.invariant.passed held holds)
          (subst (IsPlainConfiguration held) here can)
          (subst (λ (configuration : ConfigurationSpecModel). IsNew configuration.name names) here new);
    }

pub returns-clause-passed : goal.returns-clause-passed
returns-clause-passed c = λ held holds.
    let configurations = c.args.configurations.now in
    configurations_passed held (configuration_spec_models configurations) c.loop-index.index
    (past_models configurations c.loop-index.index c.loop-index-test.false) (c.loop-index.invariant.passed held holds)

pub returns-clause-can : goal.returns-clause-can
returns-clause-can c = λ held holds.
    let configurations = c.args.configurations.now in
    configurations_can held (configuration_spec_models configurations) c.loop-index.index
    (past_models configurations c.loop-index.index c.loop-index-test.false) (c.loop-index.invariant.passed held holds)

pub returns-clause-distinct : goal.returns-clause-distinct
returns-clause-distinct c =
    let configurations = c.args.configurations.now in
    subst (λ models. AreDistinct (configuration_names models))
    (take_all c.loop-index.index (configuration_spec_models configurations)
    (past_models configurations c.loop-index.index c.loop-index-test.false))
    c.loop-index.invariant.distinct
