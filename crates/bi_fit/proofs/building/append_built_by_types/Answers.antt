use Rattle.std.proofs.Common.{◌≡◌, List, [], ◌∷◌, sym, ap, subst, OnOk, IfErr}
use Rattle.bi_base.specs.Commands.{Appended, AppendFailed}
use Rattle.bi_base.specs.Errors.{IsFaultOrNoMemory}
use Rattle.bi_hash.specs.declared.algo.Algo.{Algo}
use Rattle.bi_fit.specs.declared.building.ConfigurationSpec.{ConfigurationSpec}
use Rattle.bi_fit.specs.Building.{ImageSpecModel, PlanModel, IsPlanFor, names_of_images, built_tree, configuration_by_types, plan_by_types}
use Rattle.bi_fit.specs.Documents.{IsTextOfTree, IsTextFault}
use Rattle.bi_fit.specs.NamedImages.{head_model, named_models, configuration_spec_model}
use Rattle.bi_fit.proofs.BuiltConfigurations.{by_types_is_plan}
use Rattle.bi_fit.proofs.building.append_built_by_types.Goals as goal

-- The plan with this one configuration, which is the default.
abbrev plan_of : List Algo → ConfigurationSpec → PlanModel
plan_of algorithms configuration = record {
  configurations = configuration_spec_model configuration ∷ [];
  default = configuration.name.now;
  algorithms = algorithms;
}

-- It is the plan by types if the configuration is.
is_by_types : (algorithms : List Algo) (images : List ImageSpecModel) (configuration : ConfigurationSpec) →
    configuration_spec_model configuration ≡ configuration_by_types images → plan_of algorithms configuration
    ≡ plan_by_types algorithms images
is_by_types algorithms images configuration is =
    ap (λ model. record { configurations = model ∷ []; default = model.name; algorithms = algorithms }) is

pub append_built-requires-clause-is_plan : goal.append_built-requires-clause-is_plan
append_built-requires-clause-is_plan g c =
    let images = named_models c.args.images.now in
    let algorithms = c.args.algorithms.now in
    let is = is_by_types algorithms images c.configuration.result (c.configuration.ensures images c.in_ok-lists.ensures) in
    subst (IsPlanFor (names_of_images images)) (sym is) (by_types_is_plan algorithms images c.few_algorithms.ensures)

pub returns-clause-appended : goal.returns-clause-appended
returns-clause-appended g c =
    let images = named_models c.args.images.now in
    let is = is_by_types c.args.algorithms.now images c.configuration.result (c.configuration.ensures images c.in_ok-lists.ensures) in
    subst
    (λ (plan : PlanModel). OnOk c.append_built.result
    (Appended g.S.Sink.appends (IsTextOfTree c.args.limits c.args.form (built_tree (head_model c.args.head) plan images)) c.args.sink.now
    c.append_built.new.sink))
    is c.append_built.ensures.appended

pub returns-clause-failed : goal.returns-clause-failed
returns-clause-failed g c =
    let images = named_models c.args.images.now in
    let is = is_by_types c.args.algorithms.now images c.configuration.result (c.configuration.ensures images c.in_ok-lists.ensures) in
    subst
    (λ (plan : PlanModel). IfErr c.append_built.result
    (AppendFailed g.S.Sink.fails (IsTextOfTree c.args.limits c.args.form (built_tree (head_model c.args.head) plan images))
    (IsFaultOrNoMemory (IsTextFault c.args.limits c.args.form (built_tree (head_model c.args.head) plan images))) c.args.sink.now
    c.append_built.new.sink))
    is c.append_built.ensures.failed
