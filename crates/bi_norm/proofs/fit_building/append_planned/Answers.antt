use Rattle.std.proofs.Common.{◌≡◌, ◌∙◌, ℕ, List, [], ◌∷◌, Option, None, Some, unwrap_or, sym, ap, refl, subst, IfErr}
use Rattle.std.specs.Borrow.{Bor}
use Rattle.std.specs.List.{slice_get}
use Rattle.std.specs.Option.{option_map}
use Rattle.std.proofs.lemmas.Option.{none-some, same_Some}
use Rattle.bi_base.specs.Commands.{AppendFailed}
use Rattle.bi_base.specs.Errors.{IsFaultOrNoMemory}
use Rattle.bi_hash.specs.declared.algo.Algo.{Algo}
use Rattle.bi_fit.specs.declared.building.ConfigurationSpec.{ConfigurationSpec}
use Rattle.bi_fit.specs.Building.{ImageSpecModel, PlanModel, built_tree, plan_by_types}
use Rattle.bi_fit.specs.Documents.{IsTextOfTree, IsTextFault}
use Rattle.bi_fit.specs.NamedImages.{head_model, named_models, configuration_spec_models}
use Rattle.bi_norm.specs.FitBuilding.{whole_plan}
use Rattle.bi_norm.proofs.fit_building.append_planned.Goals as goal

-- The name of the default, if it is given.
abbrev name_of : Option (Bor (List ℕ)) → Option (List ℕ)
name_of default = option_map (λ name. name.now) default

-- Without a configuration, the plan is that by types.
without_configurations : (configurations : List ConfigurationSpec) (default : Option (List ℕ)) (algorithms : List Algo)
    (images : List ImageSpecModel) → None ≡ slice_get configurations 0 →
    plan_by_types algorithms images ≡ whole_plan (configuration_spec_models configurations) default algorithms images
without_configurations [] default algorithms images none = refl
without_configurations (first ∷ later) default algorithms images none = absurd (none-some first none)

-- With one, the default is the first, if no other is given.
with_configurations : (configurations : List ConfigurationSpec) (first : ConfigurationSpec) (default : Option (Bor (List ℕ)))
    (algorithms : List Algo) (images : List ImageSpecModel) → Some first ≡ slice_get configurations 0 →
    ◌≡◌ {A = PlanModel}
    (record {
      configurations = configuration_spec_models configurations;
      default = (unwrap_or default first.name).now;
      algorithms = algorithms;
    })
    (whole_plan (configuration_spec_models configurations) (name_of default) algorithms images)
with_configurations [] first default algorithms images is = absurd (none-some first (sym is))
with_configurations (one ∷ later) first None algorithms images is =
    ap
    (λ (own : ConfigurationSpec). record {
      configurations = configuration_spec_models (one ∷ later);
      default = own.name.now;
      algorithms = algorithms;
    })
    (same_Some first one is)
with_configurations (one ∷ later) first (Some name) algorithms images is = refl

pub returns-in_default-clause-failed : goal.returns-in_default-clause-failed
returns-in_default-clause-failed g c =
    let images = named_models c.args.images.now in
    subst
    (λ (plan : PlanModel). IfErr c.append_built_by_types.result
    (AppendFailed g.S.Sink.fails (IsTextOfTree c.args.limits c.args.form (built_tree (head_model c.args.head) plan images))
    (IsFaultOrNoMemory (IsTextFault c.args.limits c.args.form (built_tree (head_model c.args.head) plan images))) c.args.sink.now
    c.append_built_by_types.new.sink))
    (without_configurations c.args.plan.configurations.now (name_of c.args.plan.default) c.args.plan.algorithms.now images
    c.in_default.ensures.value)
    c.append_built_by_types.ensures.failed

pub returns-clause-failed : goal.returns-clause-failed
returns-clause-failed g c =
    let images = named_models c.args.images.now in
    let plan = c.args.plan in
    let same = with_configurations plan.configurations.now c.in-Some.first.now plan.default plan.algorithms.now images
    c.in-Some.ensures.value in
    let of_default : Bor (List ℕ) → PlanModel = λ default. record {
      configurations = configuration_spec_models plan.configurations.now;
      default = default.now;
      algorithms = plan.algorithms.now;
    } in
    subst
    (λ (plan : PlanModel). IfErr c.append_built.result
    (AppendFailed g.S.Sink.fails (IsTextOfTree c.args.limits c.args.form (built_tree (head_model c.args.head) plan images))
    (IsFaultOrNoMemory (IsTextFault c.args.limits c.args.form (built_tree (head_model c.args.head) plan images))) c.args.sink.now
    c.append_built.new.sink))
    (ap of_default c.unwrap_or.ensures ∙ same) c.append_built.ensures.failed
