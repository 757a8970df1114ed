use Rattle.std.proofs.Common.{◌≡◌, ℕ, ◌+◌, ◌<◌, List, [], ◌∷◌, ◌++◌, take, get_or, length, sym, ap, subst, ◌∙◌}
use Rattle.std.specs.List.{AllZip}
use Rattle.std.proofs.lemmas.List.{take_more, map-append}
use Rattle.std.proofs.lemmas.Slice.Zip.{all_zipped_more}
use Rattle.bi_fit.specs.declared.building.ConfigurationSpec.{ConfigurationSpec}
use Rattle.bi_fit.specs.declared.building.lists.ListValues.{ListValues}
use Rattle.bi_fit.specs.BuiltNodes.{AreListValues}
use Rattle.bi_fit.specs.NamedImages.{configuration_spec_model, configuration_spec_models}
use Rattle.bi_fit.proofs.BuiltPayloads.{no_configuration}
use Rattle.bi_fit.proofs.building.lists.lists_of.Goals as goal

-- The lists of configurations and of one more.
lists_more : (configurations : List ConfigurationSpec) (index : ℕ) (d : ConfigurationSpec) → index < length configurations →
    (lists more : List ListValues) (next : ListValues) → more ≡ lists ++ next ∷ [] →
    AllZip AreListValues (configuration_spec_models (take index configurations)) lists →
    AreListValues (configuration_spec_model (get_or configurations index d)) next →
    AllZip AreListValues (configuration_spec_models (take (index + 1) configurations)) more
lists_more configurations index d within lists more next is all are =
    let configuration = get_or configurations index d in
    let models = configuration_spec_models (take index configurations) in
    subst (AllZip AreListValues (configuration_spec_models (take (index + 1) configurations))) (sym is)
    (subst (λ models. AllZip AreListValues models (lists ++ next ∷ []))
    (sym (ap configuration_spec_models (take_more configurations index d within)
    ∙ map-append configuration_spec_model (take index configurations) (configuration ∷ [])))
    (all_zipped_more AreListValues models lists (configuration_spec_model configuration) next all are))

pub loop-configuration-preserved : goal.loop-configuration-preserved
loop-configuration-preserved c =
    lists_more c.args.configurations.now c.loop-configuration.configuration-index no_configuration c.loop-configuration-test.true
    c.loop-configuration.lists.items c.push.new.self.items c.in_ok-new.field-0 c.in_ok-push.ensures.items c.loop-configuration.invariant
    c.in_ok-new.ensures
