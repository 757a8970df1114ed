use Rattle.std.proofs.Common.{◌≡◌, ◌<◌, [], ◌∷◌, get_or, length, refl, sym, ap, subst, arith}
use Rattle.std.specs.List.{AllByRecursion}
use Rattle.std.proofs.lemmas.List.{length-map, get_or-map}
use Rattle.std.proofs.lemmas.Slice.Zip.{AllZip-long}
use Rattle.bi_base.proofs.ListMembers.{each-append}
use Rattle.bi_fit.specs.declared.document.nodes.Leaf.{Leaf}
use Rattle.bi_fit.specs.BuiltNames.{built_names}
use Rattle.bi_fit.specs.BuiltNodes.{AreListValues}
use Rattle.bi_fit.specs.NamedImages.{head_model, configuration_spec_model, configuration_spec_models}
use Rattle.bi_fit.proofs.BuiltLeaves.{configuration_leaves_more}
use Rattle.bi_fit.proofs.BuiltPayloads.{no_configuration}
use Rattle.bi_fit.proofs.Zips.{AllZip-at}
use Rattle.bi_fit.proofs.building.configurations.configuration_leaves.Goals as goal

pub bounds-lists-index : goal.bounds-lists-index
bounds-lists-index c =
    let models = configuration_spec_models c.args.configurations.now in
    omega (
      arith,
      c.loop-index-test.true,
      AllZip-long AreListValues models c.args.lists.now c.requires.lists,
      length-map c.args.configurations.now configuration_spec_model,
    )

pub configuration_properties-requires-clause-lists : goal.configuration_properties-requires-clause-lists
configuration_properties-requires-clause-lists c =
    let configurations = c.args.configurations.now in
    let index = c.loop-index.index in
    let model = configuration_spec_model (get_or configurations index no_configuration) in
    let models = configuration_spec_models configurations in
    let within : index < length models =
    omega (arith, c.loop-index-test.true, length-map configurations configuration_spec_model) in
    subst (AreListValues model) (sym c.index-lists-index.is)
    (subst (λ model. AreListValues model (get_or c.args.lists.now index c.index-lists-index.result))
    (get_or-map configuration_spec_model configurations index no_configuration model c.loop-index-test.true)
    (AllZip-at AreListValues models c.args.lists.now index model c.index-lists-index.result c.requires.lists within))

pub loop-index-preserved : goal.loop-index-preserved
loop-index-preserved c =
    let configurations = c.args.configurations.now in
    let index = c.loop-index.index in
    let configuration = get_or configurations index no_configuration in
    let next : Leaf = record { name = configuration.name; properties = c.in_ok-configuration_properties.field-0 } in
    let has = c.in_ok-configuration_properties.ensures in
    record {
      leaves = configuration_leaves_more (head_model c.args.head) configurations index no_configuration c.loop-index-test.true
          c.loop-index.leaves.items c.push.new.self.items next c.in_ok-push.ensures.items refl (ap (λ m. m.by_name) has)
          c.loop-index.invariant.leaves;
      same_names = subst (AllByRecursion (λ (leaf : Leaf). leaf.properties.names ≡ built_names)) (sym c.in_ok-push.ensures.items)
          (each-append (λ (leaf : Leaf). leaf.properties.names ≡ built_names) c.loop-index.leaves.items (next ∷ [])
          c.loop-index.invariant.same_names (ap (λ m. m.names) has, tt));
    }
