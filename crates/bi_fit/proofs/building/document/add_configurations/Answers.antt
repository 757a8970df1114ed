use Rattle.std.proofs.Common.{◌≡◌, List, [], ◌∷◌, map, sym, ap, subst, ◌∙◌}
use Rattle.std.specs.FinMap.{from_entries}
use Rattle.std.specs.List.{AllByRecursion}
use Rattle.bi_base.proofs.ListMembers.{each-weaker}
use Rattle.bi_blob.specs.Events.{Event, events}
use Rattle.bi_blob.specs.Tree.{PropertyMap}
use Rattle.bi_lay.specs.Contents.{Doc}
use Rattle.bi_fit.specs.NormalNodes.{MayAdd, with_events, begin_events, leaf_nodes}
use Rattle.bi_fit.specs.Building.{text_value}
use Rattle.bi_fit.specs.BuiltNames.{built_names}
use Rattle.bi_fit.specs.BuiltNodes.{built_configuration_nodes}
use Rattle.bi_fit.specs.Leaves.{leaf_model}
use Rattle.bi_fit.specs.Names.{configurations_name, default_name}
use Rattle.bi_fit.specs.NamedImages.{head_model, configuration_spec_models}
use Rattle.bi_fit.specs.declared.building.document.BuiltParts.{BuiltParts}
use Rattle.bi_fit.specs.declared.document.nodes.Leaf.{Leaf}
use Rattle.bi_fit.proofs.AddedEvents.{may_begin, may_have_children, may_end, whole_added}
use Rattle.bi_fit.proofs.BuiltDocuments.{same_built_names, leaf_nodes-built_configuration_leaves}
use Rattle.bi_fit.proofs.building.document.add_configurations.Goals as goal
use Rattle.bi_fit.proofs.building.document.add_configurations.Goals.{In_ok-leaves}

-- The properties of the node of the configurations.
abbrev own : BuiltParts → PropertyMap
own parts = from_entries ((default_name, text_value parts.plan.default.now) ∷ [])

-- The events with which it begins, and those of its children.
abbrev begin : BuiltParts → List Event
begin parts = begin_events configurations_name (own parts)

abbrev children : BuiltParts → List Event
children parts = events (built_configuration_nodes (head_model parts.head) (configuration_spec_models parts.plan.configurations.now))

pub begin_with-requires-clause-names : goal.begin_with-requires-clause-names
begin_with-requires-clause-names c =
    same_built_names c.args.doc.now.names c.in_ok-properties.properties (own c.args.parts) c.requires.doc_names c.in_ok-properties.ensures

pub begin_with-requires-clause-may : goal.begin_with-requires-clause-may
begin_with-requires-clause-may c =
    subst (λ properties. MayAdd c.args.doc.now (begin_events configurations_name properties.by_name)) (sym c.in_ok-properties.ensures)
    (may_begin c.args.doc.now (begin c.args.parts) (children c.args.parts) c.requires.may)

-- The configurations are added as they are.
leaf_events : (c : In_ok-leaves) → events (leaf_nodes (map leaf_model c.in_ok-leaves.leaves.items)) ≡ children c.args.parts
leaf_events c =
    ap (λ l. events (leaf_nodes l)) c.in_ok-leaves.ensures.leaves
    ∙ ap events (leaf_nodes-built_configuration_leaves (head_model c.args.parts.head)
    (configuration_spec_models c.args.parts.plan.configurations.now))

-- The node has begun.
begun : (c : In_ok-leaves) → c.begin_with.new.doc ≡ with_events c.args.doc.now (begin c.args.parts)
begun c =
    c.in_ok-begin_with.ensures.added
    ∙ ap (λ properties. with_events c.args.doc.now (begin_events configurations_name properties.by_name)) c.in_ok-properties.ensures

pub add_leaves-requires-clause-names : goal.add_leaves-requires-clause-names
add_leaves-requires-clause-names c =
    let names : c.begin_with.new.doc.names ≡ built_names =
    ap (λ document. document.names) c.in_ok-begin_with.ensures.added ∙ c.requires.doc_names in
    subst (AllByRecursion (λ (leaf : Leaf). c.begin_with.new.doc.names ≡ leaf.properties.names)) (sym c.deref.ensures.value)
    (each-weaker (λ (leaf : Leaf). leaf.properties.names ≡ built_names)
    (λ (leaf : Leaf). c.begin_with.new.doc.names ≡ leaf.properties.names)
    (λ leaf same. names ∙ sym same) c.in_ok-leaves.leaves.items c.in_ok-leaves.ensures.same_names)

pub add_leaves-requires-clause-may : goal.add_leaves-requires-clause-may
add_leaves-requires-clause-may c =
    let at = (goal.at.add_leaves-requires-clause-may c).In_ok-leaves in
    subst (λ (leaves : List Leaf). MayAdd c.begin_with.new.doc (events (leaf_nodes (map leaf_model leaves)))) (sym c.deref.ensures.value)
    (subst (MayAdd c.begin_with.new.doc) (sym (leaf_events at))
    (may_have_children c.args.doc.now (begin c.args.parts) (children c.args.parts) c.begin_with.new.doc (begun at) c.requires.may))

-- The node gets its children.
filled : (parts : BuiltParts) (begun more : Doc) (leaves added : List Leaf) → events (leaf_nodes (map leaf_model leaves)) ≡ children parts →
    added ≡ leaves → more ≡ with_events begun (events (leaf_nodes (map leaf_model added))) → more ≡ with_events begun (children parts)
filled parts begun more leaves added are same is =
    is ∙ ap (λ (leaves : List Leaf). with_events begun (events (leaf_nodes (map leaf_model leaves)))) same ∙ ap (with_events begun) are

pub end-requires : goal.end-requires
end-requires c =
    let at = (goal.at.end-requires c).In_ok-leaves in
    may_end c.args.doc.now (begin c.args.parts) (children c.args.parts) c.begin_with.new.doc c.add_leaves.new.doc (begun at)
    (filled c.args.parts c.begin_with.new.doc c.add_leaves.new.doc c.in_ok-leaves.leaves.items c.deref.result.now (leaf_events at)
    c.deref.ensures.value c.in_ok-add_leaves.ensures.added) c.requires.may

pub returns : goal.returns
returns c =
    let at = (goal.at.returns c).In_ok-leaves in
    record {
      added = c.end.ensures
          ∙ whole_added c.args.doc.now (begin c.args.parts) (children c.args.parts) c.begin_with.new.doc c.add_leaves.new.doc (begun at)
          (filled c.args.parts c.begin_with.new.doc c.add_leaves.new.doc c.in_ok-leaves.leaves.items c.deref.result.now (leaf_events at)
          c.deref.ensures.value c.in_ok-add_leaves.ensures.added);
    }
