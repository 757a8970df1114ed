use Rattle.std.proofs.Common.{◌≡◌, [], sym, ap, subst, ◌∙◌}
use Rattle.std.specs.FinMap.{from_entries}
use Rattle.bi_fit.specs.Building.{built_root_properties}
use Rattle.bi_fit.specs.NormalNodes.{MayAdd, with_events, begin_events}
use Rattle.bi_fit.specs.NamedImages.{head_model, named_models, plan_model}
use Rattle.bi_fit.proofs.BuiltDocuments.{root_begin, may_begin_root, may_add_images, may_add_configurations, may_end_root, is_document}
use Rattle.bi_fit.proofs.BuiltDocuments.{is_closed, same_built_names}
use Rattle.bi_lay.specs.Contents.{empty_with_names}
use Rattle.bi_base.specs.Slices.{bytes_of}
use Rattle.bi_fit.specs.BuiltNames.{built_names}
use Rattle.bi_fit.proofs.PassedResults.{value_passed_on}
use Rattle.bi_fit.proofs.building.document.build_doc.Goals as goal
use Rattle.bi_fit.proofs.building.document.build_doc.Goals.{In_ok-doc}

-- The document has no events yet, and these names.
started : (c : In_ok-doc) → c.in_ok-doc.doc ≡ empty_with_names 0 built_names
started c =
    value_passed_on c.with_names.result c.in_ok-doc.doc
    (λ doc. doc ≡ empty_with_names 0 (bytes_of c.in_ok-by_rank.by_rank.items)) c.in_ok-doc.ensures.value c.with_names.ensures.empty
    ∙ ap (empty_with_names 0) (c.in_ok-by_rank.ensures ∙ c.in_ok-names.ensures)

pub begin_with-requires-clause-names : goal.begin_with-requires-clause-names
begin_with-requires-clause-names c =
    same_built_names c.in_ok-doc.doc.names c.in_ok-properties.properties
    (from_entries (built_root_properties (head_model c.args.parts.head)))
    (ap (λ document. document.names) (started (goal.at.begin_with-requires-clause-names c).In_ok-doc)) c.in_ok-properties.ensures

pub begin_with-requires-clause-may : goal.begin_with-requires-clause-may
begin_with-requires-clause-may c =
    let head = head_model c.args.parts.head in
    let images = named_models c.args.parts.images.now in
    let plan = plan_model c.args.parts.plan in
    subst (λ properties. MayAdd c.in_ok-doc.doc (begin_events [] properties.by_name)) (sym c.in_ok-properties.ensures)
    (may_begin_root c.args.form head plan images c.in_ok-doc.doc
    (started (goal.at.begin_with-requires-clause-may c).In_ok-doc) c.requires.prepared.can c.requires.prepared.is_plan)

pub add_built_images-requires-clause-may : goal.add_built_images-requires-clause-may
add_built_images-requires-clause-may c =
    let head = head_model c.args.parts.head in
    let images = named_models c.args.parts.images.now in
    let plan = plan_model c.args.parts.plan in
    let begun : c.begin_with.new.doc ≡ with_events c.in_ok-doc.doc (root_begin c.args.form head plan images) =
    c.in_ok-begin_with.ensures.added
    ∙ ap (λ properties. with_events c.in_ok-doc.doc (begin_events [] properties.by_name)) c.in_ok-properties.ensures in
    may_add_images c.args.form head plan images c.in_ok-doc.doc
    (started (goal.at.add_built_images-requires-clause-may c).In_ok-doc) c.requires.prepared.can c.requires.prepared.is_plan
    c.begin_with.new.doc begun

pub add_configurations-requires-clause-may : goal.add_configurations-requires-clause-may
add_configurations-requires-clause-may c =
    let head = head_model c.args.parts.head in
    let images = named_models c.args.parts.images.now in
    let plan = plan_model c.args.parts.plan in
    let begun : c.begin_with.new.doc ≡ with_events c.in_ok-doc.doc (root_begin c.args.form head plan images) =
    c.in_ok-begin_with.ensures.added
    ∙ ap (λ properties. with_events c.in_ok-doc.doc (begin_events [] properties.by_name)) c.in_ok-properties.ensures in
    may_add_configurations c.args.form head plan images c.in_ok-doc.doc
    (started (goal.at.add_configurations-requires-clause-may c).In_ok-doc) c.requires.prepared.can c.requires.prepared.is_plan
    c.begin_with.new.doc begun
    c.add_built_images.new.doc c.in_ok-add_built_images.ensures.added

pub end-requires : goal.end-requires
end-requires c =
    let head = head_model c.args.parts.head in
    let images = named_models c.args.parts.images.now in
    let plan = plan_model c.args.parts.plan in
    let begun : c.begin_with.new.doc ≡ with_events c.in_ok-doc.doc (root_begin c.args.form head plan images) =
    c.in_ok-begin_with.ensures.added
    ∙ ap (λ properties. with_events c.in_ok-doc.doc (begin_events [] properties.by_name)) c.in_ok-properties.ensures in
    may_end_root c.args.form head plan images c.in_ok-doc.doc
    (started (goal.at.end-requires c).In_ok-doc) c.requires.prepared.can c.requires.prepared.is_plan c.begin_with.new.doc begun
    c.add_built_images.new.doc c.in_ok-add_built_images.ensures.added c.add_configurations.new.doc c.in_ok-add_configurations.ensures.added

pub returns-clause-document : goal.returns-clause-document
returns-clause-document c =
    let head = head_model c.args.parts.head in
    let images = named_models c.args.parts.images.now in
    let plan = plan_model c.args.parts.plan in
    let begun : c.begin_with.new.doc ≡ with_events c.in_ok-doc.doc (root_begin c.args.form head plan images) =
    c.in_ok-begin_with.ensures.added
    ∙ ap (λ properties. with_events c.in_ok-doc.doc (begin_events [] properties.by_name)) c.in_ok-properties.ensures in
    (is_document c.args.form head plan images c.in_ok-doc.doc
    (started (goal.at.returns-clause-document c).In_ok-doc) c.requires.prepared.can c.requires.prepared.is_plan c.begin_with.new.doc begun
    c.add_built_images.new.doc c.in_ok-add_built_images.ensures.added c.add_configurations.new.doc
    c.in_ok-add_configurations.ensures.added c.end.new.self c.end.ensures)

pub returns-clause-closed : goal.returns-clause-closed
returns-clause-closed c =
    let head = head_model c.args.parts.head in
    let images = named_models c.args.parts.images.now in
    let plan = plan_model c.args.parts.plan in
    let begun : c.begin_with.new.doc ≡ with_events c.in_ok-doc.doc (root_begin c.args.form head plan images) =
    c.in_ok-begin_with.ensures.added
    ∙ ap (λ properties. with_events c.in_ok-doc.doc (begin_events [] properties.by_name)) c.in_ok-properties.ensures in
    is_closed c.args.form head plan images c.in_ok-doc.doc
    (started (goal.at.returns-clause-closed c).In_ok-doc) c.requires.prepared.can c.requires.prepared.is_plan c.begin_with.new.doc begun
    c.add_built_images.new.doc c.in_ok-add_built_images.ensures.added c.add_configurations.new.doc
    c.in_ok-add_configurations.ensures.added c.end.new.self c.end.ensures
