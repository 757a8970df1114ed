use Rattle.std.proofs.Common.{◌≡◌, [], sym, ap, subst, ◌∙◌, nat_cmp}
use Rattle.std.specs.Cmp.Lexicographic.{slice_cmp}
use Rattle.std.specs.FinMap.{from_entries}
use Rattle.bi_blob.specs.Events.{events}
use Rattle.bi_blob.specs.Tree.{PropertyMap}
use Rattle.bi_fit.specs.NormalNodes.{MayAdd, with_events, begin_events}
use Rattle.bi_fit.specs.Names.{images_name}
use Rattle.bi_fit.proofs.AddedEvents.{may_begin, may_have_children, may_end, whole_added}
use Rattle.bi_fit.specs.NamedImages.{head_model, named_models}
use Rattle.bi_fit.specs.BuiltNodes.{built_image_nodes}
use Rattle.bi_fit.proofs.building.document.add_built_images.Goals as goal

-- The node of the images has no properties.
abbrev own : PropertyMap
own = from_entries {R = slice_cmp nat_cmp} []

pub begin_with-requires-clause-names : goal.begin_with-requires-clause-names
begin_with-requires-clause-names c = c.requires.doc_names ∙ sym c.requires.names ∙ sym (ap (λ m. m.names) c.new-properties.ensures)

pub begin_with-requires-clause-may : goal.begin_with-requires-clause-may
begin_with-requires-clause-may c =
    let children = events (built_image_nodes c.args.form 0 (head_model c.args.parts.head) c.args.parts.plan.algorithms.now
    (named_models c.args.parts.images.now)) in
    let begins : begin_events images_name c.new-properties.result.by_name
    ≡ begin_events images_name own = ap (λ properties. begin_events images_name properties.by_name) c.new-properties.ensures in
    subst (MayAdd c.args.doc.now) (sym begins) (may_begin c.args.doc.now (begin_events images_name own) children c.requires.may)

pub add_built_image_nodes-requires-clause-may : goal.add_built_image_nodes-requires-clause-may
add_built_image_nodes-requires-clause-may c =
    let children = events (built_image_nodes c.args.form 0 (head_model c.args.parts.head) c.args.parts.plan.algorithms.now
    (named_models c.args.parts.images.now)) in
    let begins : begin_events images_name c.new-properties.result.by_name
    ≡ begin_events images_name own = ap (λ properties. begin_events images_name properties.by_name) c.new-properties.ensures in
    let begun : c.begin_with.new.doc ≡ with_events c.args.doc.now (begin_events images_name own) =
    c.in_ok-begin_with.ensures.added ∙ ap (with_events c.args.doc.now) begins in
    may_have_children c.args.doc.now (begin_events images_name own) children c.begin_with.new.doc begun c.requires.may

pub end-requires : goal.end-requires
end-requires c =
    let children = events (built_image_nodes c.args.form 0 (head_model c.args.parts.head) c.args.parts.plan.algorithms.now
    (named_models c.args.parts.images.now)) in
    let begins : begin_events images_name c.new-properties.result.by_name
    ≡ begin_events images_name own = ap (λ properties. begin_events images_name properties.by_name) c.new-properties.ensures in
    let begun : c.begin_with.new.doc ≡ with_events c.args.doc.now (begin_events images_name own) =
    c.in_ok-begin_with.ensures.added ∙ ap (with_events c.args.doc.now) begins in
    may_end c.args.doc.now (begin_events images_name own) children c.begin_with.new.doc c.add_built_image_nodes.new.doc begun
    c.in_ok-add_built_image_nodes.ensures.added c.requires.may

pub returns : goal.returns
returns c =
    let children = events (built_image_nodes c.args.form 0 (head_model c.args.parts.head) c.args.parts.plan.algorithms.now
    (named_models c.args.parts.images.now)) in
    let begins : begin_events images_name c.new-properties.result.by_name
    ≡ begin_events images_name own = ap (λ properties. begin_events images_name properties.by_name) c.new-properties.ensures in
    let begun : c.begin_with.new.doc ≡ with_events c.args.doc.now (begin_events images_name own) =
    c.in_ok-begin_with.ensures.added ∙ ap (with_events c.args.doc.now) begins in
    record {
      added = c.end.ensures ∙ whole_added c.args.doc.now
          (begin_events images_name own) children c.begin_with.new.doc c.add_built_image_nodes.new.doc begun
          c.in_ok-add_built_image_nodes.ensures.added;
    }
