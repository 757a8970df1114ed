use Rattle.std.proofs.Common.{◌≡◌, ℕ, List, sym, ap, subst, ◌∙◌}
use Rattle.bi_blob.specs.Tree.{PropertyMap}
use Rattle.bi_blob.specs.Events.{Event, events}
use Rattle.bi_fit.specs.declared.document.image_node.ImageNode.{ImageNode}
use Rattle.bi_fit.specs.declared.payload_area.PayloadArea.{PayloadArea}
use Rattle.bi_fit.specs.ImageTree.{without_payload}
use Rattle.bi_fit.specs.Text.{alignment_of, with_payload}
use Rattle.bi_fit.specs.NormalNodes.{MayAdd, with_events, begin_events, next_begin}
use Rattle.bi_fit.specs.AddedImages.{AreAddable, added_payload, added_children, added_properties}
use Rattle.bi_fit.proofs.AddedEvents.{document_keeps_names, may_begin, may_have_children, may_end, whole_added}
use Rattle.bi_fit.proofs.document.image_node.add_image_node.Goals as goal

-- The events with which the node begins.
abbrev begin : PayloadArea → ImageNode → List Event
begin area image = begin_events image.name.now (added_properties area.form (next_begin area.form area.end) image)

begins : (area : PayloadArea) (image : ImageNode) (at : ℕ) (set : PropertyMap) → at ≡ next_begin area.form area.end →
    set ≡ with_payload (alignment_of area.form) at (added_payload image) (without_payload image.properties.by_name) →
    begin_events image.name.now set ≡ begin area image
begins area image at set is_at is_set =
    ap (begin_events image.name.now)
    (is_set ∙ ap (λ at. with_payload (alignment_of area.form) at (added_payload image) (without_payload image.properties.by_name)) is_at)

pub begin_with-requires-clause-names : goal.begin_with-requires-clause-names
begin_with-requires-clause-names c = c.requires.names ∙ sym c.in_ok-set_payload.ensures.same_names

pub begin_with-requires-clause-may : goal.begin_with-requires-clause-may
begin_with-requires-clause-may c =
    let begun = begins c.args.area.now c.args.image c.place-begin.result c.set_payload.new.self.by_name c.place-begin.ensures.begin
    c.in_ok-set_payload.ensures.set in
    subst (MayAdd c.args.doc.now) (sym begun)
    (may_begin c.args.doc.now (begin c.args.area.now c.args.image) (events (added_children c.args.image.children)) c.requires.may)

pub add_image_children-requires-clause-addable : goal.add_image_children-requires-clause-addable
add_image_children-requires-clause-addable c =
    subst (λ names. AreAddable names c.args.image.children)
    (sym (document_keeps_names c.args.doc.now c.begin_with.new.doc _ c.in_ok-begin_with.ensures.added)) c.requires.children

pub add_image_children-requires-clause-may : goal.add_image_children-requires-clause-may
add_image_children-requires-clause-may c =
    let begun = begins c.args.area.now c.args.image c.place-begin.result c.set_payload.new.self.by_name c.place-begin.ensures.begin
    c.in_ok-set_payload.ensures.set in
    may_have_children c.args.doc.now (begin c.args.area.now c.args.image)
    (events (added_children c.args.image.children)) c.begin_with.new.doc
    (c.in_ok-begin_with.ensures.added ∙ ap (with_events c.args.doc.now) begun) c.requires.may

pub end-requires : goal.end-requires
end-requires c =
    let begun = begins c.args.area.now c.args.image c.place-begin.result c.set_payload.new.self.by_name c.place-begin.ensures.begin
    c.in_ok-set_payload.ensures.set in
    may_end c.args.doc.now (begin c.args.area.now c.args.image)
    (events (added_children c.args.image.children)) c.begin_with.new.doc c.add_image_children.new.doc
    (c.in_ok-begin_with.ensures.added ∙ ap (with_events c.args.doc.now) begun) c.in_ok-left.ensures.added c.requires.may

pub returns-clause-added : goal.returns-clause-added
returns-clause-added c =
    let begun = begins c.args.area.now c.args.image c.place-begin.result c.set_payload.new.self.by_name c.place-begin.ensures.begin
    c.in_ok-set_payload.ensures.set in
    c.end.ensures ∙ whole_added c.args.doc.now (begin c.args.area.now c.args.image)
    (events (added_children c.args.image.children)) c.begin_with.new.doc c.add_image_children.new.doc
    (c.in_ok-begin_with.ensures.added ∙ ap (with_events c.args.doc.now) begun) c.in_ok-left.ensures.added
