use Rattle.std.proofs.Common.{◌≡◌, ◌<◌, length, sym, ap, subst, ◌∙◌}
use Rattle.bi_base.specs.declared.fault.Fault.{Fault}
use Rattle.bi_base.specs.Reading.{too_large}
use Rattle.bi_base.specs.Slices.{bytes_of}
use Rattle.bi_base.proofs.Refusals.{refusal_passed_on}
use Rattle.bi_blob.specs.Tree.{as_nodes}
use Rattle.bi_blob.specs.Events.{events}
use Rattle.bi_blob.specs.Layout.{text_of_events}
use Rattle.bi_lay.specs.Contents.{empty_with_names}
use Rattle.bi_tree.specs.TreeNodes.{below}
use Rattle.bi_plain.specs.PlainText.{IsPlainTextFault, plain_text}
use Rattle.bi_plain.specs.Ranked.{HaveLongNames, sorted_models}
use Rattle.bi_plain.proofs.LongNames.{longer_text}
use Rattle.bi_plain.proofs.PlainDocuments.{is_plain_doc, may_add_plain, same_tree_events}
use Rattle.bi_plain.proofs.writer.build_doc.Goals as goal

pub returns-in_err-ranked-clause-failed : goal.returns-in_err-ranked-clause-failed
returns-in_err-ranked-clause-failed c =
    let limits = c.args.limits in
    let blob = c.args.blob.now in
    let inside = below c.tree.inside.root in
    let longer : Fault → Type 0 = λ fault. (fault ≡ too_large c.file.result) × HaveLongNames c.file.result (as_nodes inside) in
    refusal_passed_on c.from_residual.result c.in_err-ranked.field-0.0 longer longer
    (IsPlainTextFault limits blob.cpu blob.reservations c.args.tree.now) c.from_residual.ensures.1
    c.in_err-ranked.ensures.failed c.in_err-ranked.ensures.failed
    (λ fault one other. (
      one.0 ∙ ap too_large c.file.ensures.value,
      subst (λ root. limits.file < length (plain_text blob.cpu blob.reservations root)) c.tree.view_is
          (subst (λ all. limits.file < length (text_of_events 4 blob.cpu blob.reservations all)) (sym (same_tree_events inside))
          (subst (λ limit. limit < length (text_of_events 4 blob.cpu blob.reservations (events (sorted_models (as_nodes inside)))))
          c.file.ensures.value
          (longer_text c.file.result blob.cpu blob.reservations (as_nodes inside) one.1))),
    ))

pub add_node-requires-clause-may : goal.add_node-requires-clause-may
add_node-requires-clause-may c =
    may_add_plain c.args.blob.now.cpu c.args.blob.now.reservations c.args.tree.now c.requires (below c.tree.inside.root) c.tree.view_is
    (bytes_of c.in_ok-ranked.ranked.names.items) c.in_ok-doc.doc c.add_reservations.new.doc
    (c.in_ok-doc.ensures.empty ∙ ap (λ cpu. empty_with_names cpu (bytes_of c.in_ok-ranked.ranked.names.items)) c.boot_cpu.ensures)
    c.in_ok-add_reservations.ensures.added

pub returns-clause-document : goal.returns-clause-document
returns-clause-document c =
    is_plain_doc c.args.blob.now.cpu c.args.blob.now.reservations c.args.tree.now c.requires (below c.tree.inside.root) c.tree.view_is
    (bytes_of c.in_ok-ranked.ranked.names.items) c.in_ok-doc.doc c.add_reservations.new.doc
    (c.in_ok-doc.ensures.empty ∙ ap (λ cpu. empty_with_names cpu (bytes_of c.in_ok-ranked.ranked.names.items)) c.boot_cpu.ensures)
    c.in_ok-add_reservations.ensures.added
    c.add_node.new.doc c.in_ok-add_node.ensures.added
