use Rattle.std.proofs.Common.{◌≡◌, ap, subst, sym, ◌∙◌}
use Rattle.bi_base.specs.declared.fault.Fault.{Fault}
use Rattle.bi_base.specs.Reading.{too_large}
use Rattle.bi_base.specs.Slices.{bytes_of}
use Rattle.bi_base.proofs.Refusals.{refusal_passed_on}
use Rattle.bi_fdt.specs.Content.{root_of}
use Rattle.bi_fit.specs.NameOrders.{IsNameOrder}
use Rattle.bi_fit.specs.NormalNodes.{with_reservations}
use Rattle.bi_fdt.specs.Views.{node_of}
use Rattle.bi_fit.specs.Content.{tree_of}
use Rattle.bi_fit.specs.Documents.{IsTextFault}
use Rattle.bi_fit.specs.LongNames.{HasLongerNames}
use Rattle.bi_fit.specs.Updating.{with_changes}
use Rattle.bi_fit.proofs.LongNames.{too_long_names}
use Rattle.bi_fit.proofs.NormalDocuments.{images_there, images_position_there, names_distinct, may_add_tree, is_document_of}
use Rattle.bi_fit.proofs.NormalDocuments.{document_closed}
use Rattle.bi_fit.proofs.fit.Fit.build_updated_doc.Goals as goal

pub returns-in_err-order-clause-failed : goal.returns-in_err-order-clause-failed
returns-in_err-order-clause-failed c =
    let longer : Fault → Type 0 = λ fault. (fault ≡ too_large c.file.result)
    × HasLongerNames c.file.result (root_of c.blob-blob.result.now) in
    let late = IsTextFault c.args.limits c.args.form (with_changes c.args.changes (tree_of c.args.self.now)) in
    refusal_passed_on c.from_residual.result c.in_err-order.field-0.0 longer longer late c.from_residual.ensures.1
    c.in_err-order.ensures.failed c.in_err-order.ensures.failed
    (λ fault one other. too_long_names c.args.self.now c.args.form c.args.changes c.args.limits c.file.result c.file.ensures.value
    c.blob-blob.result.now c.blob-blob.ensures fault one)

pub add_tree-requires-clause-order : goal.add_tree-requires-clause-order
add_tree-requires-clause-order c = record {
  same_names = ap (λ document. document.names)
      (c.in_ok-add_reservations.ensures.added
      ∙ ap (λ document. with_reservations document c.blob-blob.result.now.reservations) c.in_ok-doc.ensures.empty) ∙ c.in_ok-names.ensures;
  is_order = subst (λ table. IsNameOrder table c.in_ok-order.order) (sym c.root.ensures.same_table) c.in_ok-order.ensures.order;
}

pub add_tree-requires-clause-images : goal.add_tree-requires-clause-images
add_tree-requires-clause-images c =
    images_there c.args.self.now c.give_invariant.ensures c.args.changes c.args.form c.args.digests.now c.requires.digests
    c.blob-blob.result.now c.blob-blob.ensures c.images-images.result.now c.images-images.ensures
    (node_of c.root.result) c.root.ensures.root

pub add_tree-requires-clause-position : goal.add_tree-requires-clause-position
add_tree-requires-clause-position c =
    images_position_there c.args.self.now c.give_invariant.ensures c.args.changes c.args.form c.args.digests.now c.requires.digests
    c.blob-blob.result.now c.blob-blob.ensures c.images-images.result.now c.images-images.ensures
    (node_of c.root.result) c.root.ensures.root
    c.images_position.result c.images_position.ensures

pub add_tree-requires-clause-distinct : goal.add_tree-requires-clause-distinct
add_tree-requires-clause-distinct c =
    names_distinct c.args.self.now c.give_invariant.ensures c.args.changes c.args.form c.args.digests.now c.requires.digests
    c.blob-blob.result.now c.blob-blob.ensures c.images-images.result.now c.images-images.ensures
    (node_of c.root.result) c.root.ensures.root

pub add_tree-requires-clause-may : goal.add_tree-requires-clause-may
add_tree-requires-clause-may c =
    may_add_tree c.args.self.now c.give_invariant.ensures c.args.changes c.args.form c.args.digests.now c.requires.digests
    c.blob-blob.result.now c.blob-blob.ensures c.images-images.result.now c.images-images.ensures
    (node_of c.root.result) c.root.ensures.root
    c.boot_cpu.result c.boot_cpu.ensures
    (bytes_of c.in_ok-names.names.items) c.in_ok-doc.doc c.add_reservations.new.doc c.in_ok-doc.ensures.empty
    c.in_ok-add_reservations.ensures.added

pub returns-clause-document : goal.returns-clause-document
returns-clause-document c =
    is_document_of c.args.self.now c.give_invariant.ensures c.args.changes c.args.form c.args.digests.now c.requires.digests
    c.blob-blob.result.now c.blob-blob.ensures c.images-images.result.now c.images-images.ensures
    (node_of c.root.result) c.root.ensures.root
    c.boot_cpu.result c.boot_cpu.ensures
    (bytes_of c.in_ok-names.names.items) c.in_ok-doc.doc c.add_reservations.new.doc c.in_ok-doc.ensures.empty
    c.in_ok-add_reservations.ensures.added
    c.add_tree.new.doc c.in_ok-add_tree.ensures.added

pub returns-clause-closed : goal.returns-clause-closed
returns-clause-closed c =
    document_closed c.args.self.now c.give_invariant.ensures c.args.changes c.args.form c.args.digests.now
    c.requires.digests c.add_tree.new.doc
    (is_document_of c.args.self.now c.give_invariant.ensures c.args.changes c.args.form c.args.digests.now c.requires.digests
    c.blob-blob.result.now c.blob-blob.ensures c.images-images.result.now c.images-images.ensures
    (node_of c.root.result) c.root.ensures.root
    c.boot_cpu.result c.boot_cpu.ensures
    (bytes_of c.in_ok-names.names.items) c.in_ok-doc.doc c.add_reservations.new.doc c.in_ok-doc.ensures.empty
    c.in_ok-add_reservations.ensures.added
    c.add_tree.new.doc c.in_ok-add_tree.ensures.added)
