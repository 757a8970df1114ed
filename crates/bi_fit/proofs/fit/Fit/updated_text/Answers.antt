use Rattle.std.proofs.Common.{map, ap, arith}
use Rattle.bi_fit.specs.Content.{tree_of}
use Rattle.bi_fit.specs.Updating.{with_changes}
use Rattle.bi_fit.specs.Documents.{length_after_blob}
use Rattle.bi_fit.specs.NormalNodes.{payloads_of}
use Rattle.bi_fit.proofs.WholeTexts.{too_long_after, document_error_passed_on, is_text_of_tree, too_long_passed_on}
use Rattle.bi_fit.proofs.fit.Fit.updated_text.Goals as goal

pub returns-in_err-after-clause-failed : goal.returns-in_err-after-clause-failed
returns-in_err-after-clause-failed c =
    let tree = with_changes c.args.changes (tree_of c.args.self.now) in
    let refused = c.in_err-after.ensures.fault in
    too_long_passed_on c.from_residual.result c.args.limits c.args.form tree c.in_err-after.field-0.0 c.from_residual.ensures.1
    (too_long_after c.args.form tree (payloads_of c.images-images.result.now) (ap (map (λ image. image.payload)) c.images-images.ensures)
    c.args.limits c.file-limit.result c.file-limit.ensures.value c.in_err-after.field-0.0 refused.0 refused.1)

pub returns-in_err-document-clause-failed : goal.returns-in_err-document-clause-failed
returns-in_err-document-clause-failed c =
    let tree = with_changes c.args.changes (tree_of c.args.self.now) in
    document_error_passed_on c.from_residual-in_err-document.result c.in_err-document.field-0.0 c.args.limits c.args.form tree
    c.from_residual-in_err-document.ensures.1 c.in_err-document.ensures.failed
    (omega (
      arith,
      ap (λ images. length_after_blob c.args.form (map (λ image. image.payload) images)) c.images-images.ensures,
      c.in_ok-after.ensures.length,
      c.in_ok-after.ensures.within,
      c.file-limit.ensures.value,
    ))

pub returns-clause-text : goal.returns-clause-text
returns-clause-text c =
    let tree = with_changes c.args.changes (tree_of c.args.self.now) in
    is_text_of_tree c.args.form tree (payloads_of c.images-images.result.now) (ap (map (λ image. image.payload)) c.images-images.ensures)
    c.args.limits c.file-limit.result c.file-limit.ensures.value c.in_ok-document.document c.in_ok-document.ensures.document
    c.in_ok-new.field-0 c.in_ok-new.ensures.text c.in_ok-new.ensures.short
