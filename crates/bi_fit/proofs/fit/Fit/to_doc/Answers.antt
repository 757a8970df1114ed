use Rattle.std.proofs.Common.{◌≡◌, length, map, ap, subst, arith, None, false}
use Rattle.bi_base.specs.Errors.{IsFaultOrNoMemory}
use Rattle.bi_lay.specs.Contents.{HaveSameContent, text_of}
use Rattle.bi_fit.specs.declared.changes.Changes.{Changes}
use Rattle.bi_fit.specs.Content.{tree_of}
use Rattle.bi_fit.specs.Documents.{length_after_blob, IsTextFault, document_of}
use Rattle.bi_fit.specs.ImageTree.{ImageTree}
use Rattle.bi_fit.specs.NormalNodes.{payloads_of}
use Rattle.bi_fit.specs.Updating.{with_changes}
use Rattle.bi_fit.proofs.WholeTexts.{too_long_after, too_long_text, document_error_passed_on, length-whole_text, whole_text_of_tree}
use Rattle.bi_fit.proofs.WholeTexts.{too_long_passed_on}
use Rattle.bi_fit.proofs.fit.Fit.to_doc.Goals as goal

-- Without changes a tree stays as it is.
unchanged : (changes : Changes) (tree : ImageTree) → (changes.time ≡ None) × (changes.hashes ≡ false) → with_changes changes tree ≡ tree
unchanged changes tree none = ap (λ changes. with_changes changes tree) (λ i. record { time = none.0 i; hashes = none.1 i })

pub returns-in_err-after-clause-failed : goal.returns-in_err-after-clause-failed
returns-in_err-after-clause-failed c =
    let tree = tree_of c.args.self.now in
    let refused = c.in_err-after.ensures.fault in
    too_long_passed_on c.from_residual.result c.args.limits c.args.form tree c.in_err-after.field-0.0 c.from_residual.ensures.1
    (too_long_after c.args.form tree (payloads_of c.images.result.now) (ap (map (λ image. image.payload)) c.images.ensures)
    c.args.limits c.file-limit.result c.file-limit.ensures.value c.in_err-after.field-0.0 refused.0 refused.1)

pub returns-in_err-document-clause-failed : goal.returns-in_err-document-clause-failed
returns-in_err-document-clause-failed c =
    let tree = tree_of c.args.self.now in
    document_error_passed_on c.from_residual-in_err-document.result c.in_err-document.field-0.0 c.args.limits c.args.form tree
    c.from_residual-in_err-document.ensures.1
    (subst (λ tree. IsFaultOrNoMemory (IsTextFault c.args.limits c.args.form tree) c.in_err-document.field-0.0)
    (unchanged c.default.result tree c.default.ensures)
    c.in_err-document.ensures.failed)
    (omega (
      arith,
      ap (λ images. length_after_blob c.args.form (map (λ image. image.payload) images)) c.images.ensures,
      c.in_ok-after.ensures.length,
      c.in_ok-after.ensures.within,
      c.file-limit.ensures.value,
    ))

pub returns-in_err-check_length-clause-failed : goal.returns-in_err-check_length-clause-failed
returns-in_err-check_length-clause-failed c =
    let tree = tree_of c.args.self.now in
    let payloads = payloads_of c.images.result.now in
    let document = c.in_ok-document.document in
    let content = subst (λ tree. HaveSameContent document (document_of c.args.form tree))
    (unchanged c.default.result tree c.default.ensures) c.in_ok-document.ensures.document in
    let refused = c.in_err-check_length.ensures.fault in
    too_long_passed_on c.from_residual-in_err-check_length.result c.args.limits c.args.form tree c.in_err-check_length.field-0.0
    c.from_residual-in_err-check_length.ensures.1
    (too_long_text c.args.form tree payloads (ap (map (λ image. image.payload)) c.images.ensures)
    c.args.limits c.file-limit.result c.file-limit.ensures.value c.in_err-check_length.field-0.0 refused.0 document content
    (omega (
      arith,
      length-whole_text c.args.form document payloads,
      c.in_ok-after.ensures.length,
      refused.1,
      ap (λ n. length (text_of n document)) c.align.ensures,
    )))

pub returns-clause-short : goal.returns-clause-short
returns-clause-short c =
    let tree = tree_of c.args.self.now in
    let payloads = payloads_of c.images.result.now in
    let document = c.in_ok-document.document in
    let content = subst (λ tree. HaveSameContent document (document_of c.args.form tree))
    (unchanged c.default.result tree c.default.ensures) c.in_ok-document.ensures.document in
    let is_whole = whole_text_of_tree c.args.form tree payloads (ap (map (λ image. image.payload)) c.images.ensures) document content in
    omega (
      arith,
      ap length is_whole,
      length-whole_text c.args.form document payloads,
      c.in_ok-after.ensures.length,
      c.in_ok-check_length.ensures.ok,
      ap (λ n. length (text_of n document)) c.align.ensures,
      c.file-limit.ensures.value,
    )
