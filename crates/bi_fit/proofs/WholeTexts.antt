use Rattle.std.proofs.Common.{◌≡◌, ℕ, ◌+◌, ◌<◌, ◌≤◌, List, length, Option, Result, refl, ap, subst, ◌∙◌, arith, length-append, rules}
use Rattle.std.specs.Result.{IfErr, IsErrAnd}
use Rattle.bi_base.specs.declared.fault.Error.{Error}
use Rattle.bi_base.specs.Errors.{IsFaultOrNoMemory}
use Rattle.bi_base.specs.declared.fault.Error.TheVariants.{Refused}
use Rattle.bi_base.specs.declared.fault.Fault.{Fault}
use Rattle.bi_base.specs.Limits.{Limits}
use Rattle.bi_base.specs.Reading.{too_large}
use Rattle.bi_base.proofs.Refusals.{error_passed_on}
use Rattle.bi_lay.specs.Contents.{Doc, text_of, HaveSameContent}
use Rattle.bi_fit.specs.declared.form.Form.{Form}
use Rattle.bi_fit.specs.declared.form.Form.TheVariants.{Embedded}
use Rattle.bi_fit.specs.Documents.{document_of, length_after_blob, whole_text, IsTextOfTree, IsTextFault, IsTextError}
use Rattle.bi_fit.specs.ImageTree.{ImageTree}
use Rattle.bi_fit.specs.Text.{alignment_of, blob_alignment, fit_text, payloads_after}
use Rattle.bi_fit.proofs.FormAlignments.{form-positive}
use Rattle.bi_fit.proofs.NormalTrees.{length-fit_text}
use Rattle.bi_fit.proofs.PayloadAreas.{length-payload_area}

-- The document of a tree with its payloads has the text of the tree, and the text is too long if what follows its blob is longer than the
-- limit.

-- How long what follows the blob is.
length-payloads_after : (form : Form) (payloads : List (Option (List ℕ))) →
    length (payloads_after (alignment_of form) payloads) ≡ length_after_blob form payloads
length-payloads_after Embedded payloads = refl
length-payloads_after form payloads =
    omega (arith, length-payload_area (blob_alignment (alignment_of form)) 0 payloads (form-positive form))

-- How long the text is.
pub length-whole_text : (form : Form) (document : Doc) (payloads : List (Option (List ℕ))) →
    length (whole_text form document payloads)
    ≡ length (text_of (blob_alignment (alignment_of form)) document) + length_after_blob form payloads
length-whole_text form document payloads = search (rules, length-append, length-payloads_after)

-- Documents with the same content have the same text.
same_text : (align : ℕ) (one other : Doc) → HaveSameContent one other → text_of align one ≡ text_of align other
same_text align one other same = search rules

module _ (form : Form) (tree : ImageTree) (payloads : List (Option (List ℕ))) (same : payloads ≡ tree.payloads) where
  -- The document of a tree, with its payloads, has the tree's text.
  pub whole_text_of_tree : (document : Doc) → HaveSameContent document (document_of form tree) →
      whole_text form document payloads ≡ fit_text form tree
  whole_text_of_tree document is = search (rules, same_text)

  -- The text of a tree is too long where what follows its blob is.
  pub late_payloads : (limit : ℕ) → limit < length_after_blob form payloads → limit < length (fit_text form tree)
  late_payloads limit late = search (rules, length-fit_text)

  module _ (limits : Limits) (limit : ℕ) (is_limit : limit ≡ limits.file) (fault : Fault) (is_fault : fault ≡ too_large limit) where
    -- So the fault is that the text is too long, where what follows the blob is,
    pub too_long_after : limit < length_after_blob form payloads → IsTextFault limits form tree fault
    too_long_after late =
        (is_fault ∙ ap too_large is_limit, subst (λ n. n < length (fit_text form tree)) is_limit (late_payloads limit late))

    -- and where the whole is.
    pub too_long_text : (document : Doc) → HaveSameContent document (document_of form tree) →
        limit < length (whole_text form document payloads) → IsTextFault limits form tree fault
    too_long_text document is late = search (rules, whole_text_of_tree)

  -- A text within the limit is that of the tree.
  pub is_text_of_tree : (limits : Limits) (limit : ℕ) → limit ≡ limits.file →
      (document : Doc) → HaveSameContent document (document_of form tree) →
      (text : List ℕ) → text ≡ whole_text form document payloads → length text ≤ limit → IsTextOfTree limits form tree text
  is_text_of_tree limits limit is_limit document is text is_whole short = search (rules, whole_text_of_tree)

-- An error of building the document of a tree is passed on as one of laying out its text, if what follows the blob is not too long.
pub document_error_passed_on : {A : Type 0} (r : Result A Error) (error : Error) (limits : Limits) (form : Form) (tree : ImageTree) →
    IsErrAnd r (λ other. other ≡ error) → IsFaultOrNoMemory (IsTextFault limits form tree) error →
    length_after_blob form tree.payloads ≤ limits.file → IfErr r (IsTextError limits form tree)
document_error_passed_on r error limits form tree is fails within = search (rules, error_passed_on)

-- Such a fault is passed on as an error.
pub too_long_passed_on : {A : Type 0} (r : Result A Error) (limits : Limits) (form : Form) (tree : ImageTree) (fault : Fault) →
    IsErrAnd r (λ error. error ≡ Refused fault) → IsTextFault limits form tree fault → IfErr r (IsTextError limits form tree)
too_long_passed_on r limits form tree fault is late = error_passed_on r (Refused fault) (IsTextError limits form tree) is late
