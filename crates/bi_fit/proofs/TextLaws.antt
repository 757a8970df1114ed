use Rattle.std.proofs.Common.{◌≡◌, ℕ, ◌%◌, ◌<◌, ◌≤◌, List, [], ◌∷◌, ◌++◌, length, Option, refl, sym, ap, subst, ◌∙◌, arith, rules}
use Rattle.std.proofs.Common.{length-append}
use Rattle.bi_base.specs.Limits.{Limits}
use Rattle.bi_base.proofs.AlignmentLaws.{alignment-positive}
use Rattle.bi_blob.specs.Tree.{depth_of}
use Rattle.bi_blob.specs.Blob.{IsWithin}
use Rattle.bi_blob.specs.Layout.{longest_text}
use Rattle.bi_blob.proofs.Texts.TextBlob.{has_text_length}
use Rattle.bi_fit.specs.declared.form.Form.{Form}
use Rattle.bi_fit.specs.ImageTree.{ImageTree, IsImageTree}
use Rattle.bi_fit.specs.File.{IsFitFile, FitMeans}
use Rattle.bi_fit.specs.Text.{alignment_of, blob_alignment, normal_tree, blob_of, payloads_end, end_after, payloads_after}
use Rattle.bi_fit.specs.Text.{after_blob, fit_text}
use Rattle.bi_fit.specs.Judgement.{judgement}
use Rattle.bi_fit.specs.Laws.{FileMeansImageTree, FitTextIsAccepted, NormalFitTextIsAccepted, SameTextSameTree, TextKeepsJudgement}
use Rattle.bi_fit.specs.Laws.{SameTextSameJudgement, AlignedByFourIsExternal, EachExternalTextHasItsLength, PayloadsEndLater}
use Rattle.bi_fit.proofs.FormAlignments.{form-aligned, form-positive}
use Rattle.bi_fit.proofs.Meanings.{one_fit_meaning}
use Rattle.bi_fit.proofs.Faults.{fit_has_no_fault}
use Rattle.bi_fit.proofs.PayloadAreas.{length-payload_area, payloads_end-le}
use Rattle.bi_fit.proofs.FileTrees.{is_image_tree, depth-image_tree}
use Rattle.bi_fit.proofs.Texts.{blob_of_text, fit_text_means, depth-normal_tree}

-- The text of an image tree is accepted and means the tree, texts are the same if and only if the trees are, and a text keeps verdicts,
-- configurations, default and signatures.

pub file_means_image_tree : FileMeansImageTree
file_means_image_tree = is_image_tree

-- A text means its tree within limits that hold it.
text_means_within : (bounds : Limits) (form : Form) (tree : ImageTree) → IsImageTree tree → depth_of tree.root ≤ bounds.depth →
    length (fit_text form tree) ≤ bounds.file → bounds.file ≤ longest_text → FitMeans bounds (fit_text form tree) tree
text_means_within bounds form tree is shallow fits short =
    let fits_text : length (fit_text form tree) ≤ longest_text = omega (arith, fits, short) in
    let means = fit_text_means form tree is fits_text in
    let same_depth = (blob_of_text form tree is fits_text).same_depth ∙ depth-normal_tree form tree in
    record {
      is_file = means.0;
      within = subst (IsWithin bounds (fit_text form tree)) (sym means.1)
          (record { short = fits; shallow = subst (λ n. n ≤ bounds.depth) (sym same_depth) shallow });
    }

pub fit_text_is_accepted : FitTextIsAccepted
fit_text_is_accepted bounds form tree is shallow fits short =
    let means = text_means_within bounds form tree is shallow fits short in
    record { means = means; no_fault = λ fault. fit_has_no_fault bounds (fit_text form tree) tree fault means }

pub normal_fit_text_is_accepted : NormalFitTextIsAccepted
normal_fit_text_is_accepted bounds form file tree means fits short =
    fit_text_is_accepted bounds form tree (is_image_tree file tree means.is_file)
    (subst (λ n. n ≤ bounds.depth) (sym (depth-image_tree file tree means.is_file)) means.within.shallow)
    fits short

pub same_text_same_tree : SameTextSameTree
same_text_same_tree form one other is is_other short = (
  (λ same.
      one_fit_meaning (fit_text form one) one other (fit_text_means form one is short).0
      (subst (λ text. IsFitFile text other) (sym same)
      (fit_text_means form other is_other (subst (λ text. length text ≤ longest_text) same short)).0)),
  (λ same. ap (fit_text form) same),
)

pub text_keeps_judgement : TextKeepsJudgement
text_keeps_judgement form file tree other is short is_text =
    ap judgement (one_fit_meaning (fit_text form tree) other tree is_text (fit_text_means form tree (is_image_tree file tree is) short).0)

pub same_text_same_judgement : SameTextSameJudgement
same_text_same_judgement form file other_file tree other is is_other short same =
    ap judgement ((same_text_same_tree form tree other (is_image_tree file tree is) (is_image_tree other_file other is_other) short).0 same)

pub each_external_text_has_its_length : EachExternalTextHasItsLength
each_external_text_has_its_length form align tree aligned = record {
  is_length = omega (
    arith,
    length-append (blob_of form tree) (after_blob form tree),
    ap (λ alignment. length (payloads_after alignment tree.payloads)) aligned,
    length-payload_area align 0 tree.payloads (subst (λ n. 0 < n) (ap blob_alignment aligned) (form-positive form)),
  );
  blob_is_whole = subst (λ n. length (blob_of form tree) % n ≡ 0) (ap blob_alignment aligned)
      (has_text_length (blob_alignment (alignment_of form)) tree.cpu tree.reservations (normal_tree form tree)
      (form-aligned form)).is_whole;
}

-- The text in a form is made with the alignment of the form alone.
pub aligned_by_four_is_external : AlignedByFourIsExternal
aligned_by_four_is_external align tree is = search rules

-- Payloads end where the last of them do.
pub payloads_end-append : (align end : ℕ) (first later : List (Option (List ℕ))) →
    payloads_end align end (first ++ later) ≡ payloads_end align (payloads_end align end first) later
payloads_end-append align end [] later = refl
payloads_end-append align end (payload ∷ first) later = payloads_end-append align (end_after align end payload) first later

pub payloads_end_later : PayloadsEndLater
payloads_end_later align first later aligned = search (rules, payloads_end-append, payloads_end-le, alignment-positive)
