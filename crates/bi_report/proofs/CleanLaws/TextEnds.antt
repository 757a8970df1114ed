use Rattle.std.proofs.Common.{◌≡◌, ℕ, ◌+◌, ◌<◌, ◌≤◌, ◌↔◌, max, List, [], ◌∷◌, length, Option, Some, None, refl, ap, subst, rules}
use Rattle.std.proofs.Common.{arith, drop_of_length-le, length-append}
use Rattle.std.specs.List.{AllZip}
use Rattle.std.specs.Prelude.{unwrap_or}
use Rattle.bi_base.specs.Aligns.{align_bytes}
use Rattle.bi_base.specs.Cells.{up_to}
use Rattle.bi_base.specs.Limits.{Limits}
use Rattle.bi_base.proofs.AlignmentLaws.{up_to-le}
use Rattle.bi_blob.specs.Blob.{totalsize}
use Rattle.bi_blob.specs.Layout.{longest_text}
use Rattle.bi_blob.specs.Lookups.{Sibling}
use Rattle.bi_blob.specs.Tree.{Nodes, none, node, FileNode, PropertyMap}
use Rattle.bi_common.specs.PayloadBounds.{payloads_length}
use Rattle.bi_fit.specs.declared.form.Form.{Form}
use Rattle.bi_fit.specs.declared.form.Form.TheVariants.{Embedded, External, Aligned}
use Rattle.bi_fit.specs.File.{IsFitFile, FitMeans}
use Rattle.bi_fit.specs.ImageTree.{ImageTree, IsImageTree, each_own}
use Rattle.bi_fit.specs.Payloads.{source_of}
use Rattle.bi_fit.specs.Text.{alignment_of, blob_of, fit_text, payload_places, payloads_end}
use Rattle.bi_fit.proofs.FileTrees.{is_image_tree}
use Rattle.bi_fit.proofs.FormAlignments.{form-positive}
use Rattle.bi_fit.proofs.Meanings.{one_fit_meaning}
use Rattle.bi_fit.proofs.NormalTrees.{length-fit_text}
use Rattle.bi_fit.proofs.PayloadPlaces.{IsAlignedPlace, external_payloads_are_placed}
use Rattle.bi_fit.proofs.TextLaws.{each_external_text_has_its_length}
use Rattle.bi_fit.proofs.Texts.{blob_of_text}
use Rattle.bi_norm.proofs.FilesWithoutMeaning.{means_legacy, means_tree}
use Rattle.bi_report.specs.declared.check.Allowed.{Allowed}
use Rattle.bi_report.specs.Checking.{content_end, payload_end}
use Rattle.bi_report.specs.CleanFiles.{CleanImageTree, CleanLegacyImage, HasZerosAfter, IsClean, IsCleanTree, IsSignedNode}
use Rattle.bi_report.proofs.CleanLaws.ContentEnds.{zeros_after}
use Rattle.bi_report.proofs.CleanLaws.TextWidths.{embedded_payloads_fit, payloads_length-cons}

-- Nothing follows the content of the text of an image tree, and its payloads together are no longer than the text. So the text is clean if
-- and only if the tree is, if that has no signed node.

-- The content of a file ends at or after the end of the blob.
blob_before_end : (file : List ℕ) (nodes : Nodes FileNode) (payloads : List (Option (List ℕ))) →
    totalsize file ≤ content_end file nodes payloads
blob_before_end file none [] = omega arith
blob_before_end file none (payload ∷ payloads) = omega arith
blob_before_end file (node name own children later) [] = omega arith
blob_before_end file (node name own children later) (payload ∷ payloads) = search (rules, blob_before_end file later payloads)

-- If its payloads are where the layout has them, it ends at or after the end of each.
payloads_before_end : (align : ℕ) (file : List ℕ) (base end : ℕ) (nodes : Nodes FileNode) (payloads : List (Option (List ℕ))) →
    AllZip (IsAlignedPlace align file) (each_own nodes) (payload_places align base end payloads) →
    base + payloads_end align end payloads ≤ max (content_end file nodes payloads) (base + end)
payloads_before_end align file base end none [] placed = omega arith
payloads_before_end align file base end (node name own children later) [] placed = omega arith
payloads_before_end align file base end none (None ∷ payloads) placed = absurd placed
payloads_before_end align file base end none (Some payload ∷ payloads) placed = absurd placed
payloads_before_end align file base end (node name own children later) (None ∷ payloads) placed =
    let rest : base + payloads_end align end payloads ≤ max (content_end file later payloads) (base + end)
    = payloads_before_end align file base end later payloads placed.1 in
    omega (arith, rest)
payloads_before_end align file base end (node name own children later) (Some payload ∷ payloads) placed =
    let next : ℕ = up_to align end + length payload in
    let rest : base + payloads_end align next payloads ≤ max (content_end file later payloads) (base + next)
    = payloads_before_end align file base next later payloads placed.1 in
    let here : payload_end file (source_of own) (Some payload) ≡ base + up_to align end + length payload
    = ap (λ place. unwrap_or place 0 + length payload) placed.0.0 in
    omega (arith, rest, here)

-- Payloads that follow a blob end no earlier than they are long.
payloads_end-long : (align end : ℕ) (payloads : List (Option (List ℕ))) → 0 < align →
    end + payloads_length payloads ≤ payloads_end align end payloads
payloads_end-long align end [] positive = omega arith
payloads_end-long align end (None ∷ later) positive = search (rules, payloads_length-cons, payloads_end-long align end later positive)
payloads_end-long align end (Some payload ∷ later) positive =
    let next : ℕ = up_to align end + length payload in
    let rest : next + payloads_length later ≤ payloads_end align next later = payloads_end-long align next later positive in
    omega (arith, rest, up_to-le align end positive, payloads_length-cons (Some payload) later)

-- The payloads of a text together are no longer than the text.
pub payloads_fit : (form : Form) (tree : ImageTree) → IsImageTree tree → payloads_length tree.payloads ≤ length (fit_text form tree)
payloads_fit Embedded tree is = omega (arith, embedded_payloads_fit tree is, length-append (blob_of Embedded tree) [])
payloads_fit form tree is = search (rules, length-fit_text, payloads_end-long, form-positive)

module _ (form : Form) (tree : ImageTree) (short : length (fit_text form tree) ≤ longest_text)
    (is : IsFitFile (fit_text form tree) tree) where
  blob_total : totalsize (fit_text form tree) ≡ length (blob_of form tree)
  blob_total = (blob_of_text form tree (is_image_tree (fit_text form tree) tree is) short).is_total

  -- A text with external payloads has nothing after its content.
  external_end : (align : ℕ) → alignment_of form ≡ Some align →
      length (fit_text form tree) ≤ content_end (fit_text form tree) is.images tree.payloads
  external_end align aligned =
      let whole : length (fit_text form tree) ≡ length (blob_of form tree) + payloads_end align 0 tree.payloads
      = (each_external_text_has_its_length form align tree aligned).is_length in
      let reaches : length (blob_of form tree) + payloads_end align 0 tree.payloads
      ≤ max (content_end (fit_text form tree) is.images tree.payloads) (length (blob_of form tree) + 0)
      = payloads_before_end align (fit_text form tree) (length (blob_of form tree)) 0 is.images tree.payloads
      (external_payloads_are_placed form align tree aligned short is) in
      omega (arith, whole, reaches, blob_total, blob_before_end (fit_text form tree) is.images tree.payloads)

-- No text has.
pub text_end : (form : Form) (tree : ImageTree) → length (fit_text form tree) ≤ longest_text → (is : IsFitFile (fit_text form tree) tree) →
    length (fit_text form tree) ≤ content_end (fit_text form tree) is.images tree.payloads
text_end Embedded tree short is =
    omega (
      arith,
      length-append (blob_of Embedded tree) [],
      blob_total Embedded tree short is,
      blob_before_end (fit_text Embedded tree) is.images tree.payloads,
    )
text_end External tree short is = external_end External tree short is 4 refl
text_end (Aligned align) tree short is = external_end (Aligned align) tree short is (align_bytes align) refl

module _ (allowed : Allowed) (bounds : Limits) (form : Form) (tree : ImageTree) (means : FitMeans bounds (fit_text form tree) tree)
    (short : length (fit_text form tree) ≤ longest_text)
    (unsigned : (configuration signature : Sibling PropertyMap) → ¬ (IsSignedNode tree configuration signature)) where
  abbrev text : List ℕ
  text = fit_text form tree

  nothing_after : HasZerosAfter text means.is_file.images tree.payloads
  nothing_after = search (rules, zeros_after, drop_of_length-le, text_end)

  -- So it is clean if and only if its tree is, if that has no signed node.
  pub text_is_clean : IsClean allowed bounds text ↔ IsCleanTree allowed tree
  text_is_clean = (
    clean_tree,
    λ clean. CleanImageTree tree means clean (λ refused configuration signature is. absurd (unsigned configuration signature is))
        (λ refused. nothing_after),
  )
    where
      clean_tree : IsClean allowed bounds text → IsCleanTree allowed tree
      clean_tree (CleanLegacyImage parsed opened of_signatures zeros) =
          absurd (means_tree bounds text tree means (means_legacy bounds text parsed.image opened.means))
      clean_tree (CleanImageTree other also clean reach zeros) =
          subst (IsCleanTree allowed) (one_fit_meaning text other tree also.is_file means.is_file) clean
