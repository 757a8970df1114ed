use Rattle.std.proofs.Common.{◌≡◌, ◌≢◌, ℕ, ◌^◌, ◌≤◌, ◌==◌, zero, suc, max, false, List, [], ◌∷◌, map, length, Some, Result, Ok, Err, IfOk}
use Rattle.std.proofs.Common.{refl, sym, ap, subst, ◌∙◌, true≢false, arith}
use Rattle.bi_base.specs.declared.align.Align.{Align}
use Rattle.bi_base.specs.Alignments.{IsAlignment}
use Rattle.bi_base.specs.Aligns.{align_bytes}
use Rattle.bi_base.specs.Limits.{Limits}
use Rattle.bi_blob.specs.Tree.{Nodes, FileNode}
use Rattle.bi_fdt.specs.Content.{root_of}
use Rattle.bi_fit.specs.declared.form.Form.{Form}
use Rattle.bi_fit.specs.declared.form.Form.TheVariants.{Aligned}
use Rattle.bi_fit.specs.declared.image.Image.{Image}
use Rattle.bi_fit.specs.Content.{FitModel, image_model, tree_of}
use Rattle.bi_fit.specs.ImageTree.{image_nodes, nodes_or_none}
use Rattle.bi_fit.specs.Kept.{IsAlignmentOf, IsPower, PlacedPayload, placed_payloads}
use Rattle.bi_fit.specs.NormalNodes.{payloads_of}
use Rattle.bi_fit.specs.Reading.{IsReadFit}
use Rattle.bi_fit.proofs.KeptPayloads.{read_places}
use Rattle.bi_fit.proofs.NormalTrees.{some_nodes}
use Rattle.bi_fit.proofs.ReadBlobs.{read_payloads}
use Rattle.bi_norm.specs.Meaning.{OfFit}
use Rattle.bi_edit.specs.declared.form_choice.FormChoice.{FormChoice}
use Rattle.bi_edit.specs.declared.form_choice.FormChoice.TheVariants.{Keep}
use Rattle.bi_edit.specs.declared.outside_payloads.OutsidePayload.{OutsidePayload}
use Rattle.bi_edit.specs.FormChoices.{IsChosenForm, IsFormOfFile, IsFormOfPlaced, Outside, placed_in}
use Rattle.bi_edit.specs.PlacedPayloads.{placed_list, placed_of_images}

-- The form of a file that was read.

-- A power of two that is at least four is an alignment.
pub alignment_of_power : (bytes : ℕ) → IsPower bytes → 4 ≤ bytes → IsAlignment bytes
alignment_of_power bytes is large =
    record { exponent = is.exponent; least = by is.exponent is.is_power; most = is.most; is_power = is.is_power }
  where
    by : (exponent : ℕ) → bytes ≡ 2 ^ exponent → 2 ≤ exponent
    by zero same = absurd (omega (arith, same, large))
    by (suc zero) same = absurd (omega (arith, same, large))
    by (suc (suc exponent)) same = omega arith

-- A list of payloads that is not empty.
listed_some : (items : List OutsidePayload) (count : ℕ) → length items ≡ count → (count == 0) ≡ false → placed_list items ≢ []
listed_some [] count is some none = true≢false (ap (λ n. n == 0) is ∙ some)
listed_some (first ∷ later) count is some none = absurd cc

-- The form of payloads, by the list that the code has of them.
pub form_outside : (items : List OutsidePayload) (count bytes : ℕ) (placed : List PlacedPayload) (align : Align) →
    placed_list items ≡ placed → length items ≡ count → (count == 0) ≡ false → IsAlignmentOf (placed_list items) bytes →
    align_bytes align ≡ max bytes 4 → IsFormOfPlaced placed (Aligned align)
form_outside items count bytes placed align same is some alignment is_align =
    Outside (λ none. listed_some items count is some (same ∙ none)) align bytes
    (subst (λ placed. IsAlignmentOf placed bytes) same alignment) is_align refl

-- The places of images.
places_same : (images : List Image) → map (λ image. image.place) (map image_model images) ≡ map (λ image. image.place) images
places_same [] = refl
places_same (image ∷ later) = ap (λ rest. image.place ∷ rest) (places_same later)

-- The payloads outside the blob of a file that was read are those of its images.
module _ (limits : Limits) (file : List ℕ) (content : FitModel) (read : IsReadFit limits file content) (images : List Image)
    (are : map image_model images ≡ content.images) where
  abbrev nodes : Nodes FileNode
  nodes = nodes_or_none (image_nodes (root_of content.blob))

  placed_same : placed_in content.blob.file nodes (tree_of content).payloads ≡ placed_of_images images
  placed_same =
      let payloads : (tree_of content).payloads ≡ payloads_of images = ap (λ images. map (λ image. image.payload) images) (sym are) in
      ap (λ places. placed_payloads places (tree_of content).payloads (map (λ payload. Some 0) (tree_of content).payloads))
      (read_places content.blob.file nodes content.images read.held.images
      ∙ ap (λ images. map (λ image. image.place) images) (sym are) ∙ places_same images)
      ∙ ap (λ payloads. placed_payloads (map (λ image. image.place) images) payloads (map (λ payload. Some 0) payloads)) payloads

  pub form_of_read_file : (form : Form) → IsFormOfPlaced (placed_of_images images) form → IsFormOfFile file (tree_of content) form
  form_of_read_file form is = subst (λ file. IsFormOfFile file (tree_of content) form) read.is_file (record {
    is_file = record {
      root = root_of content.blob;
      blob = read.held.is_blob;
      images = nodes;
      has_images = some_nodes (image_nodes (root_of content.blob)) read.held.has_images;
      payloads = read_payloads content.blob.file nodes content.images read.held.images;
      is_root = refl;
    };
    is_form = subst (λ placed. IsFormOfPlaced placed form) (sym placed_same) is;
  })

-- The form that is kept.
pub kept_form : {E : Type 0} (content : FitModel) (images : List Image) → map image_model images ≡ content.images →
    (chosen : FormChoice) → chosen ≡ Keep → (result : Result Form E) → IfOk result (IsFormOfPlaced (placed_of_images images)) →
    IfOk result (λ form. (limits : Limits) (file : List ℕ) → IsReadFit limits file content →
    IsChosenForm chosen file (OfFit (tree_of content)) form)
kept_form content images are chosen is (Ok form) placed = λ limits file read.
    subst (λ chosen. IsChosenForm chosen file (OfFit (tree_of content)) form) (sym is)
    (form_of_read_file limits file content read images are form placed)
kept_form content images are chosen is (Err error) placed = tt
