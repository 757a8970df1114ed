use Rattle.std.proofs.Common.{◌≡◌, ◌↔◌, ℕ, ◌-◌, List, map, filter, length, Some, None, Result, Ok, Err, IfOk, refl, sym, ap, subst, ◌∙◌}
use Rattle.bi_base.specs.Limits.{Limits}
use Rattle.bi_fit.specs.declared.form.Form.TheVariants.{Embedded, External}
use Rattle.bi_fit.specs.declared.image.Image.{Image}
use Rattle.bi_fit.specs.Content.{FitModel, IsHeld, image_model, tree_of}
use Rattle.bi_fit.specs.Judgement.{signature_count}
use Rattle.bi_fit.specs.Kept.{LosesAlignment}
use Rattle.bi_fit.specs.NormalNodes.{payloads_of}
use Rattle.bi_fit.specs.Reading.{IsReadFit}
use Rattle.bi_fit.specs.Text.{fit_text, payloads_end}
use Rattle.bi_edit.specs.declared.edit_notes.EditNotes.{EditNotes}
use Rattle.bi_edit.specs.declared.form_choice.FormChoice.TheVariants as choice
use Rattle.bi_edit.specs.EditNotes.{AreTreeNotes, still_placed}
use Rattle.bi_edit.specs.OldImages.{comes_inside_from, loses_position_from, still_placed_from}
use Rattle.bi_edit.proofs.OldImages.{external_same, inside_same, old_nodes, positions_same, tree_notes}

-- What is said of a flattened image tree that was edited, by the images of the old and of the new one.

module _ (old new : FitModel) (held : IsHeld new) (images : List Image) (are : map image_model images ≡ new.images) where
  -- Where the payloads end.
  pub same_end : payloads_end 4 0 (tree_of new).payloads ≡ payloads_end 4 0 (payloads_of images)
  same_end = ap (λ models. payloads_end 4 0 (map (λ image. image.payload) models)) (sym are)

  pub embedded_notes : (signatures inside : ℕ) → signatures ≡ signature_count (tree_of new) →
      inside ≡ length (filter (λ image. comes_inside_from old.images (image_model image)) images) →
      (limits : Limits) (file : List ℕ) → IsReadFit limits file old →
      AreTreeNotes (choice.Given Embedded) file (tree_of old) (tree_of new)
      (record { kept = record { signatures = signatures; lost_alignment = None; lost_positions = 0 }; inside = inside })
  embedded_notes signatures inside count is limits file read =
      tree_notes (choice.Given Embedded) limits file old new read
      (record { kept = record { signatures = signatures; lost_alignment = None; lost_positions = 0 }; inside = inside }) count
      (record { alignment = refl; positions = refl }, is ∙ sym (inside_same old read.held new held images are))

  pub kept_notes : (signatures positions : ℕ) → signatures ≡ signature_count (tree_of new) →
      positions ≡ length (filter (λ image. loses_position_from old.images (image_model image)) images) →
      (limits : Limits) (file : List ℕ) → IsReadFit limits file old →
      AreTreeNotes choice.Keep file (tree_of old) (tree_of new)
      (record { kept = record { signatures = signatures; lost_alignment = None; lost_positions = positions }; inside = 0 })
  kept_notes signatures positions count is limits file read =
      tree_notes choice.Keep limits file old new read
      (record { kept = record { signatures = signatures; lost_alignment = None; lost_positions = positions }; inside = 0 }) count
      (refl, is ∙ sym (positions_same old read.held new held images are), refl)

  pub external_notes : {E : Type 0} (result : Result EditNotes E) (signatures size : ℕ) → signatures ≡ signature_count (tree_of new) →
      length (fit_text External (tree_of new)) ≡ size → IfOk result (λ notes. notes.kept.signatures ≡ signatures) →
      IfOk result (λ notes. (bytes : ℕ) → (notes.kept.lost_alignment ≡ Some bytes)
      ↔ LosesAlignment (still_placed_from old.images (size - payloads_end 4 0 (payloads_of images)) 0 images) bytes) →
      IfOk result (λ notes. notes.kept.lost_positions
      ≡ length (filter (λ image. loses_position_from old.images (image_model image)) images)) →
      IfOk result (λ notes. notes.inside ≡ 0) →
      IfOk result (λ notes. (limits : Limits) (file : List ℕ) → IsReadFit limits file old →
      AreTreeNotes (choice.Given External) file (tree_of old) (tree_of new) notes)
  external_notes (Err error) signatures size count long is_count alignment positions inside = tt
  external_notes (Ok notes) signatures size count long is_count alignment positions inside = λ limits file read.
      let placed : still_placed old.blob.file (old_nodes old read.held) (tree_of old) (tree_of new)
      ≡ still_placed_from old.images (size - payloads_end 4 0 (payloads_of images)) 0 images =
      external_same old read.held new held images are size long
      ∙ ap (λ end. still_placed_from old.images (size - end) 0 images) same_end in
      tree_notes (choice.Given External) limits file old new read notes (is_count ∙ count) (
        subst (λ placed. (bytes : ℕ) → (notes.kept.lost_alignment ≡ Some bytes) ↔ LosesAlignment placed bytes) (sym placed) alignment,
        positions ∙ sym (positions_same old read.held new held images are),
        inside,
      )
