use Rattle.std.specs.Prelude.{◌≡◌, ◌<◌, ℕ, false, List, [], ◌∷◌, length, codes, Some, None}
use Rattle.std.specs.Borrow.{Bor}
use Rattle.bi_base.specs.declared.align.Align.{Align}
use Rattle.bi_base.specs.Aligns.{align_bytes}
use Rattle.bi_base.specs.Limits.{Limits}
use Rattle.bi_fit.specs.declared.form.Form.TheVariants.{Embedded, External, Aligned}
use Rattle.bi_fit.specs.declared.image.Place.TheVariants.{Absent, Data, DataOffset, DataPosition}
use Rattle.bi_fit.specs.Kept.{PlacedPayload}
use Rattle.bi_fit.specs.KnownFiles.{plain_tree, position_file, three_aligned, three_embedded}
use Rattle.bi_fit.specs.KnownFiles.{three_tree}
use Rattle.bi_legacy.specs.Meaning.{LegacyImage}
use Rattle.bi_norm.specs.Meaning.{OfFit, OfLegacy}
use Rattle.bi_edit.specs.declared.edit.Edit.TheVariants.{RemoveNode, SetField, SetPayload}
use Rattle.bi_edit.specs.declared.edit.Edit.TheVariants.{SetDigests, SetTime}
use Rattle.bi_edit.specs.declared.edit.FieldValue.TheVariants as field
use Rattle.bi_edit.specs.declared.edit_error.EditError.TheVariants as error
use Rattle.bi_edit.specs.declared.form_choice.FormChoice.TheVariants as choice
use Rattle.bi_edit.specs.EditNotes.{is_not_empty, is_fixed, is_outside}
use Rattle.bi_edit.specs.EditRefusals.{IsEditError, NeedsTooMuch}
use Rattle.bi_edit.specs.Edits.{meaning_after}
use Rattle.bi_edit.specs.FormChoices.{IsChosenForm, IsFormOfPlaced}
use Rattle.bi_edit.specs.KnownEdits.{board_tree, two_part_image}
use Rattle.bi_edit.specs.Places.{image_path}

-- Small boot images and what edits make of them, by which a reader can judge the definitions.

-- What a legacy image means after edits, in whatever order they are given.
pub record EditedMeaningsAreKnown : Type 0 where
  pub fields : (one other : List ℕ)
      → meaning_after
      (SetTime 9 ∷ SetField (field.Load 5) ∷ SetField (field.Time 8) ∷ SetDigests ∷ [])
      (OfLegacy (two_part_image 1 one other))
      ≡ OfLegacy (record (two_part_image 9 one other) { load = 5 })
  pub part : (one other : List ℕ) (new : Bor (List ℕ))
      → meaning_after (SetPayload (codes "0") new ∷ []) (OfLegacy (two_part_image 1 one other))
      ≡ OfLegacy (two_part_image 1 new.now other)
  pub removal : (payload : List ℕ)
      → meaning_after (RemoveNode (image_path (codes "b")) ∷ []) (OfFit (board_tree payload))
      ≡ meaning_after
      (RemoveNode (image_path (codes "b")) ∷ SetField (field.Time 1) ∷ [])
      (OfFit (board_tree payload))

-- A payload of a file at this offset, which `data-offset` gives.
abbrev pub payload_at_offset : (offset : ℕ) → PlacedPayload
payload_at_offset offset = record { old_offset = offset; new_offset = 0; has_position = false }

-- The form of a file: that of `mkimage -E -B 0x1000`, with a payload at 4096, and with one at 6. A
-- form that is given is the form. Otherwise it is that of the file.
pub record FormsOfFilesAreKnown : Type 0 where
  pub inside : IsFormOfPlaced [] Embedded
  pub not_outside : (align : Align) → ¬ (IsFormOfPlaced [] (Aligned align))
  pub outside : (align : Align) → align_bytes align ≡ 4096
      → IsFormOfPlaced (payload_at_offset 4096 ∷ []) (Aligned align)
  pub not_inside : ¬ (IsFormOfPlaced (payload_at_offset 4096 ∷ []) Embedded)
  pub at_least_four : (align : Align) → align_bytes align ≡ 4
      → IsFormOfPlaced (payload_at_offset 6 ∷ []) (Aligned align)
  pub given : (payload : List ℕ)
      → IsChosenForm (choice.Given External) [] (OfFit (board_tree payload)) External
  pub of_aligned : (align : Align) → align_bytes align ≡ 4096
      → IsChosenForm choice.Keep (three_aligned 4096 4096) (OfFit three_tree) (Aligned align)
  pub of_position : (align : Align) → align_bytes align ≡ 4
      → IsChosenForm choice.Keep position_file
      (OfFit (plain_tree (codes "a" ∷ []) (Some (codes "new") ∷ []))) (Aligned align)
  pub of_embedded : IsChosenForm choice.Keep three_embedded (OfFit three_tree) Embedded
  pub of_legacy : (image : LegacyImage) → IsChosenForm choice.Keep [] (OfLegacy image) Embedded

-- Of a place, whether it is outside the blob, and fixed.
pub record PlacesAreKnown : Type 0 where
  pub absent : is_outside Absent ≡ is_outside (Data 1)
  pub in_blob : is_outside (Data 1) ≡ is_fixed (DataOffset 1)
  pub offset : is_outside (DataOffset 1) ≡ is_outside (DataPosition 1)
  pub position : is_outside (DataPosition 1) ≡ is_fixed (DataPosition 1)
  pub bytes : is_not_empty (Some (0 ∷ [])) ≡ is_fixed (DataPosition 1)
  pub no_bytes : is_not_empty (Some []) ≡ is_fixed (Data 1)
  pub nothing : is_not_empty None ≡ is_fixed (Data 1)

-- The bound is on the payloads after the edits, and only if digests are computed.
pub record EditBoundsAreKnown : Type 0 where
  pub new_payload : (limits : Limits) (new : Bor (List ℕ)) → limits.file < length new.now
      → NeedsTooMuch limits (OfFit (board_tree []))
      (SetDigests ∷ SetPayload (codes "b") new ∷ [])
  pub removed_payload : (limits : Limits) (old : List ℕ)
      → ¬ (NeedsTooMuch limits (OfFit (board_tree old))
      (SetDigests ∷ RemoveNode (image_path (codes "a")) ∷ []))
  pub no_digests : (limits : Limits) (old : List ℕ)
      → ¬ (NeedsTooMuch limits (OfFit (board_tree old)) (SetTime 5 ∷ []))

-- The errors of edits of each kind of boot image.
pub record EditErrorsAreKnown : Type 0 where
  pub field_of_tree : (limits : Limits) (payload : List ℕ)
      → IsEditError limits Embedded (OfFit (board_tree payload)) (SetField (field.Time 1) ∷ [])
      error.WrongKind
  pub node_of_image : (limits : Limits) (one other : List ℕ)
      → IsEditError limits Embedded (OfLegacy (two_part_image 1 one other))
      (RemoveNode (image_path (codes "a")) ∷ []) error.WrongKind
  pub no_node : (limits : Limits) (payload : List ℕ)
      → IsEditError limits Embedded (OfFit (board_tree payload))
      (SetTime 5 ∷ RemoveNode (image_path (codes "c")) ∷ []) (error.FindsNothing 1)
  pub not_the_time : (limits : Limits) (payload : List ℕ)
      → ¬ (IsEditError limits Embedded (OfFit (board_tree payload))
      (SetTime 5 ∷ RemoveNode (image_path (codes "c")) ∷ []) (error.FindsNothing 0))
