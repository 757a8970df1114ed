use Rattle.std.specs.Prelude.{◌≡◌, ◌↔◌, ℕ, List, [], ◌∷◌, codes, Option, Some, None}
use Rattle.bi_base.specs.declared.align.Align.{Align}
use Rattle.bi_fit.specs.declared.form.Form.TheVariants.{Embedded, External, Aligned}
use Rattle.bi_fit.specs.KnownFiles.{plain_tree, position_file, three_aligned, three_tree}
use Rattle.bi_fit.specs.KnownKept.{kept}
use Rattle.bi_legacy.specs.Meaning.{LegacyImage}
use Rattle.bi_norm.specs.KnownNormalForms.{signed_tree}
use Rattle.bi_norm.specs.Meaning.{Meaning, OfFit, OfLegacy}
use Rattle.bi_edit.specs.declared.edit_notes.EditNotes.{EditNotes}
use Rattle.bi_edit.specs.declared.form_choice.FormChoice.{FormChoice}
use Rattle.bi_edit.specs.declared.form_choice.FormChoice.TheVariants.{Given, Keep}
use Rattle.bi_edit.specs.EditNotes.{AreEditNotes}

-- What a user should know after edits of small files, by which a reader can judge the definitions.

-- What is said: the alignment that is lost, how many fixed positions are, and how many payloads are
-- inside the blob now.
abbrev pub notes_about : (alignment : Option ℕ) → (positions inside : ℕ) → EditNotes
notes_about alignment positions inside = record {
  kept = kept alignment positions;
  inside = inside;
}

-- A flattened image tree whose only image `a` has this payload, or none.
abbrev pub image_with : Option (List ℕ) → Meaning
image_with payload = OfFit (plain_tree (codes "a" ∷ []) (payload ∷ []))

-- The notes after edits of a file whose image `a` has the payload `new`, at `data-position` 180.
-- The edited file means this.
abbrev pub AreNotesOfPosition : FormChoice → (after : Meaning) → EditNotes → Type 0
AreNotesOfPosition chosen after notes =
    AreEditNotes chosen position_file (image_with (Some (codes "new"))) after notes

-- A payload that comes inside the blob is said, unless it is empty now. A lost position is said in
-- the form External and in the form of the file, if the image is still there and has a payload.
-- Nothing is said where an alignment was given, but that there is a signature node.
pub record NotesOfPositionAreKnown : Type 0 where
  pub embedded : (byte : ℕ) (later : List ℕ)
      → AreNotesOfPosition (Given Embedded) (image_with (Some (byte ∷ later)))
      (notes_about None 0 1)
  pub embedded_empty :
      AreNotesOfPosition (Given Embedded) (image_with (Some [])) (notes_about None 0 0)
  pub external :
      AreNotesOfPosition (Given External) (image_with (Some (codes "new"))) (notes_about None 1 0)
  pub keep : (payload : List ℕ)
      → AreNotesOfPosition Keep (image_with (Some payload)) (notes_about None 1 0)
  pub no_payload : AreNotesOfPosition Keep (image_with None) (notes_about None 0 0)
  pub no_image : AreNotesOfPosition Keep (OfFit (plain_tree [] [])) (notes_about None 0 0)
  pub aligned : (align : Align) (payload : Option (List ℕ))
      → AreNotesOfPosition (Given (Aligned align)) (image_with payload) (notes_about None 0 0)
  pub signed : (align : Align)
      → AreNotesOfPosition (Given (Aligned align)) (OfFit signed_tree)
      (record {
        kept = record (kept None 0) { signatures = 1 };
        inside = 0;
      })

-- The notes after edits of a file whose images `a` and `c` have payloads at 4096 and 8192, which
-- `data-offset` gives. The payload of the image `b` is empty. The edited file means this.
abbrev pub AreNotesOfAligned : FormChoice → (after : Meaning) → EditNotes → Type 0
AreNotesOfAligned chosen after notes =
    AreEditNotes chosen (three_aligned 4096 4096) (OfFit three_tree) after notes

-- The alignment is lost in the form External, if one of the two payloads is still there. Two
-- payloads come inside the blob. Of a legacy image nothing is said.
pub record NotesOfAlignedAreKnown : Type 0 where
  pub external :
      AreNotesOfAligned (Given External) (OfFit three_tree) (notes_about (Some 4096) 0 0)
  pub only_empty :
      AreNotesOfAligned (Given External) (OfFit (plain_tree (codes "b" ∷ []) (Some [] ∷ [])))
      (notes_about None 0 0)
  pub embedded : AreNotesOfAligned (Given Embedded) (OfFit three_tree) (notes_about None 0 2)
  pub keep : AreNotesOfAligned Keep (OfFit three_tree) (notes_about None 0 0)
  pub legacy : (chosen : FormChoice) (file : List ℕ) (old new : LegacyImage) (notes : EditNotes)
      → AreEditNotes chosen file (OfLegacy old) (OfLegacy new) notes
      ↔ (notes ≡ notes_about None 0 0)
