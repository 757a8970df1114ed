use Rattle.std.specs.Prelude.{ℕ, ◌≡◌, List, unwrap_or}
use Rattle.bi_fit.specs.declared.kept.Kept.{Kept}
use Rattle.bi_commands.specs.UpdatedFiles.{IsUpdateKept}
use Rattle.bi_c.specs.Arguments.{HasChanges, bounds, changes_of}
use Rattle.bi_c.specs.declared.notes.NoteNumbers.{NoteNumbers}

-- What the call from C for the notes on a normal form with changes returns (profile of this
-- project).

-- The numbers in the notes, or 0 if there is no note.
abbrev pub note_numbers : Kept → NoteNumbers
note_numbers kept = record {
  signatures = kept.signatures;
  lost_positions = kept.lost_positions;
  lost_alignment = unwrap_or kept.lost_alignment 0;
}

-- The numbers are those of what the normal form of the file with these changes keeps.
pub record AreNotes (limit depth form changes time : ℕ) (file : List ℕ) (notes : NoteNumbers)
    : Type 0
  where
    pub arguments : HasChanges limit depth form changes
    pub text : List ℕ
    pub kept : Kept
    pub is_kept : IsUpdateKept (changes_of changes time) (bounds limit depth)
        arguments.has_form.form kept file text
    pub are_numbers : notes ≡ note_numbers kept
