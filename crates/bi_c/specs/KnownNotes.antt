use Rattle.std.specs.Prelude.{ℕ, ◌≡◌, Some, None}
use Rattle.bi_fit.specs.KnownFiles.{three_aligned}
use Rattle.bi_fit.specs.KnownKept.{kept}
use Rattle.bi_legacy.specs.KnownImages.{multi_file}
use Rattle.bi_norm.specs.KnownNormalForms.{signed_file}
use Rattle.bi_c.specs.NoteNumbers.{AreNotes, note_numbers}
use Rattle.bi_c.specs.declared.notes.NoteNumbers.{NoteNumbers}

-- What the call from C for notes returns for small files, by which a reader can judge the
-- definitions.

-- The numbers if there is no note.
abbrev pub no_notes : NoteNumbers
no_notes = record { signatures = 0; lost_positions = 0; lost_alignment = 0 }

-- The payloads of a file are at 4096 and 8192: they lose their alignment in the form 1, and in no
-- other. Another file has a signature node. Of an update of a legacy image nothing is noted.
pub record NoteNumbersAreKnown : Type 0 where
  pub alignment : note_numbers (kept (Some 4096) 2)
      ≡ record { signatures = 0; lost_positions = 2; lost_alignment = 4096 }
  pub nothing : note_numbers (kept None 0) ≡ no_notes
  pub external : AreNotes 0x7fffffff 64 1 0 0 (three_aligned 4096 4096)
      (record no_notes { lost_alignment = 4096 })
  pub embedded : AreNotes 0x7fffffff 64 0 0 0 (three_aligned 4096 4096) no_notes
  pub signed : AreNotes 0x7fffffff 64 0 0 0 signed_file (record no_notes { signatures = 1 })
  pub only_of_legacy : (form : ℕ) (notes : NoteNumbers)
      → AreNotes 0x7fffffff 64 form 1 5 multi_file notes → notes ≡ no_notes
