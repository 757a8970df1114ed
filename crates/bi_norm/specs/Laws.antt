use Rattle.std.specs.Prelude.{◌≡◌, ◌⊎◌, ◌↔◌, ℕ, ◌≤◌, ◌<◌, List, length}
use Rattle.bi_base.specs.declared.align.Align.{Align}
use Rattle.bi_base.specs.declared.fault.Fault.{Fault}
use Rattle.bi_base.specs.Aligns.{align_bytes}
use Rattle.bi_base.specs.Cells.{AreBytes}
use Rattle.bi_base.specs.Limits.{Limits}
use Rattle.bi_base.specs.Reading.{too_large}
use Rattle.bi_blob.specs.Layout.{longest_text}
use Rattle.bi_fit.specs.declared.form.Form.{Form}
use Rattle.bi_fit.specs.declared.form.Form.TheVariants.{External, Aligned}
use Rattle.bi_fit.specs.File.{IsFitFile}
use Rattle.bi_fit.specs.ImageTree.{ImageTree}
use Rattle.bi_fit.specs.Text.{fit_text}
use Rattle.bi_legacy.specs.File.{IsLegacyFile}
use Rattle.bi_legacy.specs.Meaning.{LegacyImage}
use Rattle.bi_legacy.specs.Text.{legacy_text}
use Rattle.bi_norm.specs.Converting.{IsFileConvertFault}
use Rattle.bi_norm.specs.Faults.{IsFileFault}
use Rattle.bi_norm.specs.Meaning.{Meaning, Means, MeansNothing, normal_text}

-- Laws of boot images of both kinds. Each is the contract of a function in `laws`.

-- No file is both a legacy image and a flattened image tree.
abbrev pub OneKind : Type 0
OneKind = (file : List ℕ) (image : LegacyImage) (tree : ImageTree)
    → IsLegacyFile file image → ¬ (IsFitFile file tree)

-- A file has at most one meaning, whatever the limits.
abbrev pub OneFileMeaning : Type 0
OneFileMeaning =
    (limits other_limits : Limits) (file : List ℕ) (one other : Meaning)
    → Means limits file one → Means other_limits file other → one ≡ other

-- A file has at most one fault under limits.
abbrev pub OneFileFault : Type 0
OneFileFault =
    (limits : Limits) (file : List ℕ) (one other : Fault)
    → IsFileFault limits file one → IsFileFault limits file other → one ≡ other

-- A file that means something within limits has no fault under them.
abbrev pub FileHasNoFault : Type 0
FileHasNoFault =
    (limits : Limits) (file : List ℕ) (meaning : Meaning) (fault : Fault)
    → Means limits file meaning → ¬ (IsFileFault limits file fault)

-- A file of bytes means something within limits, or it has a fault under them.
abbrev pub FileMeaningOrFault : Type 0
FileMeaningOrFault =
    (limits : Limits) (file : List ℕ) → AreBytes file
    → ((meaning : Meaning) × Means limits file meaning)
    ⊎ ((fault : Fault) × IsFileFault limits file fault)

-- A file of bytes means something within limits if and only if it has no fault under them.
abbrev pub FileMeaningWhereNoFault : Type 0
FileMeaningWhereNoFault =
    (limits : Limits) (file : List ℕ) → AreBytes file
    → ((meaning : Meaning) × Means limits file meaning)
    ↔ ((fault : Fault) → ¬ (IsFileFault limits file fault))

-- No normal text of a legacy image is the normal text of a flattened image tree, in any form.
abbrev pub TextsOfKindsDiffer : Type 0
TextsOfKindsDiffer =
    (form : Form) (image : LegacyImage) (tree : ImageTree)
    → ¬ (legacy_text image ≡ fit_text form tree)

-- If one of the normal texts of two files in a form is not too long, the texts are the same if and
-- only if the files mean the same. Each file is within its own limits.
abbrev pub NormalTextsDiffer : Type 0
NormalTextsDiffer =
    (form : Form) (limits other_limits : Limits) (file other_file : List ℕ) (one other : Meaning)
    → Means limits file one → Means other_limits other_file other
    → length (normal_text form one) ≤ longest_text
    → (normal_text form one ≡ normal_text form other) ↔ (one ≡ other)

-- The text of a meaning in the form with the alignment 4 is that in the form External.
abbrev pub MeaningAlignedByFourIsExternal : Type 0
MeaningAlignedByFourIsExternal =
    (align : Align) (meaning : Meaning) → align_bytes align ≡ 4
    → normal_text (Aligned align) meaning ≡ normal_text External meaning

-- A file that is longer than the limit has the fault TooLarge at the limit and means nothing. A
-- conversion of the file has the same fault.
pub record TooLongIsRefused : Type 0 where
  pub is_fault : (limits : Limits) (file : List ℕ) → limits.file < length file
      → IsFileFault limits file (too_large limits.file)
  pub means_nothing : (limits : Limits) (file : List ℕ) → limits.file < length file
      → MeansNothing limits file
  pub is_convert_fault : (limits : Limits) (file : List ℕ) → limits.file < length file
      → IsFileConvertFault limits file (too_large limits.file)
