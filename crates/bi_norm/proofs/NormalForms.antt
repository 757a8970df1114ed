use Rattle.std.proofs.Common.{◌≡◌, ◌≤◌, ◌⊎◌, ◌↔◌, ℕ, List, ◌∷◌, length, refl, sym, ap, subst, ◌∙◌, inl, inr, arith, rules}
use Rattle.bi_base.specs.Cells.{cell, u32_at}
use Rattle.bi_base.specs.Commands.{AppendFailed, WasRefused, SinkFailed}
use Rattle.bi_base.specs.Limits.{Limits}
use Rattle.bi_base.specs.declared.fault.Error.{Error}
use Rattle.bi_base.specs.declared.fault.Error.TheVariants.{Refused, OutOfMemory, ReadFailed, WriteFailed}
use Rattle.bi_base.specs.declared.fault.Fault.{Fault}
use Rattle.bi_blob.specs.Blob.{blob_magic}
use Rattle.bi_blob.specs.BlobFaults.{HasNoFaultBeforeTree, IsFaultBeforeTree}
use Rattle.bi_blob.specs.Layout.{longest_text, text_of_events, text_of_blocks}
use Rattle.bi_blob.proofs.Blobs.BeforeTree.{fault_before_tree_comes_first}
use Rattle.bi_legacy.specs.File.{legacy_magic, header, LegacyMeans}
use Rattle.bi_legacy.specs.Meaning.{LegacyImage}
use Rattle.bi_legacy.specs.NormalForm.{HasNormalForm}
use Rattle.bi_legacy.specs.Reading.{LegacyModel, IsReadLegacy}
use Rattle.bi_legacy.specs.Text.{legacy_text}
use Rattle.bi_fit.specs.declared.form.Form.{Form}
use Rattle.bi_fit.specs.declared.kept.Kept.{Kept}
use Rattle.bi_fit.specs.Kept.{IsKept, SaysNothing}
use Rattle.bi_fit.specs.Content.{FitModel, tree_of}
use Rattle.bi_fit.specs.Documents.{IsTextError}
use Rattle.bi_fit.specs.Faults.{InBlob}
use Rattle.bi_fit.specs.File.{IsFitFile, FitMeans}
use Rattle.bi_fit.specs.ImageTree.{ImageTree}
use Rattle.bi_fit.specs.Judgement.{judgement, signature_count as signatures_of_tree}
use Rattle.bi_fit.specs.Reading.{IsReadFit}
use Rattle.bi_fit.specs.Text.{fit_text}
use Rattle.bi_fit.proofs.Faults.{fit_has_no_fault}
use Rattle.bi_fit.proofs.Meanings.{one_fit_meaning}
use Rattle.bi_fit.proofs.TextLaws.{file_means_image_tree, normal_fit_text_is_accepted, same_text_same_tree, text_keeps_judgement}
use Rattle.bi_norm.specs.Meaning.{Meaning, OfLegacy, OfFit, Means, normal_text}
use Rattle.bi_norm.specs.NormalForm.{IsNormalForm, IsNormaliseError, IsNormaliseKept}
use Rattle.bi_norm.specs.Reading.{IsBootImageReadError, NeedsMemory, ForLegacyImage, ForTree}
use Rattle.bi_norm.proofs.FilesWithoutMeaning.{means_legacy, means_tree}

-- The normal text of what was read from a file is the normal form of the file, and the file means nothing else.

-- What these four bytes begin has a magic number.
blob_begins : (bytes : List ℕ) → u32_at (0xd0 ∷ 0x0d ∷ 0xfe ∷ 0xed ∷ bytes) 0 ≡ blob_magic
unfolding u32_at
blob_begins bytes = refl

legacy_begins : (bytes : List ℕ) → u32_at (0x27 ∷ 0x05 ∷ 0x19 ∷ 0x56 ∷ bytes) 0 ≡ legacy_magic
unfolding u32_at
legacy_begins bytes = refl

-- So has the normal text of either kind.
tree_text_begins : (form : Form) (tree : ImageTree) → u32_at (fit_text form tree) 0 ≡ blob_magic
unfolding text_of_events text_of_blocks cell
tree_text_begins form tree = blob_begins _

legacy_text_begins : (image : LegacyImage) → u32_at (legacy_text image) 0 ≡ legacy_magic
unfolding legacy_text header cell
legacy_text_begins image = legacy_begins _

-- No text is that of both kinds.
pub texts_differ : (form : Form) (image : LegacyImage) (tree : ImageTree) → ¬ (legacy_text image ≡ fit_text form tree)
texts_differ form image tree same =
    omega (arith, legacy_text_begins image, tree_text_begins form tree, ap (λ text. u32_at text 0) same)

-- A file that means a legacy image means nothing else.
pub only_legacy : (limits : Limits) (file : List ℕ) (parsed : LegacyModel) → IsReadLegacy limits file parsed → (other : Meaning) →
    Means limits file other → other ≡ OfLegacy parsed.image
only_legacy limits file parsed opened (OfLegacy other) means = ap OfLegacy (opened.only other means)
only_legacy limits file parsed opened (OfFit tree) means =
    absurd (means_tree limits file tree means (means_legacy limits file parsed.image opened.means))

-- Files that mean something else have another normal text.
pub distinguishes_legacy : (limits : Limits) (form : Form) (image : LegacyImage) → HasNormalForm limits image →
    (other_file : List ℕ) (other : Meaning) → Means limits other_file other →
    (normal_text form other ≡ legacy_text image) ↔ (other ≡ OfLegacy image)
distinguishes_legacy limits form image normal other_file (OfLegacy other) means = (
  λ same. ap OfLegacy (normal.only_image other_file other means.is_file same),
  λ same. ap (normal_text form) same,
)
distinguishes_legacy limits form image normal other_file (OfFit tree) means = (
  λ same. absurd (texts_differ form image tree (sym same)),
  λ same. ap (normal_text form) same,
)

-- The normal text of a legacy image is the normal form of a file that means it and nothing else.
unfoldable pub normal_form_of_image : (limits : Limits) (form : Form) (file : List ℕ) (image : LegacyImage) →
    LegacyMeans limits file image → ((other : Meaning) → Means limits file other → other ≡ OfLegacy image) → HasNormalForm limits image →
    IsNormalForm limits form file (legacy_text image)
normal_form_of_image limits form file image means only normal = record {
  meaning = OfLegacy image;
  means = means;
  only = only;
  is_text = refl;
  distinguishes = distinguishes_legacy limits form image normal;
  is_own = normal.text_means_image;
  keeps_judgement = λ tree other of_tree text_means. absurd (means_tree limits file tree of_tree (means_legacy limits file image means));
}

-- The normal text of a legacy image that was read from a file is the normal form of the file.
pub legacy_normal_form : (limits : Limits) (form : Form) (file : List ℕ) (parsed : LegacyModel) → IsReadLegacy limits file parsed →
    IsNormalForm limits form file (legacy_text parsed.image)
legacy_normal_form limits form file parsed opened =
    normal_form_of_image limits form file parsed.image opened.means (only_legacy limits file parsed opened) opened.normal_form

-- Nothing is said of it.
pub legacy_kept : (limits : Limits) (form : Form) (file : List ℕ) (parsed : LegacyModel) (kept : Kept) → IsReadLegacy limits file parsed →
    kept.signatures ≡ 0 → SaysNothing kept → IsNormaliseKept limits form kept file (legacy_text parsed.image)
unfolding legacy_normal_form normal_form_of_image
legacy_kept limits form file parsed kept opened none says = record {
  output = record { normal = legacy_normal_form limits form file parsed opened; signatures = none };
  is_kept = says;
}

-- A file that means a flattened image tree means nothing else.
pub tree_alone : (limits : Limits) (file : List ℕ) (tree : ImageTree) → FitMeans limits file tree → (other : Meaning) →
    Means limits file other → other ≡ OfFit tree
tree_alone limits file tree means (OfFit other) other_means =
    ap OfFit (one_fit_meaning file other tree other_means.is_file means.is_file)
tree_alone limits file tree means (OfLegacy image) other_means =
    absurd (means_tree limits file tree means (means_legacy limits file image other_means))

pub only_tree : (limits : Limits) (file : List ℕ) (content : FitModel) → IsReadFit limits file content → (other : Meaning) →
    Means limits file other → other ≡ OfFit (tree_of content)
only_tree limits file content opened = tree_alone limits file (tree_of content) opened.means

-- Files that mean something else have another normal text.
pub distinguishes_tree : (limits : Limits) (form : Form) (file : List ℕ) (tree : ImageTree) → IsFitFile file tree →
    length (fit_text form tree) ≤ longest_text → (other_file : List ℕ) (other : Meaning) → Means limits other_file other →
    (normal_text form other ≡ fit_text form tree) ↔ (other ≡ OfFit tree)
distinguishes_tree limits form file tree is short other_file (OfFit other) means = (
  λ same.
      ap OfFit (sym ((same_text_same_tree form tree other (file_means_image_tree file tree is)
      (file_means_image_tree other_file other means.is_file) short).0 (sym same))),
  λ same. ap (normal_text form) same,
)
distinguishes_tree limits form file tree is short other_file (OfLegacy image) means = search (rules, texts_differ)

-- The normal text of a flattened image tree is the normal form of a file that means it, if it is no longer than the limit.
unfoldable pub normal_form_of_tree : (limits : Limits) (form : Form) (file : List ℕ) (tree : ImageTree) → FitMeans limits file tree →
    length (fit_text form tree) ≤ limits.file → limits.file ≤ longest_text → IsNormalForm limits form file (fit_text form tree)
normal_form_of_tree limits form file tree means fits most =
    let short : length (fit_text form tree) ≤ longest_text = omega (arith, fits, most) in
    record {
      meaning = OfFit tree;
      means = means;
      only = tree_alone limits file tree means;
      is_text = refl;
      distinguishes = distinguishes_tree limits form file tree means.is_file short;
      is_own = (normal_fit_text_is_accepted limits form file tree means fits most).means;
      keeps_judgement = λ one other of_file of_text.
          text_keeps_judgement form file tree other means.is_file short of_text.is_file
          ∙ ap judgement (one_fit_meaning file tree one means.is_file of_file.is_file);
    }

-- So is that of a tree that was read from the file.
pub tree_normal_form : (limits : Limits) (form : Form) (file : List ℕ) (content : FitModel) → IsReadFit limits file content →
    length (fit_text form (tree_of content)) ≤ limits.file → limits.file ≤ longest_text →
    IsNormalForm limits form file (fit_text form (tree_of content))
tree_normal_form limits form file content opened fits most =
    normal_form_of_tree limits form file (tree_of content) opened.means fits most

-- It keeps what the text of its tree does.
pub tree_kept : (limits : Limits) (form : Form) (file : List ℕ) (content : FitModel) (kept : Kept) → IsReadFit limits file content →
    length (fit_text form (tree_of content)) ≤ limits.file → limits.file ≤ longest_text →
    kept.signatures ≡ signatures_of_tree (tree_of content) →
    IsKept form content.blob.file (tree_of content) (tree_of content) kept →
    IsNormaliseKept limits form kept file (fit_text form (tree_of content))
unfolding tree_normal_form normal_form_of_tree
tree_kept limits form file content kept opened fits most is says = record {
  output = record { normal = tree_normal_form limits form file content opened fits most; signatures = is };
  is_kept = subst (λ file. IsKept form file (tree_of content) (tree_of content) kept) opened.is_file says;
}

-- A file that means something needs memory.
pub needs_memory : (limits : Limits) (file : List ℕ) (meaning : Meaning) → Means limits file meaning → NeedsMemory limits file
needs_memory limits file (OfLegacy image) means = ForLegacyImage image means
needs_memory limits file (OfFit tree) means = by (fault_before_tree_comes_first limits file).decided where
  by : HasNoFaultBeforeTree limits file ⊎ ((fault : Fault) × IsFaultBeforeTree limits file fault) → NeedsMemory limits file
  by (inl fine) = ForTree (means_tree limits file tree means) fine
  by (inr faulty) = absurd (fit_has_no_fault limits file tree faulty.0 means
      (InBlob ((fault_before_tree_comes_first limits file).first faulty.0 faulty.1)))

-- A file that has a normal form needs memory.
pub normal_form_needs_memory : (limits : Limits) (form : Form) (file text : List ℕ) → IsNormalForm limits form file text →
    NeedsMemory limits file
normal_form_needs_memory limits form file text normal = needs_memory limits file normal.meaning normal.means

-- An error of laying out its text is one that normalising the file can have.
pub text_error : (limits : Limits) (form : Form) (file : List ℕ) (content : FitModel) (error : Error) → IsReadFit limits file content →
    IsTextError limits form (tree_of content) error → IsNormaliseError limits form file error
text_error limits form file content (Refused fault) opened is =
    inr (record { tree = tree_of content; means = opened.means; longer = is.1 }, is.0)
text_error limits form file content OutOfMemory opened is = needs_memory limits file (OfFit (tree_of content)) opened.means
text_error limits form file content ReadFailed opened is = is
text_error limits form file content WriteFailed opened is = is

-- An error of reading a file is one of normalising it.
pub normalise_error_of_reading : (limits : Limits) (form : Form) (file : List ℕ) (error : Error) → IsBootImageReadError limits file error →
    IsNormaliseError limits form file error
normalise_error_of_reading limits form file (Refused fault) is = inl is
normalise_error_of_reading limits form file OutOfMemory is = is
normalise_error_of_reading limits form file ReadFailed is = is
normalise_error_of_reading limits form file WriteFailed is = is

-- A legacy image whose normal text was not written: memory ran out, or the sink failed.
pub legacy_not_written : {S : Type 0} {fails : S → List ℕ → S → Error → Type 0} (limits : Limits) (form : Form) (file : List ℕ)
    (parsed : LegacyModel) (written : List ℕ) (old new : S) (error : Error) → IsReadLegacy limits file parsed →
    written ≡ legacy_text parsed.image → AppendFailed fails (λ text. text ≡ written) (λ error. error ≡ OutOfMemory) old new error →
    AppendFailed fails (IsNormalForm limits form file) (IsNormaliseError limits form file) old new error
legacy_not_written limits form file parsed written old new error opened is_written (WasRefused is same) =
    WasRefused (subst (IsNormaliseError limits form file) (sym is) (ForLegacyImage parsed.image opened.means)) same
legacy_not_written limits form file parsed written old new error opened is_written (SinkFailed text cause is failed same) =
    SinkFailed text cause (subst (IsNormalForm limits form file) (sym (is ∙ is_written))
    (legacy_normal_form limits form file parsed opened)) failed same
