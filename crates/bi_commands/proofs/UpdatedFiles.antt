use Rattle.std.proofs.Common.{◌≡◌, ◌<◌, ◌≤◌, ◌^◌, ℕ, List, length, unwrap_or, refl, sym, ap, subst, ◌∙◌, inl, inr, None, false}
use Rattle.bi_base.specs.Commands.{Appended, AppendFailed, WasRefused, SinkFailed}
use Rattle.bi_base.specs.declared.fault.Error.{Error}
use Rattle.bi_base.specs.declared.fault.Error.TheVariants.{Refused, OutOfMemory, ReadFailed, WriteFailed}
use Rattle.bi_base.specs.Limits.{Limits}
use Rattle.bi_blob.specs.Layout.{longest_text}
use Rattle.bi_fit.specs.declared.changes.Changes.{Changes}
use Rattle.bi_fit.specs.declared.form.Form.{Form}
use Rattle.bi_fit.specs.declared.kept.Kept.{Kept}
use Rattle.bi_fit.specs.Kept.{IsKept, SaysNothing}
use Rattle.bi_fit.specs.Content.{FitModel, tree_of}
use Rattle.bi_fit.specs.Documents.{IsTextError}
use Rattle.bi_fit.specs.ImageTree.{ImageTree}
use Rattle.bi_fit.specs.Judgement.{signature_count as signatures_of_tree}
use Rattle.bi_fit.specs.Reading.{IsReadFit}
use Rattle.bi_fit.specs.Text.{fit_text}
use Rattle.bi_fit.specs.Updating.{with_changes}
use Rattle.bi_fit.proofs.FileTrees.{is_image_tree, depth-image_tree}
use Rattle.bi_fit.proofs.UpdateChanges.{each_update_has_its_changes}
use Rattle.bi_fit.proofs.UpdatedTrees.{updated_is_accepted}
use Rattle.bi_fit.proofs.UpdatedVerdicts.{updated_judgement, signatures-updated}
use Rattle.bi_legacy.specs.File.{LegacyMeans}
use Rattle.bi_legacy.specs.Meaning.{with_new_time}
use Rattle.bi_legacy.specs.Reading.{LegacyModel, IsReadLegacy}
use Rattle.bi_legacy.specs.Text.{legacy_text}
use Rattle.bi_legacy.proofs.UpdatedImages.{updated_has_new_time, updated_has_normal_form}
use Rattle.bi_norm.specs.Meaning.{Meaning, OfLegacy, OfFit, normal_text}
use Rattle.bi_norm.specs.NormalForm.{IsNormalForm}
use Rattle.bi_norm.specs.Reading.{IsBootImageReadError, NeedsMemory, ForLegacyImage}
use Rattle.bi_norm.proofs.NormalForms.{only_legacy, only_tree, needs_memory}
use Rattle.bi_commands.specs.UpdatedFiles.{IsUpdated, IsUpdateKept, IsUpdateError, HashesTooMuch, IsDigestsError, updated_meaning}

-- The text of an updated image that was read is that of the updated file, and without changes it is the normal form of the file.

-- An error of reading a file is one of updating it.
pub error_of_reading_updated : (changes : Changes) (limits : Limits) (form : Form) (file : List ℕ) (error : Error) →
    IsBootImageReadError limits file error → IsUpdateError changes limits form file error
error_of_reading_updated changes limits form file (Refused fault) is = inl is
error_of_reading_updated changes limits form file OutOfMemory is = is
error_of_reading_updated changes limits form file ReadFailed is = is
error_of_reading_updated changes limits form file WriteFailed is = is

-- A file that was updated needs memory.
pub updated_needs_memory : (changes : Changes) (limits : Limits) (form : Form) (file text : List ℕ) →
    IsUpdated changes limits form file text → NeedsMemory limits file
updated_needs_memory changes limits form file text is = needs_memory limits file is.meaning is.means.means

-- The text of a legacy image that was read, with its new time.
module _ (changes : Changes) (limits : Limits) (form : Form) (file : List ℕ) (parsed : LegacyModel)
    (opened : IsReadLegacy limits file parsed) (time : ℕ) (is_time : time ≡ unwrap_or changes.time parsed.image.time)
    (small : time < 2 ^ 32) where
  abbrev updated_legacy_text : List ℕ
  updated_legacy_text = legacy_text (with_new_time time parsed.image)

  unfoldable pub legacy_is_updated : IsUpdated changes limits form file updated_legacy_text
  legacy_is_updated = record {
    meaning = OfLegacy parsed.image;
    means = record { means = opened.means; only = only_legacy limits file parsed opened };
    within = λ over. over.is_over;
    is_text = ap (λ time. legacy_text (with_new_time time parsed.image)) is_time;
    text_means = subst (λ other. LegacyMeans limits (legacy_text (with_new_time time parsed.image))
        (with_new_time other parsed.image)) is_time
        (updated_has_normal_form file parsed.image limits time opened.means small).text_means_image;
    changed = updated_has_new_time parsed.image (unwrap_or changes.time parsed.image.time);
    judgement = tt;
  }

  pub legacy_updated : {S : Type 0} {appends : S → List ℕ → S → Type 0} (old new : S) (kept : Kept) → kept.signatures ≡ 0 →
      SaysNothing kept → appends old updated_legacy_text new → Appended appends (IsUpdateKept changes limits form kept file) old new
  unfolding legacy_is_updated
  legacy_updated old new kept without says appended = record {
    text = updated_legacy_text;
    is_text = record { output = record { is = legacy_is_updated; signatures = without }; is_kept = says };
    appended = appended;
  }

  pub legacy_not_updated : {S : Type 0} {fails : S → List ℕ → S → Error → Type 0} (old new : S) (error : Error) →
      AppendFailed fails (λ text. text ≡ updated_legacy_text) (λ error. error ≡ OutOfMemory) old new error →
      AppendFailed fails (IsUpdated changes limits form file) (IsUpdateError changes limits form file) old new error
  legacy_not_updated old new error (WasRefused is same) =
      WasRefused (subst (IsUpdateError changes limits form file) (sym is) (ForLegacyImage parsed.image opened.means)) same
  legacy_not_updated old new error (SinkFailed text cause is failed same) =
      SinkFailed text cause (subst (IsUpdated changes limits form file) (sym is) legacy_is_updated) failed same

-- The text of a flattened image tree that was read, with the changes.
module _ (changes : Changes) (limits : Limits) (form : Form) (file : List ℕ) (content : FitModel) (opened : IsReadFit limits file content)
    (most : limits.file ≤ longest_text) where
  abbrev updated_tree : ImageTree
  updated_tree = with_changes changes (tree_of content)

  pub tree_is_updated : ¬ (HashesTooMuch changes limits (OfFit (tree_of content))) → length (fit_text form updated_tree) ≤ limits.file →
      IsUpdated changes limits form file (fit_text form updated_tree)
  tree_is_updated within fits =
      let tree = tree_of content in
      record {
        meaning = OfFit tree;
        means = record { means = opened.means; only = only_tree limits file content opened };
        within = within;
        is_text = refl;
        text_means = (updated_is_accepted limits form changes tree (is_image_tree file tree opened.means.is_file)
            (subst (λ n. n ≤ limits.depth) (sym (depth-image_tree file tree opened.means.is_file))
            opened.means.within.shallow) fits most).means;
        changed = each_update_has_its_changes changes tree;
        judgement = updated_judgement changes tree;
      }

  pub tree_updated : (kept : Kept) (within : ¬ (HashesTooMuch changes limits (OfFit (tree_of content))))
      (fits : length (fit_text form updated_tree) ≤ limits.file) → kept.signatures ≡ signatures_of_tree (tree_of content) →
      IsKept form content.blob.file (tree_of content) updated_tree kept →
      IsUpdateKept changes limits form kept file (fit_text form updated_tree)
  unfolding tree_is_updated
  tree_updated kept within fits is_count says = record {
    output = record {
      is = tree_is_updated within fits;
      signatures = is_count ∙ sym (signatures-updated changes (tree_of content));
    };
    is_kept = subst (λ file. IsKept form file (tree_of content) updated_tree kept) opened.is_file says;
  }

  -- The text was not laid out.
  pub text_not_made : (error : Error) → IsTextError limits form updated_tree error → IsUpdateError changes limits form file error
  text_not_made (Refused fault) is = inr (record { meaning = OfFit (tree_of content); means = opened.means; is_too_long = inr is.1 }, is.0)
  text_not_made OutOfMemory is = needs_memory limits file (OfFit (tree_of content)) opened.means
  text_not_made ReadFailed is = is
  text_not_made WriteFailed is = is

  -- The digests were not made.
  pub digests_not_made : (error : Error) → IsDigestsError changes limits (tree_of content) error →
      IsUpdateError changes limits form file error
  digests_not_made (Refused fault) is = inr
      (record { meaning = OfFit (tree_of content); means = opened.means; is_too_long = inl is.0 }, is.1)
  digests_not_made OutOfMemory is = needs_memory limits file (OfFit (tree_of content)) opened.means
  digests_not_made ReadFailed is = is
  digests_not_made WriteFailed is = is

-- Without changes it is the normal form.
pub no_change_normalises : (limits : Limits) (form : Form) (file text normal : List ℕ) →
    IsUpdated (record { time = None; hashes = false }) limits form file text → IsNormalForm limits form file normal → text ≡ normal
no_change_normalises limits form file text normal is is_normal =
    is.is_text ∙ same is.meaning ∙ ap (normal_text form) (is_normal.only is.meaning is.means.means) ∙ sym is_normal.is_text
  where
    same : (meaning : Meaning) →
        normal_text form (updated_meaning (record { time = None; hashes = false }) meaning) ≡ normal_text form meaning
    same (OfLegacy image) = refl
    same (OfFit tree) = refl
