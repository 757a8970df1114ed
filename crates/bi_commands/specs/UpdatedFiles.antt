use Rattle.std.specs.Prelude.{ℕ, ◌<◌, ◌≡◌, ◌⊎◌, ⊤, true, List, length, unwrap_or}
use Rattle.bi_base.specs.Errors.{IsFaultOrNoMemory}
use Rattle.bi_base.specs.Commands.{CommandPromise, PromiseLaws}
use Rattle.bi_base.specs.declared.fault.Error.{Error}
use Rattle.bi_base.specs.Limits.{Limits}
use Rattle.bi_base.specs.Reading.{too_large}
use Rattle.bi_fit.specs.declared.changes.Changes.{Changes}
use Rattle.bi_fit.specs.declared.form.Form.{Form}
use Rattle.bi_fit.specs.declared.kept.Kept.{Kept}
use Rattle.bi_fit.specs.ImageTree.{ImageTree}
use Rattle.bi_fit.specs.NewDigests.{new_digests}
use Rattle.bi_fit.specs.Updating.{with_changes, HasUpdatedJudgement}
use Rattle.bi_fit.specs.UpdateLaws.{HasOnlyChanges}
use Rattle.bi_legacy.specs.Laws.{HasNewTime}
use Rattle.bi_legacy.specs.Meaning.{with_new_time}
use Rattle.bi_norm.specs.Comparing.{MeansOnly}
use Rattle.bi_norm.specs.Meaning.{Meaning, OfLegacy, OfFit, Means, normal_text}
use Rattle.bi_norm.specs.Meaning.{meaning_signature_count}
use Rattle.bi_norm.specs.NormalForm.{IsKeptOfImage}
use Rattle.bi_norm.specs.Reading.{IsReadErrorOrTooLarge}
use Rattle.bi_common.specs.PayloadBounds.{IsOverPayloadBound}

-- Updating a boot image: its time, and the digests in its hash nodes (profile of this project).

-- What a boot image means after an update. A legacy image has no hash nodes.
abbrev pub updated_meaning : Changes → Meaning → Meaning
updated_meaning changes (OfLegacy image) =
    OfLegacy (with_new_time (unwrap_or changes.time image.time) image)
updated_meaning changes (OfFit tree) = OfFit (with_changes changes tree)

-- The update computes digests, and the payloads of the image are over the payload bound.
pub record HashesTooMuch (changes : Changes) (limits : Limits) (meaning : Meaning) : Type 0 where
  pub hashes : changes.hashes ≡ true
  pub is_over : IsOverPayloadBound limits meaning

-- What a boot image means has these changes and no others. Without a new time the time of a legacy
-- image is as it was.
abbrev pub HasOnlyTheseChanges : Changes → (old new : Meaning) → Type 0
HasOnlyTheseChanges changes (OfLegacy old) (OfLegacy new) =
    HasNewTime (unwrap_or changes.time old.time) old new
HasOnlyTheseChanges changes (OfFit old) (OfFit new) = HasOnlyChanges changes old new
HasOnlyTheseChanges changes old new = ⊥

-- What follows from the meaning of a flattened image tree after these changes: verdicts,
-- configurations, the default and signatures. Nothing does from that of a legacy image.
abbrev pub UpdatesJudgement : Changes → (old new : Meaning) → Type 0
UpdatesJudgement changes (OfFit old) (OfFit new) = HasUpdatedJudgement changes old new
UpdatesJudgement changes old new = ⊤

-- The text is that of the updated file.
pub record IsUpdated (changes : Changes) (limits : Limits) (form : Form) (file text : List ℕ)
    : Type 0 where
  -- The file means this, and nothing else.
  pub meaning : Meaning
  pub means : MeansOnly limits file meaning
  pub within : ¬ (HashesTooMuch changes limits meaning)
  -- The text is the normal text of the updated meaning, and means it within the same limits.
  pub is_text : text ≡ normal_text form (updated_meaning changes meaning)
  pub text_means : Means limits text (updated_meaning changes meaning)
  -- This is what the file means with the changes and no others, and what follows from them.
  pub changed : HasOnlyTheseChanges changes meaning (updated_meaning changes meaning)
  pub judgement : UpdatesJudgement changes meaning (updated_meaning changes meaning)

-- The text is that of the updated file, and this is the number of its signature nodes.
pub record IsUpdateOutput (changes : Changes) (limits : Limits) (form : Form) (count : ℕ)
    (file text : List ℕ) : Type 0 where
  pub is : IsUpdated changes limits form file text
  pub signatures : count ≡ meaning_signature_count (updated_meaning changes is.meaning)

-- The text is that of the updated file, and this is what it does not keep of the file.
-- `kept.signatures` counts the signature nodes.
pub record IsUpdateKept (changes : Changes) (limits : Limits) (form : Form) (kept : Kept)
    (file text : List ℕ) : Type 0 where
  pub output : IsUpdateOutput changes limits form kept.signatures file text
  pub is_kept : IsKeptOfImage form file output.is.meaning
      (updated_meaning changes output.is.meaning) kept

-- The file means something whose payloads are over the payload bound, if the update computes
-- digests, or whose updated normal text is longer than the limit.
pub record IsTooLongToUpdate (changes : Changes) (limits : Limits) (form : Form) (file : List ℕ)
    : Type 0 where
  pub meaning : Meaning
  pub means : Means limits file meaning
  pub is_too_long : HashesTooMuch changes limits meaning
      ⊎ (limits.file < length (normal_text form (updated_meaning changes meaning)))

-- The error that updating a file in memory can have: one of reading it, or TooLarge at the limit.
abbrev pub IsUpdateError : Changes → Limits → Form → List ℕ → Error → Type 0
IsUpdateError changes limits form file =
    IsReadErrorOrTooLarge limits file (IsTooLongToUpdate changes limits form file)

-- These are the digests that the hash nodes get, one after another. If there are any, the payloads
-- are within the payload bound.
pub record HasNewDigests (changes : Changes) (limits : Limits) (tree : ImageTree)
    (digests : List ℕ) : Type 0 where
  pub are_digests : digests ≡ new_digests changes tree
  pub within : ¬ (HashesTooMuch changes limits (OfFit tree))

-- The error of computing them: TooLarge at the limit, or memory ran out.
abbrev pub IsDigestsError : Changes → Limits → ImageTree → Error → Type 0
IsDigestsError changes limits tree =
    IsFaultOrNoMemory (λ fault.
    HashesTooMuch changes limits (OfFit tree) × (fault ≡ too_large limits.file))

-- What updating promises as a command.
abbrev pub update_promise : Changes → Form → Limits → CommandPromise ℕ Error
update_promise changes form limits = record {
  is_output = λ count file text. IsUpdateOutput changes limits form count file text;
  is_text = IsUpdated changes limits form;
  has_error = IsUpdateError changes limits form;
  wraps = λ error. error;
}

pub update_laws : (changes : Changes) (form : Form) (limits : Limits)
    → PromiseLaws (update_promise changes form limits)
update_laws changes form limits = record {
  is_text = λ count file text with_changes. with_changes.is;
  wraps_once = λ a b same. same;
  no_read_error = λ file is. is;
  no_write_error = λ file is. is;
}
