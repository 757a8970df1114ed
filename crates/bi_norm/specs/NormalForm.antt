use Rattle.std.specs.Prelude.{ℕ, ◌<◌, ◌≡◌, ◌↔◌, List, length}
use Rattle.bi_base.specs.declared.fault.Error.{Error}
use Rattle.bi_base.specs.Commands.{CommandPromise, PromiseLaws}
use Rattle.bi_base.specs.Limits.{Limits}
use Rattle.bi_fit.specs.declared.form.Form.{Form}
use Rattle.bi_fit.specs.declared.kept.Kept.{Kept}
use Rattle.bi_fit.specs.File.{FitMeans}
use Rattle.bi_fit.specs.ImageTree.{ImageTree}
use Rattle.bi_fit.specs.Judgement.{judgement}
use Rattle.bi_fit.specs.Kept.{IsKept, SaysNothing}
use Rattle.bi_fit.specs.Text.{fit_text}
use Rattle.bi_norm.specs.Meaning.{Meaning, OfFit, Means, normal_text, meaning_signature_count}
use Rattle.bi_norm.specs.Reading.{IsReadErrorOrTooLarge}

-- What normalising promises: two accepted files have the same normal form if and only if they mean
-- the same thing. A legacy image and a FIT never do (profile of this project).

-- The text is the normal form of the file.
pub record IsNormalForm (limits : Limits) (form : Form) (file text : List ℕ) : Type 0 where
  -- The file means this, and nothing else.
  pub meaning : Meaning
  pub means : Means limits file meaning
  pub only : (other : Meaning) → Means limits file other → other ≡ meaning
  -- The text is the normal text of this meaning.
  pub is_text : text ≡ normal_text form meaning
  -- Of all files that mean something within the limits, those that mean this have this normal
  -- text, and no others have it.
  pub distinguishes : (other_file : List ℕ) (other : Meaning) → Means limits other_file other
      → (normal_text form other ≡ text) ↔ (other ≡ meaning)
  -- The text means the same within the same limits, so it is its own normal form.
  pub is_own : Means limits text meaning
  -- The verdicts, the configurations and what they list, the default, and the number of signature
  -- nodes of a FIT stay.
  pub keeps_judgement : (tree other : ImageTree) → FitMeans limits file tree
      → FitMeans limits text other → judgement other ≡ judgement tree

-- The text is the normal form of the file. The number counts the signature nodes of a FIT, which
-- are children of image nodes and of configuration nodes. It is 0 for a legacy image.
pub record IsNormaliseOutput (limits : Limits) (form : Form) (count : ℕ) (file text : List ℕ)
    : Type 0
  where
    pub normal : IsNormalForm limits form file text
    pub signatures : count ≡ meaning_signature_count normal.meaning

-- What the text of `new`, in a form, keeps of the places of the payloads in a file that means
-- `old`. For a legacy image, `kept` says nothing.
abbrev pub IsKeptOfImage : Form → (file : List ℕ) → (old new : Meaning) → Kept → Type 0
IsKeptOfImage form file (OfFit old) (OfFit new) kept = IsKept form file old new kept
IsKeptOfImage form file old new kept = SaysNothing kept

-- The text is the normal form of the file, and this is what it does not keep of the file.
-- `kept.signatures` counts the signature nodes.
pub record IsNormaliseKept (limits : Limits) (form : Form) (kept : Kept) (file text : List ℕ)
    : Type 0
  where
    pub output : IsNormaliseOutput limits form kept.signatures file text
    pub is_kept : IsKeptOfImage form file output.normal.meaning output.normal.meaning kept

-- The file means a FIT, and its normal text in this form is longer than the limit. The normal text
-- of a legacy image is never longer than its file.
pub record IsTooLong (limits : Limits) (form : Form) (file : List ℕ) : Type 0 where
  pub tree : ImageTree
  pub means : FitMeans limits file tree
  pub longer : limits.file < length (fit_text form tree)

-- The error of normalising a file in memory: an error of reading it, or TooLarge, if its normal
-- text is longer than the limit.
abbrev pub IsNormaliseError : Limits → Form → List ℕ → Error → Type 0
IsNormaliseError limits form file = IsReadErrorOrTooLarge limits file (IsTooLong limits form file)

-- What normalising promises as a command.
abbrev pub normalise_promise : Form → Limits → CommandPromise ℕ Error
normalise_promise form limits = record {
  is_output = λ count file text. IsNormaliseOutput limits form count file text;
  is_text = IsNormalForm limits form;
  has_error = IsNormaliseError limits form;
  wraps = λ error. error;
}

pub normalise_laws : (form : Form) (limits : Limits) → PromiseLaws (normalise_promise form limits)
normalise_laws form limits = record {
  is_text = λ count file text is. is.normal;
  wraps_once = λ a b same. same;
  no_read_error = λ file is. is;
  no_write_error = λ file is. is;
}
