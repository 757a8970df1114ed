use Rattle.std.specs.Prelude.{ℕ, ◌≡◌, List, ◌∷◌, ◌++◌, length, map}
use Rattle.std.specs.List.{concat}
use Rattle.std.proofs.Common.{ap}
use Rattle.bi_base.specs.declared.fault.Error.{Error}
use Rattle.bi_base.specs.declared.fault.Error.TheVariants.{OutOfMemory}
use Rattle.bi_base.specs.Commands.{CommandPromise, PromiseLaws}
use Rattle.bi_base.specs.Limits.{Limits}
use Rattle.bi_norm.specs.Comparing.{MeansOnly}
use Rattle.bi_norm.specs.Meaning.{Meaning}
use Rattle.bi_norm.specs.Reading.{IsBootImageReadError}
use Rattle.bi_values.specs.ValueNames.{ValueNameModel}
use Rattle.bi_values.specs.ValueResults.{ValueResult, OfOtherKind, NoSuchProperty, HasNoText}
use Rattle.bi_values.specs.ValueResults.{HasNoNumber, ValueBytes, value_results}
use Rattle.bi_values.specs.declared.get_error.GetError.{GetError}
use Rattle.bi_values.specs.declared.get_error.GetError.TheVariants as error
use Rattle.bi_values.specs.declared.value_form.ValueForm.{ValueForm}

-- Getting values of a boot image (profile of this project).

-- Each of these results is bytes, and the text is all of them, one after the other.
pub record IsTextOfResults (results : List ValueResult) (text : List ℕ) : Type 0 where
  pub pieces : List (List ℕ)
  pub are_bytes : results ≡ map ValueBytes pieces
  pub is_text : text ≡ concat pieces

-- The text has the values of what the file means, in a form and in the order of their names. The
-- file means nothing else.
pub record IsTextOfValues (form : ValueForm) (names : List ValueNameModel) (limits : Limits)
    (file text : List ℕ) : Type 0
  where
    pub meaning : Meaning
    pub means : MeansOnly limits file meaning
    pub has_values : IsTextOfResults (value_results form meaning names) text

-- A result is the reason that an error names, and the name of the value is the one at this index,
-- if the error has one.
abbrev pub IsValueReason : (index : ℕ) → ValueResult → GetError → Type 0
IsValueReason index result (error.Failed failed) = ⊥
IsValueReason index result error.WrongKind = result ≡ OfOtherKind
IsValueReason index result (error.NoProperty at) = (result ≡ NoSuchProperty) × (at ≡ index)
IsValueReason index result (error.NoText at) = (result ≡ HasNoText) × (at ≡ index)
IsValueReason index result (error.NoNumber at) = (result ≡ HasNoNumber) × (at ≡ index)

-- The error names the first of these results without bytes.
pub record IsFirstReason (results : List ValueResult) (error : GetError) : Type 0 where
  pub pieces : List (List ℕ)
  pub reason : ValueResult
  pub later : List ValueResult
  pub are_results : results ≡ map ValueBytes pieces ++ reason ∷ later
  pub is_reason : IsValueReason (length pieces) reason error

-- The error names the first of some values for which there is nothing to write, and the reason. The
-- file means nothing else.
pub record LacksValue (form : ValueForm) (names : List ValueNameModel) (limits : Limits)
    (file : List ℕ) (error : GetError) : Type 0
  where
    pub meaning : Meaning
    pub means : MeansOnly limits file meaning
    pub is_first : IsFirstReason (value_results form meaning names) error

-- The error that getting values of a file in memory can have: one of reading it, or else the first
-- reason.
abbrev pub IsGetError : ValueForm → List ValueNameModel → Limits → List ℕ → GetError → Type 0
IsGetError form names limits file (error.Failed failed) = IsBootImageReadError limits file failed
IsGetError form names limits file error = LacksValue form names limits file error

-- What getting values promises as a command.
abbrev pub get_promise : ValueForm → List ValueNameModel → Limits
    → CommandPromise (Unit {0}) GetError
get_promise form names limits = record {
  is_output = λ value. IsTextOfValues form names limits;
  is_text = IsTextOfValues form names limits;
  has_error = IsGetError form names limits;
  wraps = λ cause. error.Failed cause;
}

-- The error that an error of getting values has inside.
abbrev error_in_get_error : GetError → Error
error_in_get_error (error.Failed cause) = cause
error_in_get_error other = OutOfMemory

pub get_laws : (form : ValueForm) (names : List ValueNameModel) (limits : Limits)
    → PromiseLaws (get_promise form names limits)
get_laws form names limits = record {
  is_text = λ value input output is. is;
  wraps_once = λ a b same. ap error_in_get_error same;
  no_read_error = λ input is. is;
  no_write_error = λ input is. is;
}
