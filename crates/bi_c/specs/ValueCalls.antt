use Rattle.std.specs.Prelude.{ℕ, ◌<◌, ◌≡◌, ◌==◌, List, [], ◌∷◌, Option, if◌then◌else◌}
use Rattle.bi_base.specs.Limits.{IsInRange}
use Rattle.bi_values.specs.Getting.{IsGetError, IsTextOfValues}
use Rattle.bi_values.specs.NameWords.{AreWordsOf}
use Rattle.bi_values.specs.ValueNames.{ValueNameModel}
use Rattle.bi_values.specs.declared.get_error.GetError.{GetError}
use Rattle.bi_values.specs.declared.get_error.GetError.TheVariants as get
use Rattle.bi_values.specs.declared.value_form.ValueForm.{ValueForm}
use Rattle.bi_values.specs.declared.value_form.ValueForm.TheVariants.{Shown, Text, Number, Raw}
use Rattle.bi_c.specs.Answers.{failure_of_error}
use Rattle.bi_c.specs.Arguments.{bounds}
use Rattle.bi_c.specs.Checks.{IsWrong, LimitsCheck, NextCheck}
use Rattle.bi_c.specs.declared.argument.Argument.{Argument}
use Rattle.bi_c.specs.declared.argument.Argument.TheVariants as argument
use Rattle.bi_c.specs.declared.failure.Failure.{Failure}
use Rattle.bi_c.specs.declared.failure.Failure.TheVariants.{WrongArgument, OutOfMemory}
use Rattle.bi_c.specs.declared.failure.Failure.TheVariants.{NotFound}

-- What the call from C returns that gets a single value (profile of this project).

-- The form with this number.
abbrev pub value_form_of : ℕ → ValueForm
value_form_of number =
    if number == 0 then Shown
    else if number == 1 then Text
    else if number == 2 then Number
    else Raw

-- The words that name a value: the place alone if the name is empty, and otherwise both.
abbrev pub words_of_place : (place name : List ℕ) → List (List ℕ)
words_of_place place [] = place ∷ []
words_of_place place (first ∷ later) = place ∷ (first ∷ later) ∷ []

-- These words name one value, and this is its name.
pub record IsOneName (place name : List ℕ) (names : List ValueNameModel) : Type 0 where
  pub value : ValueNameModel
  pub is_one : names ≡ value ∷ []
  pub are_words : AreWordsOf (words_of_place place name) names

-- They name no value, or several.
abbrev pub NameNothing : (place name : List ℕ) → Type 0
NameNothing place name = (names : List ValueNameModel) → ¬ (IsOneName place name names)

-- The limits and the number of the form are in their ranges.
pub record HasValueForm (limit depth form : ℕ) : Type 0 where
  pub limits : IsInRange limit depth
  pub is_form : form < 4

-- These are valid, and the words name one value.
pub record HasPlace (limit depth form : ℕ) (place name : List ℕ) : Type 0 where
  pub arguments : HasValueForm limit depth form
  pub names : List ValueNameModel
  pub is_one : IsOneName place name names

-- The limits, the form and then the words are checked.
abbrev pub PlaceCheck : (limit depth form : ℕ) → (place name : List ℕ)
    → Option (Argument × ℕ) → Type 0
PlaceCheck limit depth form place name =
    NextCheck (NextCheck (LimitsCheck limit depth) argument.Form (HasValueForm limit depth form))
    argument.Place (HasPlace limit depth form place name)

-- The value of the file that the words name, in the form.
pub record IsGotten (limit depth form : ℕ) (place name file text : List ℕ) (value : ℕ) : Type 0
  where
    pub arguments : HasValueForm limit depth form
    pub names : List ValueNameModel
    pub is_one : IsOneName place name names
    pub is : IsTextOfValues (value_form_of form) names (bounds limit depth) file text
    pub no_value : value ≡ 0

-- The failure for an error of getting one value.
abbrev pub failure_of_get_error : GetError → Failure
failure_of_get_error (get.Failed error) = failure_of_error error
failure_of_get_error get.WrongKind = NotFound 1 0
failure_of_get_error (get.NoProperty index) = NotFound 11 0
failure_of_get_error (get.NoText index) = NotFound 12 0
failure_of_get_error (get.NoNumber index) = NotFound 13 0

-- The failure is the one for an error of getting the value that the words name.
pub record IsValueFailureBy (limit depth form : ℕ) (place name file : List ℕ) (failure : Failure)
    : Type 0
  where
    pub arguments : HasValueForm limit depth form
    pub names : List ValueNameModel
    pub is_one : IsOneName place name names
    pub cause : GetError
    pub is_error : IsGetError (value_form_of form) names (bounds limit depth) file cause
    pub is_failure : failure ≡ failure_of_get_error cause

-- Why no value was written: an argument is out of its range, or the words do not name one value.
-- Memory can run out as soon as the numbers are in their ranges.
abbrev pub IsValueFailure : (limit depth form : ℕ) → (place name file : List ℕ) → Failure → Type 0
IsValueFailure limit depth form place name file (WrongArgument found index) =
    IsWrong (PlaceCheck limit depth form place name) found index
IsValueFailure limit depth form place name file OutOfMemory = HasValueForm limit depth form
IsValueFailure limit depth form place name file failure =
    IsValueFailureBy limit depth form place name file failure
