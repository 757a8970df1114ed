use Rattle.std.proofs.Common.{◌≡◌, ◌==◌, ℕ, true, false, List, [], ◌∷◌, length, ap, arith, refl, subst, sym, true≢false}
use Rattle.bi_common.proofs.UnshownNames.{empty_list}
use Rattle.bi_base.specs.Limits.{Limits}
use Rattle.bi_base.specs.declared.fault.Error.TheVariants as error
use Rattle.bi_values.specs.Getting.{IsGetError, IsTextOfValues}
use Rattle.bi_values.specs.NameWords.{AreNoWords, AreWordsOf}
use Rattle.bi_values.specs.ValueNames.{ValueNameModel}
use Rattle.bi_values.specs.declared.get_error.GetError.{GetError}
use Rattle.bi_values.specs.declared.get_error.GetError.TheVariants as get
use Rattle.bi_values.specs.declared.value_form.ValueForm.{ValueForm}
use Rattle.bi_c.specs.Arguments.{bounds}
use Rattle.bi_c.specs.ValueCalls.{HasValueForm, IsValueFailure, IsValueFailureBy, IsGotten, IsOneName, NameNothing, failure_of_get_error}
use Rattle.bi_c.specs.ValueCalls.{value_form_of, words_of_place}

-- What the call from C that gets a value answers.

-- Without a name the words are the place alone, and with one they are both.
pub place_alone : (place name : List ℕ) → (length name == 0) ≡ true → place ∷ [] ≡ words_of_place place name
place_alone place name is = ap (words_of_place place) (sym (empty_list name is))

pub both_words : (place name : List ℕ) → (length name == 0) ≡ false → place ∷ (name ∷ []) ≡ words_of_place place name
both_words place [] is = absurd (true≢false is)
both_words place (first ∷ later) is = refl

-- The words of no names do not name one value.
pub nothing_named : (place name : List ℕ) → AreNoWords (words_of_place place name) → NameNothing place name
nothing_named place name none names one = none names one.are_words.valid one.are_words.are

-- Words of several names, or of none, do not name one value.
pub not_one_named : (place name : List ℕ) (names : List ValueNameModel) → AreWordsOf (words_of_place place name) names →
    ¬ (length names ≡ 1) → NameNothing place name
not_one_named place name names are not_one others one =
    not_one (subst (λ (given : List ValueNameModel). length given ≡ 1)
    (are.only others one.are_words.valid one.are_words.are) (ap length one.is_one))

-- A list of one name has this name.
pub one_named : (place name : List ℕ) (names : List ValueNameModel) → AreWordsOf (words_of_place place name) names →
    length names ≡ 1 → IsOneName place name names
one_named place name [] are one = absurd (omega (arith, one))
one_named place name (value ∷ []) are one = record { value = value; is_one = refl; are_words = are }
one_named place name (value ∷ next ∷ later) are one = absurd (omega (arith, one))

-- The value that was got.
pub gotten : (limit depth number : ℕ) (place name file text : List ℕ) (form : ValueForm) (limits : Limits) (names : List ValueNameModel) →
    HasValueForm limit depth number → IsOneName place name names → limits ≡ bounds limit depth → form ≡ value_form_of number →
    IsTextOfValues form names limits file text → IsGotten limit depth number place name file text 0
gotten limit depth number place name file text form limits names valid one same same_form is = record {
  arguments = valid;
  names = names;
  is_one = one;
  is = subst (λ (given : ValueForm). IsTextOfValues given names (bounds limit depth) file text) same_form
      (subst (λ (given : Limits). IsTextOfValues form names given file text) same is);
  no_value = refl;
}

-- The failure of getting it.
pub not_gotten : (limit depth number : ℕ) (place name file : List ℕ) (form : ValueForm) (limits : Limits) (names : List ValueNameModel)
    (cause : GetError) → HasValueForm limit depth number → IsOneName place name names → limits ≡ bounds limit depth →
    form ≡ value_form_of number → IsGetError form names limits file cause →
    IsValueFailure limit depth number place name file (failure_of_get_error cause)
not_gotten limit depth number place name file form limits names cause valid one same same_form is =
    by cause (subst (λ (given : ValueForm). IsGetError given names (bounds limit depth) file cause) same_form
    (subst (λ (given : Limits). IsGetError form names given file cause) same is))
  where
    whole : (cause : GetError) → IsGetError (value_form_of number) names (bounds limit depth) file cause →
        IsValueFailureBy limit depth number place name file (failure_of_get_error cause)
    whole cause is = record {
      arguments = valid;
      names = names;
      is_one = one;
      cause = cause;
      is_error = is;
      is_failure = refl;
    }

    by : (cause : GetError) → IsGetError (value_form_of number) names (bounds limit depth) file cause →
        IsValueFailure limit depth number place name file (failure_of_get_error cause)
    by (get.Failed (error.Refused fault)) is = whole (get.Failed (error.Refused fault)) is
    by (get.Failed error.OutOfMemory) is = valid
    by (get.Failed error.ReadFailed) is = absurd is
    by (get.Failed error.WriteFailed) is = absurd is
    by get.WrongKind is = whole get.WrongKind is
    by (get.NoProperty index) is = whole (get.NoProperty index) is
    by (get.NoText index) is = whole (get.NoText index) is
    by (get.NoNumber index) is = whole (get.NoNumber index) is
