use Rattle.std.specs.Prelude.{◌≡◌, ◌≢◌, ◌⊎◌, ℕ, List, [], ◌∷◌, ◌++◌, flat_map, ⊤}
use Rattle.std.specs.List.{AllByRecursion}
use Rattle.bi_common.specs.Shown.{path, shown_text}
use Rattle.bi_values.specs.ValueNames.{IsChildNameOfBytes, IsNodePath, IsPropertyNameOfBytes}
use Rattle.bi_values.specs.ValueNames.{IsValueName, ValueNameModel, words_of_value}

-- Which names of values are printed as some words (profile of this project).

-- These words are those of these names of values, one after the other, and of no others.
pub record AreWordsOf (words : List (List ℕ)) (names : List ValueNameModel) : Type 0 where
  pub valid : AllByRecursion IsValueName names
  pub are : flat_map words_of_value names ≡ words
  pub only : (others : List ValueNameModel) → AllByRecursion IsValueName others
      → flat_map words_of_value others ≡ words → others ≡ names

-- These words are those of no names of values.
abbrev pub AreNoWords : List (List ℕ) → Type 0
AreNoWords words =
    (names : List ValueNameModel) → AllByRecursion IsValueName names
    → flat_map words_of_value names ≢ words

-- ---- one name

-- The words begin with those of this name, and these follow.
pub record BeginWithName (words : List (List ℕ)) (name : ValueNameModel)
    (later : List (List ℕ)) : Type 0
  where
    pub valid : IsValueName name
    pub are : words ≡ words_of_value name ++ later

-- The words begin with those of no name.
abbrev pub BeginWithNoName : List (List ℕ) → Type 0
BeginWithNoName words =
    (name : ValueNameModel) (later : List (List ℕ)) → IsValueName name
    → words ≢ words_of_value name ++ later

-- ---- paths

-- The text is the path of these names.
pub record IsPathWord (text : List ℕ) (names : List (List ℕ)) : Type 0 where
  pub is_path : IsNodePath names
  pub is : path names ≡ text

-- The text is the path of no names.
abbrev pub IsNoPath : List ℕ → Type 0
IsNoPath text = (names : List (List ℕ)) → IsNodePath names → path names ≢ text

-- The bytes for the names of a path, each after a slash.
abbrev pub steps_text : List (List ℕ) → List ℕ
steps_text names = flat_map (λ name. 47 ∷ shown_text name) names

-- The text is that of these names.
pub record AreStepsOf (text : List ℕ) (names : List (List ℕ)) : Type 0 where
  pub are_names : AllByRecursion IsChildNameOfBytes names
  pub is : steps_text names ≡ text

-- The text is that of no names.
abbrev pub AreNoSteps : List ℕ → Type 0
AreNoSteps text =
    (names : List (List ℕ)) → AllByRecursion IsChildNameOfBytes names → steps_text names ≢ text

-- Nothing, or bytes that begin with a slash.
abbrev pub IsEmptyOrBeginsWithSlash : List ℕ → Type 0
IsEmptyOrBeginsWithSlash [] = ⊤
IsEmptyOrBeginsWithSlash (byte ∷ later) = byte ≡ 47

-- The text begins with a slash and these bytes, of which none is a slash, and it ends there or goes
-- on with a slash.
pub record BeginsWithStep (text step later : List ℕ) : Type 0 where
  pub is : text ≡ 47 ∷ (step ++ later)
  pub no_slash : AllByRecursion (λ byte. byte ≢ 47) step
  pub ends : IsEmptyOrBeginsWithSlash later

-- The text does not begin with a slash.
abbrev pub HasNoStep : List ℕ → Type 0
HasNoStep text = (later : List ℕ) → text ≢ 47 ∷ later

-- ---- names

-- The text is how the name of a child is printed.
pub record IsShownChildName (text name : List ℕ) : Type 0 where
  pub is_name : IsChildNameOfBytes name
  pub is : shown_text name ≡ text

abbrev pub IsNoChildName : List ℕ → Type 0
IsNoChildName text = (name : List ℕ) → IsChildNameOfBytes name → shown_text name ≢ text

-- The text is how the name of a property is printed.
pub record IsShownPropertyName (text name : List ℕ) : Type 0 where
  pub is_name : IsPropertyNameOfBytes name
  pub is : shown_text name ≡ text

abbrev pub IsNoPropertyName : List ℕ → Type 0
IsNoPropertyName text = (name : List ℕ) → IsPropertyNameOfBytes name → shown_text name ≢ text

-- The first text is the path of no names, or the second is how no name of a property is printed.
abbrev pub IsNoProperty : (place name : List ℕ) → Type 0
IsNoProperty place name = IsNoPath place ⊎ IsNoPropertyName name
