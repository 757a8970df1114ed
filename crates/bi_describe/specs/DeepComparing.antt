use Rattle.std.specs.Prelude.{◌≡◌, ◌↔◌, ◌⊎◌, Bool, true, false, IsTrue, ℕ, List, []}
use Rattle.std.specs.Prelude.{if◌then◌else◌}
use Rattle.bi_base.specs.Limits.{Limits}
use Rattle.bi_base.specs.Reading.{too_large}
use Rattle.bi_norm.specs.Comparing.{AreCompared}
use Rattle.bi_norm.specs.Meaning.{Meaning}
use Rattle.bi_common.specs.declared.format.Format.{Format}
use Rattle.bi_common.specs.declared.format.Format.TheVariants.{Lines}
use Rattle.bi_describe.specs.declared.compare.CompareError.{CompareError}
use Rattle.bi_describe.specs.declared.compare.CompareError.TheVariants.{One, Other, OutOfMemory}
use Rattle.bi_describe.specs.Comparing.{IsReadingError, comparison_by_lines, comparison_text}
use Rattle.bi_describe.specs.ComparingWithout.{AreMeanings, IgnoringOptionsModel, text_without}
use Rattle.bi_describe.specs.DeepDescribing.{CanBeDescribedDeep, IsTooLongToDescribeDeep}
use Rattle.bi_describe.specs.DeepDescriptions.{deep_lines}
use Rattle.bi_describe.specs.Devicetrees.{AreInside, DeepMeaning, Insides}
use Rattle.bi_describe.specs.Differences.{SignedLine, text_of_differences}
use Rattle.bi_describe.specs.Ignoring.{Ignored, PayloadPlace}
use Rattle.bi_describe.specs.OpenedPayloads.{AreSameDeep, deep_lines_without, is_opened}

-- Comparing what two boot images mean, with the devicetrees inside their payloads (profile of this
-- project).

-- What is inside the payloads of a meaning, which can be described with it.
pub record IsDescribedDeep (limits : Limits) (meaning : Meaning) : Type 0 where
  pub insides : Insides
  pub are_inside : AreInside limits meaning insides
  pub within : CanBeDescribedDeep Lines limits (record { meaning = meaning; insides = insides })

-- The meaning with it.
abbrev pub deep_of : {limits : Limits} {meaning : Meaning} → IsDescribedDeep limits meaning
    → DeepMeaning
deep_of {meaning = meaning} is = record { meaning = meaning; insides = is.insides }

-- Both of two meanings can be described with what is inside.
pub record AreDescribedDeep (limits : Limits) (one other : Meaning) : Type 0 where
  pub first : IsDescribedDeep limits one
  pub second : IsDescribedDeep limits other

-- ---- if nothing is left out

-- What differs between two meanings that are not the same.
abbrev pub deep_comparison : (one other : DeepMeaning) → List SignedLine
deep_comparison one other =
    comparison_by_lines one.meaning other.meaning (deep_lines one) (deep_lines other)

-- The lines are what differs between two meanings: none if they are the same. If they are not, both
-- can be described.
pub data AreDeepDifferences (limits : Limits) (one other : Meaning) (lines : List SignedLine)
    : (same : Bool) → Type 0
  where
    AreTheSame : lines ≡ [] → AreDeepDifferences limits one other lines true
    AreDifferent : (are : AreDescribedDeep limits one other)
        → lines ≡ deep_comparison (deep_of are.first) (deep_of are.second)
        → AreDeepDifferences limits one other lines false

-- The text is what differs between two meanings, in a form. There are differences if and only if
-- the meanings are not the same.
pub record IsDeepComparisonOf (format : Format) (limits : Limits) (one other : Meaning)
    (same : Bool) (text : List ℕ) : Type 0
  where
    pub lines : List SignedLine
    pub differences : AreDeepDifferences limits one other lines same
    pub empty : (text_of_differences lines ≡ []) ↔ IsTrue same
    pub is_text : text ≡ comparison_text format same lines

-- The text is what differs between two files, in a form, and `same` is whether they mean the same.
pub record IsDeepComparison (format : Format) (limits : Limits) (one other : List ℕ) (same : Bool)
    (text : List ℕ) : Type 0
  where
    pub compared : AreCompared limits one other same
    pub differs :
        IsDeepComparisonOf format limits compared.meaning compared.other_meaning same text

-- ---- if something is left out

-- What differs between two meanings that are not the same without what the words leave out, if
-- these payloads are opened. If the meanings are of different kinds, that is all, and nothing is
-- left out; or else it is what differs between the lines that stay of both.
abbrev pub deep_comparison_by : List Ignored → (is_opened : PayloadPlace → Bool)
    → (one other : DeepMeaning) → List SignedLine
deep_comparison_by words is_opened one other =
    comparison_by_lines one.meaning other.meaning (deep_lines_without words is_opened one)
    (deep_lines_without words is_opened other)

abbrev pub deep_comparison_without : List Ignored → (one other : DeepMeaning) → List SignedLine
deep_comparison_without words one other =
    deep_comparison_by words (is_opened words one.insides other.insides) one other

-- The lines that differ: none if the meanings are the same.
abbrev pub deep_differences_without : List Ignored → (one other : DeepMeaning) → (same : Bool)
    → List SignedLine
deep_differences_without words one other same =
    if same then [] else deep_comparison_without words one other

-- `same` is whether two meanings are the same with what is inside, without what is left out, and
-- the text is what differs. There are differences if and only if they are not the same.
pub record IsDeepDifference (options : IgnoringOptionsModel) (one other : DeepMeaning) (same : Bool)
    (text : List ℕ) : Type 0
  where
    pub is_same : IsTrue same ↔ AreSameDeep options.words one other
    pub lines : List SignedLine
    pub are_lines : lines ≡ deep_differences_without options.words one other same
    pub empty : (text_of_differences lines ≡ []) ↔ IsTrue same
    pub is_text : text ≡ text_without options same lines

-- The same of two meanings, which both can be described, even if nothing differs or is written.
pub record IsDeepComparisonWithout (options : IgnoringOptionsModel) (limits : Limits)
    (one other : Meaning) (same : Bool) (text : List ℕ) : Type 0
  where
    pub are : AreDescribedDeep limits one other
    pub differs : IsDeepDifference options (deep_of are.first) (deep_of are.second) same text

-- The text is what differs between two files without what is left out, and `same` is whether they
-- mean the same without it.
pub record AreComparedDeepWithout (options : IgnoringOptionsModel) (limits : Limits)
    (one other : List ℕ) (same : Bool) (text : List ℕ) : Type 0
  where
    pub are : AreMeanings limits one other
    pub differs : IsDeepComparisonWithout options limits are.meaning are.other_meaning same text

-- ---- errors

-- What keeps two meanings from being described with what is inside: the first one is too long, or
-- else the second one.
abbrev pub IsDeepDescribingError : Limits → (one other : Meaning) → CompareError → Type 0
IsDeepDescribingError limits one other (One fault) =
    IsTooLongToDescribeDeep Lines limits one × (fault ≡ too_large limits.file)
IsDeepDescribingError limits one other (Other fault) =
    IsDescribedDeep limits one × IsTooLongToDescribeDeep Lines limits other
    × (fault ≡ too_large limits.file)
IsDeepDescribingError limits one other OutOfMemory = ⊥

-- The error that describing two files with what is inside can have.
pub record IsErrorOfDeepDescribing (limits : Limits) (one other : List ℕ) (error : CompareError)
    : Type 0
  where
    pub are : AreMeanings limits one other
    pub is_error : IsDeepDescribingError limits are.meaning are.other_meaning error

-- The error that comparing two files with what is inside can have, if something is left out: one of
-- reading both, or else of describing both. It depends neither on what is left out nor on what is
-- written.
abbrev pub IsDeepIgnoringError : Limits → (one other : List ℕ) → CompareError → Type 0
IsDeepIgnoringError limits one other error =
    IsReadingError limits one other error ⊎ IsErrorOfDeepDescribing limits one other error

-- The error that describing two files with what is inside can have, which do not mean the same.
pub record IsErrorOfDeepDifference (limits : Limits) (one other : List ℕ) (error : CompareError)
    : Type 0
  where
    pub compared : AreCompared limits one other false
    pub is_error : IsDeepDescribingError limits compared.meaning compared.other_meaning error

-- The error that comparing two files with what is inside can have, if nothing is left out: one of
-- reading both, or else of describing both, which do not mean the same.
abbrev pub IsDeepComparisonError : Limits → (one other : List ℕ) → CompareError → Type 0
IsDeepComparisonError limits one other error =
    IsReadingError limits one other error ⊎ IsErrorOfDeepDifference limits one other error
