use Rattle.std.specs.Prelude.{◌≡◌, ◌↔◌, ◌⊎◌, Bool, IsTrue, ℕ, List, [], if◌then◌else◌}
use Rattle.bi_base.specs.Limits.{Limits}
use Rattle.bi_norm.specs.Comparing.{MeansOnly}
use Rattle.bi_norm.specs.Meaning.{Meaning}
use Rattle.bi_common.specs.declared.format.Format.{Format}
use Rattle.bi_common.specs.declared.format.Format.TheVariants.{Lines}
use Rattle.bi_describe.specs.declared.compare.CompareError.{CompareError}
use Rattle.bi_describe.specs.Comparing.{IsReadingError, IsDescribingError, comparison_by_lines}
use Rattle.bi_describe.specs.Comparing.{comparison_text}
use Rattle.bi_describe.specs.Describing.{CanBeDescribed}
use Rattle.bi_describe.specs.Differences.{SignedLine, text_of_differences}
use Rattle.bi_describe.specs.Ignoring.{Ignored}
use Rattle.bi_describe.specs.ReducedMeanings.{AreSameWithout, meaning_without, reduced_lines}

-- Comparing what two boot images mean once something is left out of both (profile of this project).

-- What is left out, whether no differences are written, and their form.
pub record IgnoringOptionsModel : Type 0 where
  pub words : List Ignored
  pub quiet : Bool
  pub format : Format

-- What differs between two meanings that are not the same. If they are of different kinds, that is
-- all, and nothing is left out; or else it is what differs between the lines that stay of both.
abbrev pub comparison_without : List Ignored → (one other : Meaning) → List SignedLine
comparison_without words one other =
    comparison_by_lines one other (reduced_lines (meaning_without words one))
    (reduced_lines (meaning_without words other))

-- The lines that differ: none if the meanings are the same.
abbrev pub lines_without : List Ignored → (one other : Meaning) → (same : Bool)
    → List SignedLine
lines_without words one other same = if same then [] else comparison_without words one other

-- The text that is written: none if it is not wanted.
abbrev pub text_without : IgnoringOptionsModel → (same : Bool) → List SignedLine → List ℕ
text_without options same lines =
    if options.quiet then [] else comparison_text options.format same lines

-- `same` is whether two meanings are the same without what is left out, and the text is what
-- differs. There are differences if and only if they are not the same.
pub record IsComparisonWithout (options : IgnoringOptionsModel) (one other : Meaning) (same : Bool)
    (text : List ℕ) : Type 0
  where
    pub is_same : IsTrue same ↔ AreSameWithout options.words one other
    pub lines : List SignedLine
    pub are_lines : lines ≡ lines_without options.words one other same
    pub empty : (text_of_differences lines ≡ []) ↔ IsTrue same
    pub is_text : text ≡ text_without options same lines

-- What two files mean, and that they mean nothing else.
pub record AreMeanings (limits : Limits) (one other : List ℕ) : Type 0 where
  pub meaning : Meaning
  pub other_meaning : Meaning
  pub means : MeansOnly limits one meaning
  pub other_means : MeansOnly limits other other_meaning

-- The text is what differs between two files without what is left out, and `same` is whether they
-- mean the same without it. Both can be described, even if nothing differs or is written.
pub record AreComparedWithout (options : IgnoringOptionsModel) (limits : Limits)
    (one other : List ℕ) (same : Bool) (text : List ℕ) : Type 0
  where
    pub are : AreMeanings limits one other
    pub described : CanBeDescribed Lines limits are.meaning
    pub other_described : CanBeDescribed Lines limits are.other_meaning
    pub differs : IsComparisonWithout options are.meaning are.other_meaning same text

-- The error that describing two files can have.
pub record IsErrorOfDescribing (limits : Limits) (one other : List ℕ) (error : CompareError)
    : Type 0
  where
    pub are : AreMeanings limits one other
    pub is_error : IsDescribingError limits are.meaning are.other_meaning error

-- The error that comparing two files without what is left out can have: one of reading both, or
-- else of describing both. It depends neither on what is left out nor on what is written.
abbrev pub IsIgnoringError : Limits → (one other : List ℕ) → CompareError → Type 0
IsIgnoringError limits one other error =
    IsReadingError limits one other error ⊎ IsErrorOfDescribing limits one other error
