use Rattle.std.specs.Prelude.{ℕ, ◌≡◌, ◌↔◌, ◌⊎◌, Bool, true, false, IsTrue, List, [], ◌∷◌, codes}
use Rattle.std.specs.Prelude.{bytes_eq, map, if◌then◌else◌}
use Rattle.bi_base.specs.declared.fault.Error.TheVariants.{Refused}
use Rattle.bi_base.specs.Limits.{Limits}
use Rattle.bi_base.specs.Reading.{too_large}
use Rattle.bi_norm.specs.Comparing.{AreCompared, IsErrorOfSecond}
use Rattle.bi_norm.specs.Meaning.{Meaning, OfLegacy, OfFit}
use Rattle.bi_norm.specs.Reading.{IsBootImageReadError, NeedsMemory}
use Rattle.bi_common.specs.declared.format.Format.{Format}
use Rattle.bi_common.specs.declared.format.Format.TheVariants.{Lines, Json}
use Rattle.bi_common.specs.Json.{json_line}
use Rattle.bi_common.specs.Lines.{Line, text_of_lines}
use Rattle.bi_describe.specs.declared.compare.CompareError.{CompareError}
use Rattle.bi_describe.specs.declared.compare.CompareError.TheVariants.{One, Other, OutOfMemory}
use Rattle.bi_describe.specs.declared.compare.signed_lines.Sign.TheVariants as sign
use Rattle.bi_describe.specs.ComparisonJson.{comparison_object}
use Rattle.bi_describe.specs.Descriptions.{description_lines}
use Rattle.bi_describe.specs.Describing.{CanBeDescribed, IsTooLongToDescribe}
use Rattle.bi_describe.specs.Differences.{ComparedLine, SignedLine, differences}
use Rattle.bi_describe.specs.Differences.{line_to_compare, text_of_differences}

-- Comparing what two boot images mean (profile of this project).

-- The line that is written if each line of one description is a line of the other, and the
-- descriptions differ.
abbrev pub other_order_line : SignedLine
other_order_line =
    record { sign = sign.None; text = codes "the same lines in another order or number" }

-- The line that is written if the descriptions are the same, and the meanings are not.
abbrev pub other_payloads_line : SignedLine
other_payloads_line =
    record { sign = sign.None; text = codes "payloads differ that have the same size and SHA-256" }

-- Why two meanings of these descriptions differ, if no line does.
abbrev pub reason : (text other_text : List ℕ) → SignedLine
reason text other_text =
    if bytes_eq text other_text then other_payloads_line else other_order_line

-- These lines, or another one if there are none.
abbrev pub lines_or : List SignedLine → SignedLine → List SignedLine
lines_or [] line = line ∷ []
lines_or (first ∷ later) line = first ∷ later

-- These lines, as they are compared.
abbrev pub lines_to_compare : List Line → List ComparedLine
lines_to_compare lines = map line_to_compare lines

-- The differences of two descriptions of these lines, or, if there are none, the line with the
-- reason why the meanings still differ.
abbrev pub differences_or_reason : (one other : List Line) → List SignedLine
differences_or_reason one other =
    lines_or (differences (lines_to_compare one) (lines_to_compare other))
    (reason (text_of_lines one) (text_of_lines other))

-- The lines for meanings of these different kinds.
abbrev pub kinds_differ : (kind other_kind : List ℕ) → List SignedLine
kinds_differ kind other_kind =
    record { sign = sign.Removed; text = kind } ∷ record { sign = sign.Added; text = other_kind }
    ∷ []

-- What differs between two meanings that are not the same, of which these lines are compared. If
-- they are of different kinds, that is all.
abbrev pub comparison_by_lines : (one other : Meaning) → (lines other_lines : List Line)
    → List SignedLine
comparison_by_lines (OfLegacy one) (OfFit other) lines other_lines =
    kinds_differ (codes "kind legacy") (codes "kind fit")
comparison_by_lines (OfFit one) (OfLegacy other) lines other_lines =
    kinds_differ (codes "kind fit") (codes "kind legacy")
comparison_by_lines one other lines other_lines = differences_or_reason lines other_lines

-- That is the lines of their descriptions.
abbrev pub comparison : (one other : Meaning) → List SignedLine
comparison one other =
    comparison_by_lines one other (description_lines one) (description_lines other)

-- The lines are what differs between two meanings: none if they are the same. If they are not, both
-- can be described.
pub data AreDifferences (limits : Limits) (one other : Meaning) (lines : List SignedLine)
    : (same : Bool) → Type 0
  where
    AreTheSame : lines ≡ [] → AreDifferences limits one other lines true
    AreDifferent : CanBeDescribed Lines limits one → CanBeDescribed Lines limits other
        → lines ≡ comparison one other → AreDifferences limits one other lines false

-- The text of a comparison, in a form. In JSON it says whether the meanings are the same, too.
abbrev pub comparison_text : Format → (same : Bool) → (differences : List SignedLine) → List ℕ
comparison_text Lines same differences = text_of_differences differences
comparison_text Json same differences = json_line (comparison_object same differences)

-- The text is what differs between two meanings, in a form. There are differences if and only if
-- the meanings are not the same.
pub record IsComparisonOf (format : Format) (limits : Limits) (one other : Meaning) (same : Bool)
    (text : List ℕ) : Type 0
  where
    pub lines : List SignedLine
    pub differences : AreDifferences limits one other lines same
    pub empty : (text_of_differences lines ≡ []) ↔ IsTrue same
    pub is_text : text ≡ comparison_text format same lines

-- The text is what differs between two files, in a form, and `same` is whether they mean the same.
pub record IsComparison (format : Format) (limits : Limits) (one other : List ℕ) (same : Bool)
    (text : List ℕ) : Type 0
  where
    pub compared : AreCompared limits one other same
    pub differs :
        IsComparisonOf format limits compared.meaning compared.other_meaning same text

-- The error that reading two files can have: the fault of the first one, or else of the second one,
-- or that memory ran out. The error names the file.
abbrev pub IsReadingError : Limits → (one other : List ℕ) → CompareError → Type 0
IsReadingError limits one other (One fault) = IsBootImageReadError limits one (Refused fault)
IsReadingError limits one other (Other fault) = IsErrorOfSecond limits one other (Refused fault)
IsReadingError limits one other OutOfMemory = NeedsMemory limits one

-- What keeps the differences of two meanings from being written: the first one is too long to
-- describe, or else the second one.
abbrev pub IsDescribingError : Limits → (one other : Meaning) → CompareError → Type 0
IsDescribingError limits one other (One fault) =
    IsTooLongToDescribe Lines limits one × (fault ≡ too_large limits.file)
IsDescribingError limits one other (Other fault) =
    CanBeDescribed Lines limits one × IsTooLongToDescribe Lines limits other
    × (fault ≡ too_large limits.file)
IsDescribingError limits one other OutOfMemory = ⊥

-- The error that describing two files can have, which do not mean the same.
pub record IsErrorOfDescribingBoth (limits : Limits) (one other : List ℕ) (error : CompareError)
    : Type 0
  where
    pub compared : AreCompared limits one other false
    pub is_error : IsDescribingError limits compared.meaning compared.other_meaning error

-- The error that comparing two files can have.
abbrev pub IsComparisonError : Limits → (one other : List ℕ) → CompareError → Type 0
IsComparisonError limits one other error =
    IsReadingError limits one other error ⊎ IsErrorOfDescribingBoth limits one other error
