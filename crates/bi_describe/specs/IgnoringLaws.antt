use Rattle.std.specs.Prelude.{◌≡◌, ◌↔◌, ℕ, Contains, List, [], ◌++◌}
use Rattle.bi_base.specs.Limits.{Limits}
use Rattle.bi_norm.specs.Meaning.{Meaning, Means}
use Rattle.bi_common.specs.Lines.{Line}
use Rattle.bi_describe.specs.Comparing.{comparison}
use Rattle.bi_describe.specs.ComparingWithout.{comparison_without}
use Rattle.bi_describe.specs.Descriptions.{description_lines}
use Rattle.bi_describe.specs.Ignoring.{Ignored}
use Rattle.bi_describe.specs.ReducedMeanings.{AreSameWithout, meaning_without, reduced_lines}

-- Laws of comparing without what is left out (profile of this project). Each is the contract of a
-- function in `laws`.

-- Meanings that are the same without what some words leave out are the same without what more words
-- leave out.
abbrev pub MoreWordsKeepTheSame : Type 0
MoreWordsKeepTheSame =
    (words more : List Ignored) (one other : Meaning) → AreSameWithout words one other
    → AreSameWithout (words ++ more) one other

-- A line that stays is one of the description.
abbrev pub LinesThatStayAreDescribed : Type 0
LinesThatStayAreDescribed =
    (words : List Ignored) (meaning : Meaning) (line : Line)
    → Contains (reduced_lines (meaning_without words meaning)) line
    → Contains (description_lines meaning) line

-- Without words two meanings are compared as they are.
pub record AreComparedWhole (one other : Meaning) : Type 0 where
  pub is_same : AreSameWithout [] one other ↔ (one ≡ other)
  pub differences : comparison_without [] one other ≡ comparison one other

-- If nothing is left out, what two files mean is compared as `compare` does.
abbrev pub NothingLeftOutCompares : Type 0
NothingLeftOutCompares =
    (limits other_limits : Limits) (file other_file : List ℕ) (one other : Meaning)
    → Means limits file one → Means other_limits other_file other → AreComparedWhole one other
