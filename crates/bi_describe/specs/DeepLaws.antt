use Rattle.std.specs.Prelude.{◌≡◌, ◌↔◌, ◌&&◌, ◌||◌, Bool, false, not, ℕ, List, [], ◌∷◌, ◌++◌}
use Rattle.std.specs.Prelude.{bytes_eq, codes, filter}
use Rattle.bi_base.specs.Limits.{Limits, IsInRange}
use Rattle.bi_norm.specs.Meaning.{Meaning, Means}
use Rattle.bi_common.specs.JsonGrammar.{IsJsonLine}
use Rattle.bi_common.specs.Lines.{Line, Text, field_text}
use Rattle.bi_describe.specs.DeepComparing.{deep_comparison, deep_comparison_without}
use Rattle.bi_describe.specs.DeepDescriptions.{deep_lines}
use Rattle.bi_describe.specs.DeepJson.{deep_json, deep_object}
use Rattle.bi_describe.specs.DescriptionJson.{meaning_object}
use Rattle.bi_describe.specs.Descriptions.{description_lines}
use Rattle.bi_describe.specs.Devicetrees.{AreInside, DeepMeaning, Insides, MeansWithInside}
use Rattle.bi_describe.specs.Devicetrees.{nothing_inside}
use Rattle.bi_describe.specs.Ignoring.{Ignored, PayloadPlace}
use Rattle.bi_describe.specs.OpenedPayloads.{AreSameDeep}
use Rattle.bi_describe.specs.WordParts.{has_two_slashes}

-- Laws of deep descriptions and of comparing with what is inside (profile of this project). Each is
-- the contract of a function in `laws`.

-- One thing is inside each payload.
abbrev pub OneIsInside : Type 0
OneIsInside =
    (limits : Limits) (meaning : Meaning) (insides other : Insides)
    → AreInside limits meaning insides → AreInside limits meaning other
    → (place : PayloadPlace) → insides place ≡ other place

-- The line is about what is inside a payload: its first word is `inside`, or it is the line of a
-- node or of a property, and the path in it has two slashes one after the other.
abbrev pub is_line_inside : Line → Bool
is_line_inside (Text word ∷ second ∷ later) =
    bytes_eq word (codes "inside")
    || ((bytes_eq word (codes "node") || bytes_eq word (codes "property"))
    && has_two_slashes (field_text second))
is_line_inside line = false

-- Without the lines about what is inside, a deep description is the description.
abbrev pub WithoutInsideIsDescription : Type 0
WithoutInsideIsDescription =
    (limits : Limits) (file : List ℕ) (deep : DeepMeaning) → MeansWithInside limits file deep
    → filter (λ line. not (is_line_inside line)) (deep_lines deep)
    ≡ description_lines deep.meaning

-- A meaning, with nothing inside.
abbrev pub with_nothing_inside : Meaning → DeepMeaning
with_nothing_inside meaning = record { meaning = meaning; insides = nothing_inside }

-- With nothing inside, the deep description is the description, in both forms.
pub record IsPlainlyDescribed (meaning : Meaning) : Type 0 where
  pub lines : deep_lines (with_nothing_inside meaning) ≡ description_lines meaning
  pub json : deep_object (with_nothing_inside meaning) ≡ meaning_object meaning

abbrev pub NothingInsideIsDescription : Type 0
NothingInsideIsDescription = (meaning : Meaning) → IsPlainlyDescribed meaning

-- Files that are the same without what some words leave out are the same without what more words
-- leave out.
abbrev pub MoreWordsKeepTheSameDeep : Type 0
MoreWordsKeepTheSameDeep =
    (limits : Limits) (file other_file : List ℕ) (words more : List Ignored)
    (one other : DeepMeaning) → MeansWithInside limits file one
    → MeansWithInside limits other_file other → AreSameDeep words one other
    → AreSameDeep (words ++ more) one other

-- Without words two meanings are compared as they are.
pub record AreComparedDeepWhole (one other : DeepMeaning) : Type 0 where
  pub is_same : AreSameDeep [] one other ↔ (one.meaning ≡ other.meaning)
  pub differences : deep_comparison_without [] one other ≡ deep_comparison one other

abbrev pub NothingLeftOutComparesDeep : Type 0
NothingLeftOutComparesDeep =
    (limits other_limits : Limits) (file other_file : List ℕ) (one other : DeepMeaning)
    → MeansWithInside limits file one → MeansWithInside other_limits other_file other
    → AreComparedDeepWhole one other

-- Each deep description in JSON is one line of JSON.
abbrev pub DeepDescriptionsAreJson : Type 0
DeepDescriptionsAreJson =
    (limits : Limits) (file : List ℕ) (deep : DeepMeaning) → IsInRange limits.file limits.depth
    → MeansWithInside limits file deep → IsJsonLine (deep_json deep)
