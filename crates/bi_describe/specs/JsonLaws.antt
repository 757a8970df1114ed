use Rattle.std.specs.Prelude.{ℕ, Bool, List}
use Rattle.bi_base.specs.Limits.{Limits, IsInRange}
use Rattle.bi_norm.specs.Meaning.{Meaning, Means}
use Rattle.bi_common.specs.declared.format.Format.TheVariants.{Json}
use Rattle.bi_common.specs.JsonGrammar.{IsJsonLine}
use Rattle.bi_describe.specs.Comparing.{IsComparison}
use Rattle.bi_describe.specs.DescriptionJson.{description_json}

-- Each description and each comparison in JSON is one line of JSON, within limits that a call may
-- have. Each of these laws is the contract of a function in `laws`.

abbrev pub DescriptionsAreJson : Type 0
DescriptionsAreJson =
    (limits : Limits) (file : List ℕ) (meaning : Meaning) → IsInRange limits.file limits.depth
    → Means limits file meaning → IsJsonLine (description_json meaning)

abbrev pub ComparisonsAreJson : Type 0
ComparisonsAreJson =
    (limits : Limits) (one other : List ℕ) (same : Bool) (text : List ℕ)
    → IsComparison Json limits one other same text → IsJsonLine text
