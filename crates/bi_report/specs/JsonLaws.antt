use Rattle.std.specs.Prelude.{ℕ, List}
use Rattle.bi_base.specs.Limits.{Limits, IsInRange}
use Rattle.bi_common.specs.declared.format.Format.TheVariants.{Json}
use Rattle.bi_common.specs.JsonGrammar.{IsJsonLine}
use Rattle.bi_report.specs.declared.check.Allowed.{Allowed}
use Rattle.bi_report.specs.CheckedFiles.{IsChecked}
use Rattle.bi_report.specs.ListedFiles.{IsListing}
use Rattle.bi_report.specs.Scanning.{IsScanText}
use Rattle.bi_report.specs.VerifiedFiles.{IsReport}

-- Each listing, report and scan in JSON is one line of JSON, and so are the concerns, within limits
-- that a call may have. Each of these laws is the contract of a function in `laws`.

abbrev pub ListingsAreJson : Type 0
ListingsAreJson =
    (limits : Limits) (file text : List ℕ) → IsInRange limits.file limits.depth
    → IsListing Json limits file text → IsJsonLine text

abbrev pub ReportsAreJson : Type 0
ReportsAreJson =
    (limits : Limits) (file text : List ℕ) → IsInRange limits.file limits.depth
    → IsReport Json limits file text → IsJsonLine text

abbrev pub ConcernsAreJson : Type 0
ConcernsAreJson =
    (allowed : Allowed) (limits : Limits) (file text : List ℕ)
    → IsInRange limits.file limits.depth → IsChecked Json allowed limits file text
    → IsJsonLine text

abbrev pub ScansAreJson : Type 0
ScansAreJson =
    (limits : Limits) (input text : List ℕ) → IsInRange limits.file limits.depth
    → IsScanText Json limits input text → IsJsonLine text
