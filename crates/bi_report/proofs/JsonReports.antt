use Rattle.std.proofs.Common.{ℕ, ◌-◌, ◌^◌, ◌<◌, List, [], ◌∷◌, length, map, drop, sym, subst, arith, rules}
use Rattle.std.specs.List.{AllByRecursion}
use Rattle.std.proofs.lemmas.List.{length-drop}
use Rattle.bi_base.specs.Limits.{Limits, IsInRange}
use Rattle.bi_base.proofs.ListMembers.{each-append, each-filter, each-map, each-weaker}
use Rattle.bi_fit.specs.Judgement.{CheckedHash, verdicts_of}
use Rattle.bi_norm.specs.Meaning.{Meaning, OfLegacy, OfFit, Means}
use Rattle.bi_common.specs.Json.{HasNumbers, HaveNumbers, json_values}
use Rattle.bi_common.specs.JsonGrammar.{IsJsonLine}
use Rattle.bi_common.proofs.JsonTexts.{have_numbers, json_lines_are_json}
use Rattle.bi_report.specs.Checking.{Concern, AreConcerns, OfLegacyImage, OfImageTree, concern_object, concerns_object}
use Rattle.bi_report.specs.Checking.{content_end, kept_concerns, tree_concerns, trailing_concerns}
use Rattle.bi_report.specs.JsonLaws.{ConcernsAreJson, ReportsAreJson}
use Rattle.bi_report.specs.Reports.{counts_of, hash_object, report_object, summary_object}
use Rattle.bi_report.proofs.AsciiReports.{CanWrite, string_has_no_number, tree_can}
use Rattle.bi_report.specs.SignedTrees.{coverage_in}
use Rattle.bi_report.proofs.HashCounts.{counts_few, hashes_few}

-- Reports and concerns in JSON are JSON: their numbers are below 2^64.

-- ---- reports

hash_numbers : (hashes : List CheckedHash) → HaveNumbers (json_values (map hash_object hashes))
hash_numbers [] = tt
hash_numbers (hash ∷ later) = search (rules, string_has_no_number, hash_numbers later)

summary_numbers : (hashes : List CheckedHash) → length hashes < 2 ^ 64 → HasNumbers (summary_object (counts_of hashes))
summary_numbers hashes few = search (rules, counts_few)

report_numbers : (limits : Limits) (file : List ℕ) (meaning : Meaning) → IsInRange limits.file limits.depth → Means limits file meaning →
    HasNumbers (report_object meaning)
report_numbers limits file (OfLegacy image) range means = (tt, (tt, (tt, tt)))
report_numbers limits file (OfFit tree) range means =
    let hashes = verdicts_of tree in
    let few : length hashes < 2 ^ 64 = omega (arith, hashes_few file tree means.is_file, means.within.short, range.1) in
    (tt, (hash_numbers hashes, (summary_numbers hashes few, tt)))

pub reports_are_json : ReportsAreJson
reports_are_json limits file text range report = search (rules, json_lines_are_json, report_numbers)

-- ---- concerns

abbrev ConcernHasNumbers : Concern → Type 0
ConcernHasNumbers concern = HasNumbers (concern_object concern)

trailing_numbers : (file : List ℕ) (at : ℕ) → length file < 2 ^ 64 → AllByRecursion ConcernHasNumbers (trailing_concerns (drop at file))
trailing_numbers file at small = search (rules, length-drop)

numbers : (limits : Limits) (file : List ℕ) (concerns : List Concern) → IsInRange limits.file limits.depth →
    AreConcerns limits file concerns → AllByRecursion ConcernHasNumbers concerns
numbers limits file concerns range (OfLegacyImage parsed is are) =
    subst (AllByRecursion ConcernHasNumbers) (sym are)
    ((tt, (tt, tt)), trailing_numbers file (length file - parsed.unused) (omega (arith, is.means.short, range.1)))
numbers limits file concerns range (OfImageTree tree means are) =
    let end : ℕ = content_end file means.is_file.images tree.payloads in
    let concerns_of_tree : List Concern = tree_concerns tree (coverage_in file means.is_file.root tree) in
    subst (AllByRecursion ConcernHasNumbers) (sym are)
    (each-append ConcernHasNumbers concerns_of_tree (trailing_concerns (drop end file))
    (each-weaker CanWrite ConcernHasNumbers (λ concern can. can.numbers) concerns_of_tree (tree_can file tree means.is_file))
    (trailing_numbers file end (omega (arith, means.within.short, range.1))))

pub concerns_are_json : ConcernsAreJson
concerns_are_json allowed limits file text range checked =
    let kept : List Concern = kept_concerns allowed checked.concerns in
    subst IsJsonLine (sym checked.is_text)
    (json_lines_are_json (concerns_object kept) (
      have_numbers (map concern_object kept) (each-map HasNumbers concern_object kept
          (each-filter ConcernHasNumbers _ checked.concerns (numbers limits file checked.concerns range checked.are_concerns))),
      tt,
    ))
