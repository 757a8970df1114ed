use Rattle.std.specs.Prelude.{◌≡◌, ℕ, List, [], ◌∷◌, ◌++◌, Some, codes, flat_map, map}
use Rattle.std.specs.List.{AllByRecursion}
use Rattle.bi_fit.specs.Judgement.{CheckedHash, verdicts_of}
use Rattle.bi_hash.specs.declared.verdicts.Verdict.{Verdict}
use Rattle.bi_hash.specs.declared.verdicts.Verdict.TheVariants.{Good, Bad, UnknownAlgo, NoPayload}
use Rattle.bi_hash.specs.declared.verdicts.Verdict.TheVariants.{Malformed}
use Rattle.bi_norm.specs.Meaning.{Meaning, OfLegacy, OfFit}
use Rattle.bi_common.specs.HashedImages.{HashedImage}
use Rattle.bi_common.specs.Json.{Json, json_array, json_number, json_object, json_string}
use Rattle.bi_common.specs.Lines.{Line, Text, Decimal}
use Rattle.bi_common.specs.VerdictCounts.{CountsModel, count_of}
use Rattle.bi_report.specs.Details.{Detail, NameDetail, WordDetail, DigitsDetail, details_line}
use Rattle.bi_report.specs.Details.{details_object}

-- The report on the checksums and digests of a boot image (profile of this project): its lines, and
-- its JSON.

-- How many of these hash nodes have each verdict.
abbrev pub counts_of : List CheckedHash → CountsModel
counts_of hashes = record {
  good = count_of Good hashes;
  bad = count_of Bad hashes;
  unknown_algorithm = count_of UnknownAlgo hashes;
  no_payload = count_of NoPayload hashes;
  malformed = count_of Malformed hashes;
}

-- The hash nodes of what a file means, with their verdicts. A legacy image has none.
abbrev pub hashes_of : Meaning → List CheckedHash
hashes_of (OfLegacy image) = []
hashes_of (OfFit tree) = verdicts_of tree

-- The hash nodes of images, with their verdicts.
abbrev pub hashes_of_images : List HashedImage → List CheckedHash
hashes_of_images images = flat_map (λ image. image.hashes) images

-- The word for a verdict.
abbrev pub verdict_word : Verdict → List ℕ
verdict_word Good = codes "good"
verdict_word Bad = codes "bad"
verdict_word UnknownAlgo = codes "unknown-algorithm"
verdict_word NoPayload = codes "no-payload"
verdict_word Malformed = codes "malformed"

-- The details of a hash node. It has no algorithm if it has no `algo`, or no zero byte in it.
abbrev pub hash_details : CheckedHash → List Detail
hash_details hash =
    NameDetail (codes "image") (Some hash.image)
    ∷ NameDetail (codes "node") (Some hash.node_name)
    ∷ NameDetail (codes "algorithm") hash.algo
    ∷ WordDetail (codes "verdict") (verdict_word hash.verdict) ∷ []

-- Those that a report has: its value too.
abbrev pub report_details : CheckedHash → List Detail
report_details hash = hash_details hash ++ DigitsDetail (codes "value") hash.value ∷ []

-- ---- the lines

-- The line of a hash node.
abbrev pub hash_line : CheckedHash → Line
hash_line hash = details_line (report_details hash)

-- The line of a checksum of a legacy image, by its name: a wrong one is a refusal, so it is good.
abbrev pub checksum_line : (name : List ℕ) → Line
checksum_line name = Text name ∷ Text (codes "crc32") ∷ Text (verdict_word Good) ∷ []

-- The last line: how many hash nodes have each verdict.
abbrev pub summary_line : CountsModel → Line
summary_line counts =
    Text (codes "summary")
    ∷ Text (verdict_word Good) ∷ Decimal counts.good
    ∷ Text (verdict_word Bad) ∷ Decimal counts.bad
    ∷ Text (verdict_word UnknownAlgo) ∷ Decimal counts.unknown_algorithm
    ∷ Text (verdict_word NoPayload) ∷ Decimal counts.no_payload
    ∷ Text (verdict_word Malformed) ∷ Decimal counts.malformed ∷ []

-- The lines of the report on any legacy image: both checksums are good.
abbrev pub legacy_report_lines : List Line
legacy_report_lines = checksum_line (codes "header") ∷ checksum_line (codes "data") ∷ []

-- The lines of the report on these hash nodes, with this number of each verdict: one for each hash
-- node, and a last one.
abbrev pub hash_report_lines : List CheckedHash → CountsModel → List Line
hash_report_lines hashes counts = map hash_line hashes ++ summary_line counts ∷ []

-- The lines of the report on what a file means.
abbrev pub report_lines : Meaning → List Line
report_lines (OfLegacy image) = legacy_report_lines
report_lines (OfFit tree) = hash_report_lines (verdicts_of tree) (counts_of (verdicts_of tree))

-- ---- the JSON

-- A hash node.
abbrev pub hash_object : CheckedHash → Json
hash_object hash = details_object (report_details hash)

-- How many hash nodes have each verdict.
abbrev pub summary_object : CountsModel → Json
summary_object counts =
    json_object
    ((codes "good", json_number counts.good)
    ∷ (codes "bad", json_number counts.bad)
    ∷ (codes "unknown_algorithm", json_number counts.unknown_algorithm)
    ∷ (codes "no_payload", json_number counts.no_payload)
    ∷ (codes "malformed", json_number counts.malformed) ∷ [])

-- The report on any legacy image: both checksums are good.
abbrev pub legacy_report_object : Json
legacy_report_object =
    json_object
    ((codes "kind", json_string (codes "legacy"))
    ∷ (codes "header_crc32", json_string (verdict_word Good))
    ∷ (codes "data_crc32", json_string (verdict_word Good)) ∷ [])

-- The report on these hash nodes, with this number of each verdict.
abbrev pub hash_report_object : List CheckedHash → CountsModel → Json
hash_report_object hashes counts =
    json_object
    ((codes "kind", json_string (codes "fit"))
    ∷ (codes "hashes", json_array (map hash_object hashes))
    ∷ (codes "summary", summary_object counts) ∷ [])

-- The report on what a file means.
abbrev pub report_object : Meaning → Json
report_object (OfLegacy image) = legacy_report_object
report_object (OfFit tree) =
    hash_report_object (verdicts_of tree) (counts_of (verdicts_of tree))

-- ---- what they say

-- Each of these hash nodes has the verdict Good.
abbrev pub AreGood : List CheckedHash → Type 0
AreGood hashes = AllByRecursion (λ hash. hash.verdict ≡ Good) hashes
