use Rattle.std.proofs.Common.{◌≡◌, ℕ, ◌-◌, Bool, true, false, cond, List, [], ◌∷◌, ◌++◌, drop, filter, length, not, rules}
use Rattle.std.proofs.Common.{flat_map, map}
use Rattle.std.proofs.Common.{Option, Some, None, refl, subst, sym}
use Rattle.std.specs.Prelude.{IfSome, IsAscii, option_and_then}
use Rattle.std.specs.FinMap.{get}
use Rattle.std.specs.List.{AllByRecursion}
use Rattle.std.specs.Option.{option_map}
use Rattle.bi_base.specs.Cells.{AreBytes}
use Rattle.bi_base.specs.Limits.{Limits}
use Rattle.bi_base.specs.Strings.{text_before_nul}
use Rattle.bi_base.proofs.ListMembers.{each-append, each-filter, each-map, each-map_back, each-weaker}
use Rattle.bi_blob.specs.Lookups.{Sibling, siblings}
use Rattle.bi_blob.specs.Tree.{Nodes, none, node, PropertyMap, AreNodes, names}
use Rattle.bi_fit.specs.declared.key.Key.{Key}
use Rattle.bi_fit.specs.File.{IsFitFile}
use Rattle.bi_fit.specs.ImageTree.{ImageTree, ArePropertiesByName, HaveByteNames, IsImageTree}
use Rattle.bi_fit.specs.Judgement.{Image, CheckedHash, ListResult, NoConfig, NoKey, BadList, Missing, ListedImages, checked_hash}
use Rattle.bi_fit.specs.Judgement.{configuration_nodes, default_of, hash_nodes, images_of, images_with, listed_of, verdicts_of}
use Rattle.bi_fit.specs.Names.{algo_name, value_name, all_keys, is_hash_name}
use Rattle.bi_fit.proofs.TextLaws.{file_means_image_tree}
use Rattle.bi_fit.proofs.TreeShapes.{AreNodes-children_of, bytes-children_of}
use Rattle.bi_hash.specs.declared.verdicts.Verdict.{Verdict}
use Rattle.bi_hash.specs.declared.verdicts.Verdict.TheVariants.{Good, Bad, UnknownAlgo, NoPayload, Malformed}
use Rattle.bi_norm.specs.Meaning.{Meaning, OfLegacy, OfFit, Means}
use Rattle.bi_common.specs.declared.format.Format.{Format}
use Rattle.bi_common.specs.declared.format.Format.TheVariants.{Lines, Json}
use Rattle.bi_common.specs.Json.{HasNumbers, HaveNumbers, json_values, string_or_null}
use Rattle.bi_common.specs.Lines.{Text, digits_or_dash, name_or_dash}
use Rattle.bi_common.specs.Shown.{shown_text}
use Rattle.bi_common.specs.VerdictCounts.{CountsModel}
use Rattle.bi_common.proofs.PrintedTexts.{json_lines_are_ascii}
use Rattle.bi_common.specs.Lines.{CanPrint}
use Rattle.bi_common.proofs.PrintedWords.{CanPrintLine, CanPrintLines, line_texts_are_ascii}
use Rattle.bi_report.specs.declared.check.Allowed.{Allowed}
use Rattle.bi_report.specs.CheckedFiles.{IsChecked, concerns_text}
use Rattle.bi_coverage.specs.Coverage.{SignatureConcern, NoNodes, NoImages, Uncovered, Foreign, Strings, SignatureCoverage}
use Rattle.bi_coverage.specs.Coverage.{ConfigurationCoverage}
use Rattle.bi_report.specs.Checking.{Concern, BadHash, SkippedHash, WeakHash, Unsigned, OfSignature, UnitAddress, TrailingBytes}
use Rattle.bi_report.specs.Checking.{AreConcerns, OfLegacyImage, OfImageTree, content_end, concern_line, concern_object, concerns_object}
use Rattle.bi_report.specs.Checking.{JudgedHash, judged_hash, judged_hashes, used_hashes, is_good, verdict_concerns, skip_concerns}
use Rattle.bi_report.specs.Checking.{absence_concerns, address_concerns, configuration_concerns, coverage_concerns, default_concerns}
use Rattle.bi_report.specs.Checking.{hash_concerns, image_concerns, kept_concerns, list_concerns, payload_concerns, signature_concerns}
use Rattle.bi_report.specs.Checking.{trailing_concerns, tree_concerns, unsigned_concerns}
use Rattle.bi_report.specs.Details.{name_json}
use Rattle.bi_report.specs.Reports.{counts_of, hash_line, legacy_report_lines, report_lines, report_object, summary_line, verdict_word}
use Rattle.bi_report.specs.VerifiedFiles.{IsReport, report_text}
use Rattle.bi_report.proofs.AsciiListings.{before_nul_bytes, configurations_are_nodes, default_bytes, key_word, node_names_bytes}
use Rattle.bi_report.proofs.ByteConcerns.{HasBytePath, IsByteCoverage, IsByteSignature, addresses_bytes, coverage_bytes}
use Rattle.bi_report.proofs.ShortValues.{HasSmallIndex, index_small}
use Rattle.bi_report.specs.SignedTrees.{coverage_in, is_any_signed, unit_addresses}

-- Reports and the lines of concerns can be printed, so they are ASCII: the names and values that they show are bytes. The numbers in the
-- concerns about a flattened image tree are below 2^64.

-- ---- hash nodes

-- What a hash node has is bytes.
abbrev pub IsByteHash : CheckedHash → Type 0
IsByteHash hash = AreBytes hash.image × AreBytes hash.node_name × IfSome hash.algo AreBytes × IfSome hash.value AreBytes

-- The text of a property.
text_property : (own : PropertyMap) (name : List ℕ) → ArePropertiesByName own →
    IfSome (option_and_then text_before_nul (get own name)) AreBytes
text_property own name are = by (get own name) refl
  where
    by : (o : Option (List ℕ)) → get own name ≡ o → IfSome (option_and_then text_before_nul o) AreBytes
    by None there = tt
    by (Some value) there = before_nul_bytes value (are name value there).value_bytes

value_property : (own : PropertyMap) (name : List ℕ) → ArePropertiesByName own → IfSome (get own name) AreBytes
value_property own name are = by (get own name) refl
  where
    by : (o : Option (List ℕ)) → get own name ≡ o → IfSome o AreBytes
    by None there = tt
    by (Some value) there = (are name value there).value_bytes

-- The hash nodes among these children.
abbrev hash_children : List (Sibling PropertyMap) → List (Sibling PropertyMap)
hash_children children = filter (λ child. is_hash_name child.name) children

-- The hash nodes of an image.
hashes_bytes : (image : Image) → AreBytes image.entry.name → (nodes : Nodes PropertyMap) → AreNodes ArePropertiesByName nodes →
    HaveByteNames nodes → AllByRecursion IsByteHash (map (checked_hash image) (hash_children (siblings nodes)))
hashes_bytes image named none are bytes = tt
hashes_bytes image named (node name own children later) are bytes =
    by (is_hash_name name) refl (hashes_bytes image named later are.2 bytes.2)
  where
    first : Sibling PropertyMap
    first = record { name = name; own = own; children = children; later = later }

    by : (b : Bool) → is_hash_name name ≡ b →
        AllByRecursion IsByteHash (map (checked_hash image) (hash_children (siblings later))) →
        AllByRecursion IsByteHash (map (checked_hash image) (hash_children (first ∷ siblings later)))
    by true is rest = rw is ((named, bytes.0, text_property own algo_name are.0.is_own, value_property own value_name are.0.is_own), rest)
    by false is rest = rw is rest

-- An image whose name is bytes, and whose hash nodes are.
abbrev pub IsByteImage : Image → Type 0
IsByteImage image = AreBytes image.entry.name × AllByRecursion IsByteHash (map (checked_hash image) (hash_nodes image))

images_bytes : (nodes : Nodes PropertyMap) (payloads : List (Option (List ℕ))) → AreNodes ArePropertiesByName nodes → HaveByteNames nodes →
    AllByRecursion IsByteImage (images_with (siblings nodes) payloads)
images_bytes none payloads are bytes = tt
images_bytes (node name own children later) [] are bytes = tt
images_bytes (node name own children later) (payload ∷ payloads) are bytes =
    let entry : Sibling PropertyMap = record { name = name; own = own; children = children; later = later } in (
      (bytes.0, hashes_bytes (record { entry = entry; payload = payload }) bytes.0 children are.1 bytes.1),
      images_bytes later payloads are.2
          bytes.2,
    )

-- The images of a tree.
pub tree_images : (tree : ImageTree) → IsImageTree tree → AllByRecursion IsByteImage (images_of tree)
tree_images tree is = search (rules, images_bytes, AreNodes-children_of, bytes-children_of)

pub all_hashes : (images : List Image) → AllByRecursion IsByteImage images →
    AllByRecursion IsByteHash (flat_map (λ (image : Image). map (checked_hash image) (hash_nodes image)) images)
all_hashes [] bytes = tt
all_hashes (image ∷ later) bytes = search (rules, each-append, all_hashes later bytes.1)

-- ---- details

-- A name that may not be there, the digits of a value and the word for a verdict can be printed.
name_can : (name : Option (List ℕ)) → IfSome name AreBytes → CanPrint (name_or_dash name)
name_can None bytes = refl
name_can (Some name) bytes = bytes

digits_can : (value : Option (List ℕ)) → IfSome value AreBytes → CanPrint (digits_or_dash value)
digits_can None bytes = refl
digits_can (Some value) bytes = search rules

verdict_can : (verdict : Verdict) → CanPrint (Text (verdict_word verdict))
verdict_can Good = refl
verdict_can Bad = refl
verdict_can UnknownAlgo = refl
verdict_can NoPayload = refl
verdict_can Malformed = refl

-- A string has no number.
pub string_has_no_number : (bytes : Option (List ℕ)) → HasNumbers (string_or_null bytes)
string_has_no_number None = tt
string_has_no_number (Some bytes) = tt

-- ---- reports

hash_can : (hash : CheckedHash) → IsByteHash hash → CanPrintLine (hash_line hash)
hash_can hash bytes = (bytes.0, (bytes.1, (name_can hash.algo bytes.2, (verdict_can hash.verdict, (digits_can hash.value bytes.3, tt)))))

summary_can : (counts : CountsModel) → CanPrintLine (summary_line counts)
summary_can counts = (refl, (refl, (tt, (refl, (tt, (refl, (tt, (refl, (tt, (refl, (tt, tt)))))))))))

report_can : (tree : ImageTree) → IsImageTree tree → CanPrintLines (report_lines (OfFit tree))
report_can tree is =
    let hashes = verdicts_of tree in
    each-append CanPrintLine (map hash_line hashes) (summary_line (counts_of hashes) ∷ [])
    (each-map CanPrintLine hash_line hashes
    (each-weaker IsByteHash (λ hash. CanPrintLine (hash_line hash)) hash_can hashes (all_hashes (images_of tree) (tree_images tree is))))
    (summary_can (counts_of hashes), tt)

-- A report is ASCII, in any form.
pub report_is_ascii : (format : Format) (limits : Limits) (file text : List ℕ) → IsReport format limits file text → IsAscii text
report_is_ascii format limits file text report = subst IsAscii (sym report.is) (by format report.meaning report.means)
  where
    by : (form : Format) (meaning : Meaning) → Means limits file meaning → IsAscii (report_text form meaning)
    by Lines (OfLegacy image) means =
        line_texts_are_ascii legacy_report_lines ((refl, (refl, (refl, tt))), ((refl, (refl, (refl, tt))), tt))
    by Lines (OfFit tree) means =
        line_texts_are_ascii (report_lines (OfFit tree)) (report_can tree (file_means_image_tree file tree means.is_file))
    by Json meaning means = json_lines_are_ascii (report_object meaning)

-- ---- concerns

-- The line of a concern can be printed, and the numbers in it are below 2^64.
pub record CanWrite (concern : Concern) : Type 0 where
  pub line : CanPrintLine (concern_line concern)
  pub numbers : HasNumbers (concern_object concern)

algorithms_can : (hashes : List CheckedHash) → AllByRecursion IsByteHash hashes →
    CanPrintLine (map name_or_dash (map (λ (hash : CheckedHash). hash.algo) hashes) ++ [])
algorithms_can [] bytes = tt
algorithms_can (hash ∷ later) bytes = (name_can hash.algo bytes.0.2, algorithms_can later bytes.1)

no_numbers : (hashes : List CheckedHash) → HaveNumbers (json_values (map name_json (map (λ (hash : CheckedHash). hash.algo) hashes)))
no_numbers [] = tt
no_numbers (hash ∷ later) = (string_has_no_number (option_map shown_text hash.algo), no_numbers later)

bad_hash_can : (hash : CheckedHash) → IsByteHash hash → CanWrite (BadHash hash)
bad_hash_can hash bytes = search (rules, name_can, verdict_can, string_has_no_number)

weak_hash_can : (image : List ℕ) (good : List CheckedHash) → AreBytes image → AllByRecursion IsByteHash good →
    CanWrite (WeakHash image good)
weak_hash_can image good named bytes = search (rules, algorithms_can, no_numbers)

pub trailing_can : (count : ℕ) → CanPrintLine (concern_line (TrailingBytes count))
trailing_can count = (refl, (tt, tt))

skipped_can : (image hash : List ℕ) → AreBytes image → AreBytes hash → CanWrite (SkippedHash image hash)
skipped_can image hash named bytes = record { line = (refl, (named, (bytes, tt))); numbers = (tt, (tt, (tt, tt))) }

-- The concerns about images.
if_not : (b : Bool) (concern : Concern) → CanWrite concern → AllByRecursion CanWrite (cond b [] (concern ∷ []))
if_not true concern can = tt
if_not false concern can = (can, tt)

if_so : (b : Bool) (concern : Concern) → CanWrite concern → AllByRecursion CanWrite (cond b (concern ∷ []) [])
if_so true concern can = (can, tt)
if_so false concern can = tt

-- What a hash node has is bytes, whether U-Boot skips it or not.
abbrev IsByteJudged : JudgedHash → Type 0
IsByteJudged hash = IsByteHash hash.checked

judged_bytes : (image : Image) → AllByRecursion IsByteHash (map (checked_hash image) (hash_nodes image)) →
    AllByRecursion IsByteJudged (judged_hashes image)
judged_bytes image bytes =
    each-map IsByteJudged (judged_hash image) (hash_nodes image) (each-map_back IsByteHash (checked_hash image) (hash_nodes image) bytes)

used_bytes : (hashes : List JudgedHash) → AllByRecursion IsByteJudged hashes → AllByRecursion IsByteHash (used_hashes hashes)
used_bytes hashes bytes =
    each-map IsByteHash (λ (hash : JudgedHash). hash.checked) _ (each-filter IsByteJudged (λ hash. not hash.is_skipped) hashes bytes)

hashes_can : (hashes : List JudgedHash) → AllByRecursion IsByteJudged hashes → AllByRecursion CanWrite (flat_map hash_concerns hashes)
hashes_can [] bytes = tt
hashes_can (hash ∷ later) bytes =
    let checked = hash.checked in
    each-append CanWrite (hash_concerns hash) (flat_map hash_concerns later)
    (each-append CanWrite (verdict_concerns checked) (skip_concerns hash)
    (if_not (is_good checked) (BadHash checked) (bad_hash_can checked bytes.0))
    (if_so hash.is_skipped (SkippedHash checked.image checked.node_name) (skipped_can checked.image checked.node_name bytes.0.0 bytes.0.1)))
    (hashes_can later bytes.1)

payload_can : (name : List ℕ) (payload : Option (List ℕ)) (hashes : List CheckedHash) → AreBytes name → AllByRecursion IsByteHash hashes →
    AllByRecursion CanWrite (payload_concerns name payload hashes)
payload_can name None hashes named bytes = tt
payload_can name (Some payload) hashes named bytes = search (rules, weak_hash_can, each-filter)

images_can : (images : List Image) → AllByRecursion IsByteImage images → AllByRecursion CanWrite (flat_map image_concerns images)
images_can [] bytes = tt
images_can (image ∷ later) bytes =
    let hashes = judged_hashes image in
    let are = judged_bytes image bytes.0.1 in
    each-append CanWrite (image_concerns image) (flat_map image_concerns later)
    (each-append CanWrite (flat_map hash_concerns hashes) (payload_concerns image.entry.name image.payload (used_hashes hashes))
    (hashes_can hashes are) (payload_can image.entry.name image.payload (used_hashes hashes) bytes.0.0 (used_bytes hashes are)))
    (images_can later bytes.1)

-- Those about configurations.
list_can : (configuration : List ℕ) (key : Key) (listed : ListResult) → AreBytes configuration → HasSmallIndex listed →
    AllByRecursion CanWrite (list_concerns configuration key listed)
list_can configuration key NoConfig bytes small = tt
list_can configuration key NoKey bytes small = tt
list_can configuration key BadList bytes small =
    (record { line = (refl, (bytes, (key_word key, tt))); numbers = (tt, (tt, (tt, tt))) }, tt)
list_can configuration key (Missing index) bytes small =
    (record { line = (refl, (bytes, (key_word key, (tt, tt)))); numbers = (tt, (tt, (tt, (small, tt)))) }, tt)
list_can configuration key (ListedImages images) bytes small = tt

-- Those about signatures and unit addresses.
unsigned_can : (configuration : Option (List ℕ)) → IfSome configuration AreBytes → CanWrite (Unsigned configuration)
unsigned_can configuration bytes = record {
  line = (refl, (name_can configuration bytes, tt));
  numbers = (tt, (string_has_no_number (option_map shown_text configuration), tt));
}

signature_can : (configuration signature : List ℕ) (concern : SignatureConcern) → AreBytes configuration → AreBytes signature →
    HasBytePath concern → CanWrite (OfSignature configuration signature concern)
signature_can configuration signature NoNodes named bytes has =
    record { line = (refl, (named, (bytes, tt))); numbers = (tt, (tt, (tt, tt))) }
signature_can configuration signature NoImages named bytes has =
    record { line = (refl, (named, (bytes, tt))); numbers = (tt, (tt, (tt, tt))) }
signature_can configuration signature (Uncovered path) named bytes has =
    record { line = (refl, (named, (bytes, (has, tt)))); numbers = (tt, (tt, (tt, (tt, tt)))) }
signature_can configuration signature (Foreign path) named bytes has =
    record { line = (refl, (named, (bytes, (has, tt)))); numbers = (tt, (tt, (tt, (tt, tt)))) }
signature_can configuration signature Strings named bytes has =
    record { line = (refl, (named, (bytes, tt))); numbers = (tt, (tt, (tt, tt))) }

signatures_can : (configuration : List ℕ) (signatures : List SignatureCoverage) → AreBytes configuration →
    AllByRecursion IsByteSignature signatures → AllByRecursion CanWrite (flat_map (signature_concerns configuration) signatures)
signatures_can configuration [] named bytes = tt
signatures_can configuration (signature ∷ later) named bytes =
    each-append CanWrite (signature_concerns configuration signature) (flat_map (signature_concerns configuration) later)
    (each-map CanWrite (OfSignature configuration signature.name) signature.concerns
    (each-weaker HasBytePath (λ concern. CanWrite (OfSignature configuration signature.name concern))
    (λ concern has. signature_can configuration signature.name concern named bytes.0.0 has) signature.concerns bytes.0.1))
    (signatures_can configuration later named bytes.1)

no_signature_can : (configuration : List ℕ) (signatures : List SignatureCoverage) → AreBytes configuration →
    AllByRecursion CanWrite (unsigned_concerns configuration signatures)
no_signature_can configuration [] named = (unsigned_can (Some configuration) named, tt)
no_signature_can configuration (first ∷ later) named = tt

coverage_can : (coverage : List ConfigurationCoverage) → AllByRecursion IsByteCoverage coverage →
    AllByRecursion CanWrite (flat_map coverage_concerns coverage)
coverage_can [] bytes = tt
coverage_can (configuration ∷ later) bytes =
    let name = configuration.name in
    let signatures = configuration.signatures in
    each-append CanWrite (coverage_concerns configuration) (flat_map coverage_concerns later)
    (each-append CanWrite (unsigned_concerns name signatures) (flat_map (signature_concerns name) signatures)
    (no_signature_can name signatures bytes.0.0) (signatures_can name signatures bytes.0.0 bytes.0.1))
    (coverage_can later bytes.1)

absence_can : (coverage : List ConfigurationCoverage) → AllByRecursion CanWrite (absence_concerns coverage)
absence_can [] = (unsigned_can None tt, tt)
absence_can (first ∷ later) = tt

address_can : (names : List (List ℕ)) → AllByRecursion AreBytes names → CanWrite (UnitAddress names)
address_can names bytes = record { line = (refl, (bytes, tt)); numbers = (tt, (tt, tt)) }

addresses_can : (coverage : List ConfigurationCoverage) (paths : List (List (List ℕ))) → AllByRecursion (AllByRecursion AreBytes) paths →
    AllByRecursion CanWrite (address_concerns coverage paths)
addresses_can coverage paths bytes = by (is_any_signed coverage)
  where
    by : (b : Bool) → AllByRecursion CanWrite (cond b (map UnitAddress paths) [])
    by true = each-map CanWrite UnitAddress paths
        (each-weaker (AllByRecursion AreBytes) (λ names. CanWrite (UnitAddress names)) address_can paths bytes)
    by false = tt

module _ (file : List ℕ) (tree : ImageTree) (is : IsFitFile file tree) where
  keys_can : (configuration : List ℕ) → AreBytes configuration → (keys : List Key) →
      AllByRecursion CanWrite (flat_map (λ (key : Key). list_concerns configuration key (listed_of tree configuration key)) keys)
  keys_can configuration bytes [] = tt
  keys_can configuration bytes (key ∷ later) = search (rules, each-append, list_can, index_small, keys_can configuration bytes later)

  configurations_can : (configurations : List (List ℕ)) → AllByRecursion AreBytes configurations →
      AllByRecursion CanWrite (flat_map (configuration_concerns tree) configurations)
  configurations_can [] bytes = tt
  configurations_can (configuration ∷ later) bytes =
      each-append CanWrite (configuration_concerns tree configuration) (flat_map (configuration_concerns tree) later)
      (keys_can configuration bytes.0 all_keys) (configurations_can later bytes.1)

  default_can : (default : Option (List ℕ)) (configurations : List (List ℕ)) → IfSome default AreBytes →
      AllByRecursion CanWrite (default_concerns default configurations)
  default_can default [] bytes = tt
  default_can default (first ∷ later) bytes = search (rules, if_not, name_can, string_has_no_number)

  -- The concerns about a tree.
  pub tree_can : AllByRecursion CanWrite (tree_concerns tree (coverage_in file is.root tree))
  tree_can =
      let means = file_means_image_tree file tree is in
      let coverage = coverage_in file is.root tree in
      let configurations = names (configuration_nodes tree) in
      let lists = flat_map (configuration_concerns tree) configurations in
      let absence = absence_concerns coverage in
      let signatures = flat_map coverage_concerns coverage in
      let addresses = address_concerns coverage (unit_addresses tree.root) in
      let default = default_concerns (default_of tree) configurations in
      each-append CanWrite (flat_map image_concerns (images_of tree)) (lists ++ (absence ++ (signatures ++ (addresses ++ default))))
      (images_can (images_of tree) (tree_images tree means))
      (each-append CanWrite lists (absence ++ (signatures ++ (addresses ++ default)))
      (configurations_can configurations (node_names_bytes (configuration_nodes tree) (configurations_are_nodes tree means).1))
      (each-append CanWrite absence (signatures ++ (addresses ++ default)) (absence_can coverage)
      (each-append CanWrite signatures (addresses ++ default) (coverage_can coverage (coverage_bytes file is.root tree means))
      (each-append CanWrite addresses default (addresses_can coverage (unit_addresses tree.root) (addresses_bytes tree means))
      (default_can (default_of tree) configurations (default_bytes tree means))))))

-- The lines of the concerns about a file can be printed.
trailing_lines : (bytes : List ℕ) → AllByRecursion (λ concern. CanPrintLine (concern_line concern)) (trailing_concerns bytes)
trailing_lines bytes = search (rules, trailing_can)

concern_lines_can : (limits : Limits) (file : List ℕ) (concerns : List Concern) → AreConcerns limits file concerns →
    AllByRecursion (λ concern. CanPrintLine (concern_line concern)) concerns
concern_lines_can limits file concerns (OfLegacyImage parsed is are) =
    subst (AllByRecursion (λ concern. CanPrintLine (concern_line concern))) (sym are)
    ((unsigned_can None tt).line, trailing_lines (drop (length file - parsed.unused) file))
concern_lines_can limits file concerns (OfImageTree tree means are) =
    let rest : List ℕ = drop (content_end file means.is_file.images tree.payloads) file in
    let concerns_of_tree : List Concern = tree_concerns tree (coverage_in file means.is_file.root tree) in
    let CanPrintConcern : Concern → Type 0 = λ concern. CanPrintLine (concern_line concern) in
    subst (AllByRecursion CanPrintConcern) (sym are)
    (each-append CanPrintConcern concerns_of_tree (trailing_concerns rest)
    (each-weaker CanWrite CanPrintConcern (λ concern can. can.line) concerns_of_tree (tree_can file tree means.is_file))
    (trailing_lines rest))

-- The text of the concerns about a file is ASCII, in any form.
pub checked_is_ascii : (format : Format) (allowed : Allowed) (limits : Limits) (file text : List ℕ) →
    IsChecked format allowed limits file text → IsAscii text
checked_is_ascii format allowed limits file text checked = subst IsAscii (sym checked.is_text) (by format)
  where
    kept : List Concern
    kept = kept_concerns allowed checked.concerns

    by : (form : Format) → IsAscii (concerns_text form allowed checked.concerns)
    by Lines =
        line_texts_are_ascii (map concern_line kept)
        (each-map CanPrintLine concern_line kept (each-filter (λ concern. CanPrintLine (concern_line concern)) _ checked.concerns
        (concern_lines_can limits file checked.concerns checked.are_concerns)))
    by Json = json_lines_are_ascii (concerns_object kept)
