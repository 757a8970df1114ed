use Rattle.std.proofs.Common.{ℕ, ◌^◌, ◌<◌, List, [], ◌∷◌, codes, length, map, flat_map, sym, subst, arith, rules}
use Rattle.std.proofs.Common.{Option, Some, None}
use Rattle.std.specs.List.{AllByRecursion, AllZip}
use Rattle.std.specs.Prelude.{option_map}
use Rattle.bi_base.specs.Limits.{Limits, IsInRange}
use Rattle.bi_base.proofs.ListMembers.{each-append}
use Rattle.bi_blob.specs.Tree.{Nodes, none, node, FileNode, names}
use Rattle.bi_fit.specs.declared.key.Key.{Key}
use Rattle.bi_fit.specs.File.{FitMeans, IsFitFile}
use Rattle.bi_fit.specs.ImageTree.{ImageTree, each_own}
use Rattle.bi_fit.specs.Judgement.{ListResult, NoConfig, NoKey, BadList, Missing, ListedImages, configuration_nodes, default_of, listed_of}
use Rattle.bi_fit.specs.Names.{all_keys}
use Rattle.bi_fit.specs.Payloads.{IsAtPlace, PayloadSource, payload_place, source_of}
use Rattle.bi_fit.proofs.FilePayloads.{payloads_are_at_places}
use Rattle.bi_fit.proofs.TextLaws.{file_means_image_tree}
use Rattle.bi_legacy.specs.PlacedParts.{PartModel, placed_parts}
use Rattle.bi_legacy.specs.Reading.{IsReadLegacy, LegacyModel}
use Rattle.bi_legacy.proofs.ImageOfFile.{image_of_file}
use Rattle.bi_common.specs.Json.{HasNumbers, HaveNumbers, json_number, json_string, json_values, string_or_null}
use Rattle.bi_common.specs.JsonGrammar.{IsJsonLine}
use Rattle.bi_common.specs.Shown.{shown_text}
use Rattle.bi_common.proofs.JsonSizes.{IsSmallPart, placed_parts_small}
use Rattle.bi_common.proofs.JsonTexts.{have_numbers, json_lines_are_json}
use Rattle.bi_common.proofs.PrintedWords.{header_numbers, reservation_numbers}
use Rattle.bi_report.specs.FitListing.{configuration_entry, configuration_object, fit_entries}
use Rattle.bi_report.specs.FitListing.{fit_listing_object, listed_image_entries, image_object}
use Rattle.bi_report.specs.FitListing.{key_objects, payload_entry, payload_object}
use Rattle.bi_report.specs.JsonLaws.{ListingsAreJson}
use Rattle.bi_report.specs.ListedFiles.{OfLegacyImage, OfImageTree}
use Rattle.bi_report.specs.Listing.{legacy_listing_object, part_object, parts_member}
use Rattle.bi_report.proofs.ShortValues.{HasSmallIndex, index_small}

-- Each listing in JSON is JSON: its numbers are below 2^64.

-- ---- legacy images

parts : (placed : List PartModel) → AllByRecursion IsSmallPart placed → HaveNumbers (json_values (map part_object placed))
parts [] are = tt
parts (part ∷ later) are = ((are.0.0, (are.0.1, tt)), parts later are.1)

legacy_numbers : (limits : Limits) (file : List ℕ) (parsed : LegacyModel) → IsInRange limits.file limits.depth →
    IsReadLegacy limits file parsed → HasNumbers (legacy_listing_object parsed)
legacy_numbers limits file parsed range is =
    let image = image_of_file file parsed.image is.means.is_file in
    header_numbers parsed.image image.ranges (parts_member parsed.image ∷ (codes "unused", json_number parsed.unused) ∷ [])
    (parts (placed_parts parsed.image) (placed_parts_small parsed.image image), (omega (arith, is.unused, is.means.short, range.1), tt))

-- ---- FITs

payload : (file : List ℕ) (payload_source : PayloadSource) (bytes : Option (List ℕ)) → length file < 2 ^ 32 →
    IsAtPlace file (payload_place file payload_source) bytes →
    HasNumbers (payload_object (option_map (payload_entry file payload_source) bytes))
payload file payload_source None small is = tt
payload file payload_source (Some bytes) small is = search rules

images : (file : List ℕ) (nodes : Nodes FileNode) (payloads : List (Option (List ℕ))) → length file < 2 ^ 32 →
    AllZip (λ own bytes. IsAtPlace file (payload_place file (source_of own)) bytes) (each_own nodes) payloads →
    HaveNumbers (json_values (map image_object (listed_image_entries file nodes payloads)))
images file none payloads small are = tt
images file (node name own children later) [] small are = tt
images file (node name own children later) (bytes ∷ payloads) small are =
    ((tt, (payload file (source_of own) bytes small are.0, tt)), images file later payloads small are.1)

strings : (names : List (List ℕ)) → HaveNumbers (json_values (map (λ name. json_string (shown_text name)) names))
strings [] = tt
strings (name ∷ later) = (tt, strings later)

key_numbers : (key : Key) (result : ListResult) → HasSmallIndex result → AllByRecursion HasNumbers (key_objects key result)
key_numbers key NoConfig small = tt
key_numbers key NoKey small = tt
key_numbers key BadList small = ((tt, (tt, tt)), tt)
key_numbers key (Missing index) small = ((tt, (small, tt)), tt)
key_numbers key (ListedImages listed) small = ((tt, (strings _, tt)), tt)

keys_numbers : (file : List ℕ) (tree : ImageTree) → IsFitFile file tree → (configuration : List ℕ) (keys : List Key) →
    AllByRecursion HasNumbers
    (flat_map (λ (key : Key × ListResult). key_objects key.0 key.1) (map (λ key. (key, listed_of tree configuration key)) keys))
keys_numbers file tree is configuration [] = tt
keys_numbers file tree is configuration (key ∷ later) =
    each-append HasNumbers (key_objects key (listed_of tree configuration key)) _
    (key_numbers key (listed_of tree configuration key) (index_small file tree is configuration key))
    (keys_numbers file tree is configuration later)

configurations : (file : List ℕ) (tree : ImageTree) → IsFitFile file tree → (all : List (List ℕ)) →
    HaveNumbers (json_values (map configuration_object (map (configuration_entry tree) all)))
configurations file tree is [] = tt
configurations file tree is (configuration ∷ later) =
    ((tt, (have_numbers _ (keys_numbers file tree is configuration all_keys), tt)), configurations file tree is later)

default_numbers : (name : Option (List ℕ)) → HasNumbers (string_or_null (option_map shown_text name))
default_numbers None = tt
default_numbers (Some name) = tt

fit_numbers : (limits : Limits) (file : List ℕ) (tree : ImageTree) → IsInRange limits.file limits.depth →
    (means : FitMeans limits file tree) → HasNumbers (fit_listing_object (fit_entries file means.is_file.images tree))
fit_numbers limits file tree range means =
    let is = means.is_file in
    let good = file_means_image_tree file tree is in
    let small : length file < 2 ^ 32 = omega (arith, means.within.short, range.1) in (
      tt,
      (
        omega (arith, good.cpu_fits),
        (
          omega (arith, small, is.blob.header.file_holds_total),
          (
            reservation_numbers tree.reservations,
            (
              images file is.images tree.payloads small (payloads_are_at_places file tree is),
              (configurations file tree is (names (configuration_nodes tree)), (default_numbers (default_of tree), tt)),
            ),
          ),
        ),
      ),
    )

pub listings_are_json : ListingsAreJson
listings_are_json limits file text range (OfLegacyImage parsed is same) =
    subst IsJsonLine (sym same) (json_lines_are_json (legacy_listing_object parsed) (legacy_numbers limits file parsed range is))
listings_are_json limits file text range (OfImageTree is) =
    subst IsJsonLine (sym is.is)
    (json_lines_are_json (fit_listing_object (fit_entries file is.means.is_file.images is.tree))
    (fit_numbers limits file is.tree range is.means))
