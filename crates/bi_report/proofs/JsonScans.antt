use Rattle.std.proofs.Common.{◌≡◌, ℕ, ◌≤◌, ◌<◌, ◌^◌, List, [], ◌∷◌, length, map, ap, sym, subst, arith, rules}
use Rattle.std.specs.List.{AllByRecursion, AllZip}
use Rattle.std.proofs.lemmas.List.{length-drop, map-append}
use Rattle.std.proofs.lemmas.Slice.Zip.{AllZip-long}
use Rattle.bi_base.specs.Limits.{Limits}
use Rattle.bi_base.proofs.ListMembers.{each-append}
use Rattle.bi_blob.specs.Tree.{FileNode, Nodes, none, node, node_count}
use Rattle.bi_blob.proofs.Blobs.NodeCounts.{fewer_nodes_than_bytes}
use Rattle.bi_fit.specs.File.{IsFitFile}
use Rattle.bi_fit.specs.ImageTree.{ImageTree, children_of, each_own, nodes_or_none}
use Rattle.bi_fit.specs.Names.{images_name}
use Rattle.bi_fit.specs.Payloads.{HasPayload}
use Rattle.bi_norm.specs.Meaning.{OfLegacy, OfFit}
use Rattle.bi_common.specs.Json.{HasNumbers}
use Rattle.bi_common.specs.JsonGrammar.{IsJsonLine}
use Rattle.bi_common.specs.Offsets.{input_from}
use Rattle.bi_common.proofs.JsonTexts.{have_numbers, json_lines_are_json}
use Rattle.bi_report.specs.JsonLaws.{ScansAreJson}
use Rattle.bi_report.specs.Scanning.{IsFoundAt, ScannedImage, WithImage, WithoutImage, all_found, input_offsets, scan_object}
use Rattle.bi_report.specs.Scanning.{scanned_object}
use Rattle.bi_report.proofs.CutImages.{scanned_images_are_whole}

-- A scan in JSON is JSON: its numbers are below 2^64.

-- A file has fewer image nodes than bytes.
owns_few : (nodes : Nodes FileNode) → length (each_own nodes) ≤ node_count nodes
owns_few none = omega arith
owns_few (node name own children later) = omega (arith, owns_few later)

found_few : (nodes : Nodes FileNode) → length (each_own (nodes_or_none (children_of images_name nodes))) ≤ node_count nodes
found_few none = omega arith
found_few (node name own children later) = search (rules, owns_few, found_few later)

payloads_few : (file : List ℕ) (tree : ImageTree) → IsFitFile file tree → length tree.payloads < length file
payloads_few file tree is =
    let few = found_few is.root.children in
    let same : length (each_own (nodes_or_none (children_of images_name is.root.children))) ≡ length (each_own is.images) =
    ap (λ nodes. length (each_own (nodes_or_none nodes))) is.has_images in
    let long = AllZip-long (HasPayload file) (each_own is.images) tree.payloads is.payloads in
    let all = fewer_nodes_than_bytes file tree.cpu tree.reservations is.root is.blob in
    omega (arith, few, same, long, all)

-- What is found at an offset has small numbers,
abbrev AreSmall : List ScannedImage → Type 0
AreSmall images = AllByRecursion HasNumbers (map scanned_object images)

found_numbers : (limits : Limits) (input : List ℕ) (offset : ℕ) (found : List ScannedImage) → length input < 2 ^ 32 →
    IsFoundAt limits input offset found → AreSmall found
found_numbers limits input offset found small (WithImage extent (OfLegacy image) is same) =
    let whole = scanned_images_are_whole limits input offset extent (OfLegacy image) is in
    subst AreSmall (sym same) ((omega (arith, whole.in_input), (tt, (omega (arith, whole.in_input), (tt, tt)))), tt)
found_numbers limits input offset found small (WithImage extent (OfFit tree) is same) =
    let whole = scanned_images_are_whole limits input offset extent (OfFit tree) is in
    let few = payloads_few (input_from offset input) tree is.means.is_file in
    let rest = length-drop offset input in
    subst AreSmall (sym same)
    ((omega (arith, whole.in_input), (tt, (omega (arith, whole.in_input), (omega (arith, few, rest), tt)))), tt)
found_numbers limits input offset found small (WithoutImage nothing same) = subst AreSmall (sym same) tt

-- and so has what is found at all of them.
all_numbers : (limits : Limits) (input offsets : List ℕ) (found : List (List ScannedImage)) → length input < 2 ^ 32 →
    AllZip (IsFoundAt limits input) offsets found → AreSmall (all_found found)
all_numbers limits input [] [] small are = tt
all_numbers limits input [] (first ∷ later) small are = absurd are
all_numbers limits input (offset ∷ offsets) [] small are = absurd are
all_numbers limits input (offset ∷ offsets) (first ∷ later) small are =
    subst (AllByRecursion HasNumbers) (sym (map-append scanned_object first (all_found later)))
    (each-append HasNumbers (map scanned_object first) (map scanned_object (all_found later))
    (found_numbers limits input offset first small are.0) (all_numbers limits input offsets later small are.1))

pub scans_are_json : ScansAreJson
scans_are_json limits input text range is =
    let small : length input < 2 ^ 32 = omega (arith, is.can.short, range.1) in
    subst IsJsonLine (sym is.has.is_text)
    (json_lines_are_json (scan_object (all_found is.has.found))
    (have_numbers _ (all_numbers limits input (input_offsets input) is.has.found small is.has.are_found), tt))
