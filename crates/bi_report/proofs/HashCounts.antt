use Rattle.std.proofs.Common.{◌≡◌, ℕ, ◌+◌, ◌≤◌, ◌<◌, Bool, List, [], ◌∷◌, length, map, flat_map, filter, rules}
use Rattle.std.proofs.Common.{refl, ap, ap₂, ◌∙◌, arith, length-append, Option}
use Rattle.std.proofs.lemmas.List.{length-map}
use Rattle.std.specs.FinMap.{from_entries}
use Rattle.bi_blob.specs.Lookups.{Sibling, siblings}
use Rattle.bi_blob.specs.Tree.{Nodes, none, node, Root, PropertyMap, node_count, properties_of, with_each}
use Rattle.bi_blob.proofs.Blobs.NodeCounts.{fewer_nodes_than_bytes, siblings_and_children}
use Rattle.bi_fit.specs.File.{IsFitFile}
use Rattle.bi_fit.specs.ImageTree.{ImageTree, children_of, nodes_or_none, with_children_of, without_payloads}
use Rattle.bi_fit.specs.Judgement.{CheckedHash, Image, checked_hash, hash_nodes, images_with, verdicts_of}
use Rattle.bi_fit.specs.Names.{images_name, is_hash_name}
use Rattle.bi_hash.specs.declared.verdicts.Verdict.{Verdict}
use Rattle.bi_common.specs.VerdictCounts.{count_of, is_verdict}

-- The image nodes of a file have fewer hash nodes than the file has bytes.

-- A filtered list is not longer than the list.
no_longer : {X : Type 0} (test : X → Bool) (xs : List X) → length (filter test xs) ≤ length xs
no_longer test [] = omega arith
no_longer test (x ∷ xs) = search (rules, no_longer test xs)

-- These are the hash nodes of images.
abbrev hashes_in : List Image → List CheckedHash
hashes_in images = flat_map (λ image. map (checked_hash image) (hash_nodes image)) images

image_hashes_few : (nodes : Nodes PropertyMap) (payloads : List (Option (List ℕ))) →
    length (hashes_in (images_with (siblings nodes) payloads)) ≤ node_count nodes
image_hashes_few none payloads = omega arith
image_hashes_few (node name own children later) [] = omega arith
image_hashes_few (node name own children later) (payload ∷ payloads) =
    let entry : Sibling PropertyMap = record { name = name; own = own; children = children; later = later } in
    let image : Image = record { entry = entry; payload = payload } in
    let first : length (map (checked_hash image) (hash_nodes image)) ≡ length (hash_nodes image) =
    length-map (hash_nodes image) (checked_hash image) in
    let kept : length (hash_nodes image) ≤ length (siblings children) = no_longer (λ child. is_hash_name child.name) (siblings children) in
    let below = siblings_and_children children in
    let rest = image_hashes_few later payloads in
    let all = length-append (map (checked_hash image) (hash_nodes image)) (hashes_in (images_with (siblings later) payloads)) in
    omega (arith, first, kept, below, rest, all)

found_hashes_few : (nodes : Nodes PropertyMap) (payloads : List (Option (List ℕ))) →
    length (hashes_in (images_with (siblings (nodes_or_none (children_of images_name nodes))) payloads)) ≤ node_count nodes
found_hashes_few none payloads = omega arith
found_hashes_few (node name own children later) payloads = search (rules, image_hashes_few, found_hashes_few later payloads)

-- A change of what nodes have themselves does not change the number of nodes.
count-with_each : {A B : Type 0} (change : A → B) (nodes : Nodes A) → node_count (with_each change nodes) ≡ node_count nodes
count-with_each change none = refl
count-with_each change (node name own children later) =
    ap₂ (λ (m n : ℕ). m + n + 1) (count-with_each change children) (count-with_each change later)

count-without : (nodes : Nodes PropertyMap) → node_count (without_payloads nodes) ≡ node_count nodes
count-without none = refl
count-without (node name own children later) = ap (λ (n : ℕ). node_count children + n + 1) (count-without later)

count-images_without : (nodes : Nodes PropertyMap) → node_count (with_children_of images_name without_payloads nodes) ≡ node_count nodes
count-images_without none = refl
count-images_without (node name own children later) = search (rules, count-without, count-images_without later)

pub hashes_few : (file : List ℕ) (tree : ImageTree) → IsFitFile file tree → length (verdicts_of tree) < length file
hashes_few file tree is =
    let few = found_hashes_few tree.root.children tree.payloads in
    let plain : Nodes PropertyMap = with_each from_entries (with_each properties_of is.root.children) in
    let same : node_count tree.root.children ≡ node_count is.root.children =
    ap (λ (root : Root PropertyMap). node_count root.children) is.is_root
    ∙ count-images_without plain ∙ count-with_each from_entries (with_each properties_of is.root.children)
    ∙ count-with_each properties_of is.root.children in
    let all = fewer_nodes_than_bytes file tree.cpu tree.reservations is.root is.blob in
    omega (arith, few, same, all)

-- Not more hash nodes have a verdict than there are hash nodes.
pub counts_few : (wanted : Verdict) (hashes : List CheckedHash) → count_of wanted hashes ≤ length hashes
counts_few wanted hashes = no_longer (λ hash. is_verdict wanted hash.verdict) hashes
