use Rattle.std.specs.Prelude.{ℕ, ◌⊎◌, ◌<◌, ◌==◌, Bool, true, false, List, [], ◌∷◌, ◌++◌, map}
use Rattle.std.specs.Prelude.{if◌then◌else◌}
use Rattle.std.specs.FinMap.{get}
use Rattle.std.specs.List.{list_any}
use Rattle.bi_base.specs.Limits.{Limits}
use Rattle.bi_blob.specs.Lookups.{Sibling, siblings}
use Rattle.bi_blob.specs.Tree.{Nodes, none, node, PropertyMap, FileNode, Root}
use Rattle.bi_fit.specs.ImageTree.{ImageTree}
use Rattle.bi_fit.specs.Judgement.{configuration_nodes}
use Rattle.bi_norm.specs.Meaning.{Meaning, OfLegacy, OfFit}
use Rattle.bi_common.specs.PayloadBounds.{IsOverPayloadBound}
use Rattle.bi_coverage.specs.Coverage.{SignatureCoverage, ConfigurationCoverage, path_concerns}
use Rattle.bi_coverage.specs.Coverage.{concerns_of_strings, hashed_strings_name}
use Rattle.bi_coverage.specs.Signatures.{signed_nodes, recorded_paths, all_needed_length}

-- The signatures of the configurations of a flattened image tree, and the unit addresses in it
-- (profile of this project).

-- ---- what signatures cover

-- What is known of a signature node of a configuration of a tree, in a file whose blob has this
-- root. The concern about strings alone depends on the file.
abbrev pub signature_coverage_in : (file : List ℕ) → Root FileNode → ImageTree
    → (configuration signature : Sibling PropertyMap) → SignatureCoverage
signature_coverage_in file root tree configuration signature = record {
  name = signature.name;
  concerns = path_concerns tree configuration signature
      ++ concerns_of_strings file root (get signature.own hashed_strings_name)
      (recorded_paths signature);
}

-- What the signed nodes of a configuration cover.
abbrev pub configuration_coverage_in : (file : List ℕ) → Root FileNode → ImageTree
    → Sibling PropertyMap → ConfigurationCoverage
configuration_coverage_in file root tree configuration = record {
  name = configuration.name;
  signatures = map (signature_coverage_in file root tree configuration)
      (signed_nodes configuration);
}

-- What those of each configuration cover, in order.
abbrev pub coverage_in : (file : List ℕ) → Root FileNode → ImageTree → List ConfigurationCoverage
coverage_in file root tree =
    map (configuration_coverage_in file root tree) (siblings (configuration_nodes tree))

-- Whether there are signed nodes among these.
abbrev pub has_signatures : List SignatureCoverage → Bool
has_signatures [] = false
has_signatures (first ∷ later) = true

-- Whether one of these configurations has a signed node.
abbrev pub is_any_signed : List ConfigurationCoverage → Bool
is_any_signed coverage =
    list_any (λ configuration. has_signatures configuration.signatures) coverage

-- The needed paths of the signed nodes of a meaning, for each of them those of its configuration,
-- are longer together than the limit on files. A legacy image has none.
abbrev pub IsOverPathBound : Limits → Meaning → Type 0
IsOverPathBound limits (OfLegacy image) = ⊥
IsOverPathBound limits (OfFit tree) = limits.file < all_needed_length tree

-- The payloads of a meaning are over the payload bound, or the needed paths are over this one.
abbrev pub IsOverCheckBound : Limits → Meaning → Type 0
IsOverCheckBound limits meaning = IsOverPayloadBound limits meaning ⊎ IsOverPathBound limits meaning

-- ---- unit addresses

-- Whether a name has the byte `@`. A unit address follows it (Devicetree Specification, 2.2.1).
abbrev pub has_address : (name : List ℕ) → Bool
has_address name = list_any (λ byte. byte == 64) name

-- Of these nodes and all below them, the names on the path of each whose name has a unit address.
-- Their parent has these names on its path.
abbrev pub addresses_below : {Own : Type 0} → (parent : List (List ℕ)) → Nodes Own
    → List (List (List ℕ))
addresses_below parent none = []
addresses_below parent (node name own children later) =
    (if has_address name then (parent ++ name ∷ []) ∷ [] else [])
    ++ (addresses_below (parent ++ name ∷ []) children ++ addresses_below parent later)

-- The nodes of a tree whose names have unit addresses, a node before those below it: of each the
-- names on its path.
abbrev pub unit_addresses : {Own : Type 0} → Root Own → List (List (List ℕ))
unit_addresses root = addresses_below [] root.children
