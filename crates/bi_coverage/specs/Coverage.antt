use Rattle.std.specs.Prelude.{ℕ, ◌+◌, ◌==◌, Bool, false, not, ◌&&◌, List, [], ◌∷◌, ◌++◌, length}
use Rattle.std.specs.Prelude.{map}
use Rattle.std.specs.Prelude.{filter, Option, None, Some, codes, nat_le, if◌then◌else◌}
use Rattle.std.specs.FinMap.{get}
use Rattle.std.specs.List.{list_all}
use Rattle.bi_base.specs.Cells.{u32_at}
use Rattle.bi_blob.specs.Layout.{is_among}
use Rattle.bi_blob.specs.Lookups.{Sibling, siblings}
use Rattle.bi_blob.specs.Tree.{PropertyMap, FileProperty, FileNode, Root}
use Rattle.bi_fdt.specs.Content.{root_of}
use Rattle.bi_fit.specs.Content.{FitModel, tree_of}
use Rattle.bi_fit.specs.ImageTree.{ImageTree}
use Rattle.bi_fit.specs.Judgement.{configuration_nodes}
use Rattle.bi_fit.specs.Names.{is_payload_name}
use Rattle.bi_coverage.specs.Numbers.{greatest}
use Rattle.bi_coverage.specs.Paths.{path_text, all_nodes, each_once}
use Rattle.bi_coverage.specs.Signatures.{NeededPart, paths_of_part, paths_of_parts, needed_parts}
use Rattle.bi_coverage.specs.Signatures.{recorded_paths, references, signed_nodes}

-- What the signatures of a configuration cover, if they are valid: the concerns about each of them
-- (profile of this project; U-Boot, boot/image-fit-sig.c: fit_config_check_sig).

-- A concern about a signature node.
pub data SignatureConcern : Type 0 where
  -- It records no list of paths.
  NoNodes : SignatureConcern
  -- Its configuration has no reference.
  NoImages : SignatureConcern
  -- This path is needed, and it or one that is needed together with it is not recorded.
  Uncovered : (path : List ℕ) → SignatureConcern
  -- This path is recorded and not needed.
  Foreign : (path : List ℕ) → SignatureConcern
  -- It does not cover the names of the properties of the nodes that it records.
  Strings : SignatureConcern

-- ---- paths

-- Whether all paths of a part are recorded.
abbrev pub is_covered : (recorded : List (List ℕ)) → NeededPart → Bool
is_covered recorded part = list_all (λ path. is_among path recorded) (paths_of_part part)

-- The concern that a configuration has no reference.
abbrev pub reference_concerns : (references : List (List ℕ)) → List SignatureConcern
reference_concerns [] = NoImages ∷ []
reference_concerns (first ∷ later) = []

-- The concerns about the needed parts that are not covered.
abbrev pub uncovered_concerns : (recorded : List (List ℕ)) → List NeededPart
    → List SignatureConcern
uncovered_concerns recorded parts =
    map (λ part. Uncovered part.path) (filter (λ part. not (is_covered recorded part)) parts)

-- Those of the recorded paths that are not needed.
abbrev pub foreign_paths : (recorded needed : List (List ℕ)) → List (List ℕ)
foreign_paths recorded needed = filter (λ path. not (is_among path needed)) recorded

-- The concerns about the paths that a signature node records, if its configuration needs these
-- parts.
abbrev pub path_differences : List NeededPart → (recorded : List (List ℕ))
    → List SignatureConcern
path_differences parts recorded =
    uncovered_concerns recorded parts
    ++ map Foreign (foreign_paths (each_once recorded) (paths_of_parts parts))

-- The concerns about a signature node that records these paths, if its configuration has these
-- references and needs these parts. It may record no list of paths.
abbrev pub concerns_of_paths : (references : List (List ℕ)) → List NeededPart
    → Option (List (List ℕ)) → List SignatureConcern
concerns_of_paths references parts None = NoNodes ∷ []
concerns_of_paths references parts (Some recorded) =
    reference_concerns references ++ path_differences parts recorded

-- All concerns about a signature node of a configuration but that about strings. They are a
-- function of the image tree.
abbrev pub path_concerns : ImageTree → (configuration signature : Sibling PropertyMap)
    → List SignatureConcern
path_concerns tree configuration signature =
    concerns_of_paths (references tree configuration) (needed_parts tree configuration)
    (recorded_paths signature)

-- ---- the strings block

-- The property of a signature node that has the offset and the size of the part of the strings
-- block that was hashed.
abbrev pub hashed_strings_name : List ℕ
hashed_strings_name = codes "hashed-strings"

-- Where the name of a property ends in the strings block of a file, with the zero after it. The
-- second cell after the property's token is the offset of the name (5.4.1).
abbrev pub name_end : (file : List ℕ) → FileProperty → ℕ
name_end file property = u32_at file (property.place + 8) + length property.name + 1

-- Where the last name of these properties ends. Those that hold a payload or name its region do not
-- count, in a node of any kind.
abbrev pub properties_end : (file : List ℕ) → List FileProperty → ℕ
properties_end file properties =
    greatest
    (map (name_end file) (filter (λ property. not (is_payload_name property.name)) properties))

-- Where the last name of the properties of a node ends.
abbrev pub names_end : (file : List ℕ) → FileNode → ℕ
names_end file own = properties_end file own.properties

-- Where the last name of the properties of the nodes with these paths ends.
abbrev pub recorded_end : (file : List ℕ) → Root FileNode → (recorded : List (List ℕ)) → ℕ
recorded_end file root recorded =
    greatest
    (map (λ located. names_end file located.own)
    (filter (λ located. is_among (path_text located.names) recorded) (all_nodes root)))

-- Whether a value of `hashed-strings` reaches the end of the names: it is two cells, and the second
-- is at least that end.
abbrev pub has_strings : (value : Option (List ℕ)) → (end : ℕ) → Bool
has_strings None end = false
has_strings (Some value) end = (length value == 8) && nat_le end (u32_at value 4)

-- The concern about the strings of a signature node, if it records a list of paths.
abbrev pub concerns_of_strings : (file : List ℕ) → Root FileNode → (value : Option (List ℕ))
    → Option (List (List ℕ)) → List SignatureConcern
concerns_of_strings file root value None = []
concerns_of_strings file root value (Some recorded) =
    if has_strings value (recorded_end file root recorded) then [] else Strings ∷ []

-- ---- all

-- What is known of a signature node: its name, and the concerns about it.
pub record SignatureCoverage : Type 0 where
  pub name : List ℕ
  pub concerns : List SignatureConcern

-- The concern about the strings of a signature node of a file, if there is one.
abbrev pub strings_concerns : FitModel → (signature : Sibling PropertyMap)
    → List SignatureConcern
strings_concerns content signature =
    concerns_of_strings content.blob.file (root_of content.blob)
    (get signature.own hashed_strings_name) (recorded_paths signature)

-- What is known of a signature node of a file, if its configuration has these references and needs
-- these parts.
abbrev pub signature_with : FitModel → (references : List (List ℕ)) → List NeededPart
    → (signature : Sibling PropertyMap) → SignatureCoverage
signature_with content references parts signature = record {
  name = signature.name;
  concerns = concerns_of_paths references parts (recorded_paths signature)
      ++ strings_concerns content signature;
}

-- What is known of a signature node of a configuration of a file.
abbrev pub signature_coverage : FitModel → (configuration signature : Sibling PropertyMap)
    → SignatureCoverage
signature_coverage content configuration signature =
    signature_with content (references (tree_of content) configuration)
    (needed_parts (tree_of content) configuration) signature

-- A configuration: its name, and its signed nodes in order.
pub record ConfigurationCoverage : Type 0 where
  pub name : List ℕ
  pub signatures : List SignatureCoverage

-- What the signed nodes of a configuration of a file cover.
abbrev pub configuration_coverage : FitModel → Sibling PropertyMap → ConfigurationCoverage
configuration_coverage content configuration = record {
  name = configuration.name;
  signatures = map (signature_coverage content configuration) (signed_nodes configuration);
}

-- What the signed nodes of each configuration of a file cover, in order.
abbrev pub coverage_of : FitModel → List ConfigurationCoverage
coverage_of content =
    map (configuration_coverage content) (siblings (configuration_nodes (tree_of content)))
