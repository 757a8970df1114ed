use Rattle.std.specs.Prelude.{◌≡◌, ℕ, ◌-◌, Bool, List, [], ◌∷◌, ◌++◌, Option, None}
use Rattle.std.specs.Prelude.{option_and_then, drop, filter}
use Rattle.std.specs.Prelude.{flat_map, length, map, not}
use Rattle.bi_base.specs.Limits.{Limits}
use Rattle.bi_blob.specs.Lookups.{Sibling, node_named, property_named, siblings, value_named}
use Rattle.bi_blob.specs.Tree.{FileNode, FileProperty, properties_of}
use Rattle.bi_fdt.specs.Content.{Blob, root_of}
use Rattle.bi_fit.specs.declared.key.Key.{Key}
use Rattle.bi_fit.specs.Content.{FitModel, ImageModel, tree_of}
use Rattle.bi_fit.specs.HashNodes.{file_configurations, file_listed}
use Rattle.bi_fit.specs.Judgement.{CheckedHash, configuration_nodes, default_of}
use Rattle.bi_fit.specs.Reading.{IsReadFit}
use Rattle.bi_fit.specs.Names.{all_keys, configurations_name, default_name}
use Rattle.bi_blob.specs.Tree.{names}
use Rattle.bi_legacy.specs.Reading.{LegacyModel, IsReadLegacy}
use Rattle.bi_norm.specs.Comparing.{MeansOnly}
use Rattle.bi_norm.specs.Meaning.{Meaning}
use Rattle.bi_common.specs.HashedImages.{FoundHash, HashedImage, images_of_blob}
use Rattle.bi_coverage.specs.Coverage.{ConfigurationCoverage, coverage_of}
use Rattle.bi_report.specs.declared.check.Allowed.{Allowed}
use Rattle.bi_report.specs.Checking.{AreConcerns, Concern, JudgedHash, Unsigned}
use Rattle.bi_report.specs.Checking.{absence_concerns, address_concerns, allows, coverage_concerns}
use Rattle.bi_report.specs.Checking.{default_concerns, hash_concerns, ignore_name, kind_of}
use Rattle.bi_report.specs.Checking.{list_concerns, payload_concerns, skips, trailing_concerns}
use Rattle.bi_report.specs.Checking.{used_hashes}
use Rattle.bi_report.specs.ReadChecking.{end_of_read_payloads}
use Rattle.bi_report.specs.SignedTrees.{IsOverCheckBound, unit_addresses}

-- The concerns about a boot image that was read, each with what it is about.

-- What of a file a concern is about.
pub data Subject : Type 0 where
  -- A hash node of an image.
  HashOf : (image hash : Sibling FileNode) → Subject
  -- An image, or a configuration.
  NodeItself : Sibling FileNode → Subject
  -- The nodes that the concern names, or none of them.
  NamedNodes : Subject
  -- The default, and the property that has it, if there is one.
  Default : Option FileProperty → Subject
  -- The bytes after the image.
  Rest : Subject

-- A concern, and what it is about.
pub record FoundConcern : Type 0 where
  pub concern : Concern
  pub subject : Subject

-- These concerns are about this.
abbrev pub concerns_about : Subject → List Concern → List FoundConcern
concerns_about subject concerns =
    map (λ concern. record { concern = concern; subject = subject }) concerns

-- ---- the parts of a flattened image tree

-- Whether U-Boot skips a hash node.
abbrev pub is_skipped : Sibling FileNode → Bool
is_skipped hash = skips (value_named (properties_of hash.own) ignore_name)

-- A hash node, as the definitions over trees see it.
abbrev pub judged_found : FoundHash → JudgedHash
judged_found hash = record { checked = hash.checked; is_skipped = is_skipped hash.node }

-- Those of some hash nodes that U-Boot does not skip, with their verdicts.
abbrev pub used_found : List FoundHash → List CheckedHash
used_found hashes = used_hashes (map judged_found hashes)

-- The concerns about a hash node of an image.
abbrev pub found_in_hash : (image : Sibling FileNode) → FoundHash → List FoundConcern
found_in_hash image hash =
    concerns_about (HashOf image hash.node) (hash_concerns (judged_found hash))

-- The concerns about an image: about each of its hash nodes, and then about the payload.
abbrev pub found_in_image : HashedImage → List FoundConcern
found_in_image image =
    flat_map (found_in_hash image.node) image.found
    ++ concerns_about
    (NodeItself image.node)
    (payload_concerns image.node.name image.payload (used_found image.found))

-- The concern about what a configuration node of a file with these images lists under a key.
abbrev pub found_in_key : List ImageModel → Sibling FileNode → Key → List FoundConcern
found_in_key images entry key =
    concerns_about
    (NodeItself entry)
    (list_concerns entry.name key (file_listed images entry key))

-- The concerns about such a configuration node, key by key.
abbrev pub found_in_configuration : List ImageModel → Sibling FileNode → List FoundConcern
found_in_configuration images entry = flat_map (found_in_key images entry) all_keys

-- The concerns about the signatures of configurations with this coverage: that there are no
-- configurations, and those about each of them.
abbrev pub found_in_coverage : ConfigurationCoverage → List FoundConcern
found_in_coverage configuration = concerns_about NamedNodes (coverage_concerns configuration)

abbrev pub found_in_signatures : List ConfigurationCoverage → List FoundConcern
found_in_signatures coverage =
    concerns_about NamedNodes (absence_concerns coverage) ++ flat_map found_in_coverage coverage

-- The concerns about the nodes with these paths, if one of the configurations is signed.
abbrev pub found_in_addresses : List ConfigurationCoverage → (paths : List (List (List ℕ)))
    → List FoundConcern
found_in_addresses coverage paths = concerns_about NamedNodes (address_concerns coverage paths)

-- The property that has the default of a blob.
abbrev pub default_property : Blob → Option FileProperty
default_property blob =
    option_and_then
    (λ node. property_named node.own.properties default_name)
    (node_named (root_of blob).children configurations_name)

-- The concern about the default.
abbrev pub found_in_default : FitModel → List FoundConcern
found_in_default content =
    concerns_about
    (Default (default_property content.blob))
    (default_concerns
    (default_of (tree_of content))
    (names (configuration_nodes (tree_of content))))

-- The concern about these bytes after an image.
abbrev pub found_in_rest : List ℕ → List FoundConcern
found_in_rest bytes = concerns_about Rest (trailing_concerns bytes)

-- ---- whole images

-- The concerns about a legacy image that was read from this file.
abbrev pub found_in_legacy : List ℕ → LegacyModel → List FoundConcern
found_in_legacy file image =
    concerns_about NamedNodes (Unsigned None ∷ [])
    ++ found_in_rest (drop (length file - image.unused) file)

-- The concerns about a flattened image tree that was read from this file: about its images, its
-- configurations, their signatures, its unit addresses and its default, and about the bytes after
-- it.
abbrev pub found_in_fit : List ℕ → FitModel → List FoundConcern
found_in_fit file content =
    flat_map found_in_image (images_of_blob content)
    ++ (flat_map (found_in_configuration content.images)
    (siblings (file_configurations content.blob))
    ++ (found_in_signatures (coverage_of content)
    ++ (found_in_addresses (coverage_of content) (unit_addresses (root_of content.blob))
    ++ (found_in_default content
    ++ found_in_rest (drop (end_of_read_payloads content.blob.total_size content.images) file)))))

-- The concerns alone.
abbrev pub concerns_in : List FoundConcern → List Concern
concerns_in found = map (λ one. one.concern) found

-- Those that are not allowed.
abbrev pub kept_found : Allowed → List FoundConcern → List FoundConcern
kept_found allowed found = filter (λ one. not (allows allowed (kind_of one.concern))) found

-- ---- files

-- These are the concerns, each with what it is about, that are found in what reading the file
-- returns.
pub data AreFound (limits : Limits) (file : List ℕ) (found : List FoundConcern) : Type 0 where
  InLegacyImage : (image : LegacyModel) → IsReadLegacy limits file image
      → found ≡ found_in_legacy file image → AreFound limits file found
  InImageTree : (content : FitModel) → IsReadFit limits file content
      → found ≡ found_in_fit file content → AreFound limits file found

-- These are the concerns about a file, in their order, each with what it is about. The file means
-- something and nothing else, and its payloads and its needed paths are within their bounds.
pub record HasConcerns (limits : Limits) (file : List ℕ) (found : List FoundConcern) : Type 0 where
  pub meaning : Meaning
  pub means : MeansOnly limits file meaning
  pub within : ¬ (IsOverCheckBound limits meaning)
  pub are_concerns : AreConcerns limits file (concerns_in found)
  pub are_found : AreFound limits file found
