use Rattle.std.specs.Prelude.{ℕ, ◌+◌, ◌-◌, ◌≡◌, ◌&&◌, ◌||◌, ◌==◌, max, Bool, false, not, List, []}
use Rattle.std.specs.Prelude.{◌∷◌, ◌++◌, Option, Some, None, length, map, filter, flat_map, drop}
use Rattle.std.specs.Prelude.{codes}
use Rattle.std.specs.Prelude.{bytes_eq, unwrap_or, if◌then◌else◌}
use Rattle.std.specs.FinMap.{get}
use Rattle.std.specs.List.{list_all, list_any}
use Rattle.bi_base.specs.Limits.{Limits}
use Rattle.bi_blob.specs.Blob.{totalsize}
use Rattle.bi_blob.specs.Lookups.{Sibling}
use Rattle.bi_blob.specs.Tree.{Nodes, node, FileNode, PropertyMap, names}
use Rattle.bi_coverage.specs.Coverage.{SignatureConcern, NoNodes, NoImages, Uncovered, Foreign}
use Rattle.bi_coverage.specs.Coverage.{Strings, SignatureCoverage, ConfigurationCoverage}
use Rattle.bi_fit.specs.declared.key.Key.{Key}
use Rattle.bi_fit.specs.File.{FitMeans}
use Rattle.bi_fit.specs.ImageTree.{ImageTree}
use Rattle.bi_fit.specs.Judgement.{Image, images_of, CheckedHash, checked_hash, hash_nodes}
use Rattle.bi_fit.specs.Judgement.{ListResult, NoConfig, NoKey, BadList, Missing, ListedImages}
use Rattle.bi_fit.specs.Judgement.{configuration_nodes, listed_of, default_of}
use Rattle.bi_fit.specs.Names.{key_name, all_keys}
use Rattle.bi_fit.specs.Payloads.{PayloadSource, source_of, payload_place}
use Rattle.bi_hash.specs.declared.verdicts.Verdict.TheVariants.{Good}
use Rattle.bi_legacy.specs.Reading.{LegacyModel, IsReadLegacy}
use Rattle.bi_common.specs.Json.{Json, Member, json_array, json_object}
use Rattle.bi_common.specs.Lines.{Line}
use Rattle.bi_common.specs.VerdictCounts.{is_verdict}
use Rattle.bi_report.specs.declared.check.Allowed.{Allowed}
use Rattle.bi_report.specs.declared.check.Policy.{Policy}
use Rattle.bi_report.specs.declared.check.ConcernKind.{ConcernKind}
use Rattle.bi_report.specs.declared.check.ConcernKind.TheVariants as kind
use Rattle.bi_report.specs.Details.{Detail, NameDetail, PathDetail, WordDetail, NumberDetail}
use Rattle.bi_report.specs.Details.{NamesDetail}
use Rattle.bi_report.specs.Details.{details_line, details_object}
use Rattle.bi_report.specs.Reports.{hash_details}
use Rattle.bi_report.specs.SignedTrees.{coverage_in, is_any_signed, unit_addresses}

-- The concerns about a boot image: what in it is not protected (profile of this project).

-- A concern.
pub data Concern : Type 0 where
  -- A hash node whose verdict is not Good.
  BadHash : (hash : CheckedHash) → Concern
  -- A hash node of an image that U-Boot skips.
  SkippedHash : (image hash : List ℕ) → Concern
  -- An image with a payload and without a Good verdict on a hash node that U-Boot does not skip.
  UnhashedImage : (image : List ℕ) → Concern
  -- An image with a payload, and with Good verdicts on these hash nodes alone, none of which names
  -- a strong algorithm. U-Boot skips none of them.
  WeakHash : (image : List ℕ) → (good : List CheckedHash) → Concern
  -- A key of a configuration whose value is not a list of names.
  BadKey : (configuration : List ℕ) → Key → Concern
  -- A key of a configuration that lists at this index, counted from 0, a name that no image has.
  -- It is the first such name.
  MissingImage : (configuration : List ℕ) → Key → (index : ℕ) → Concern
  -- A configuration without a signed node, or that there is no configuration.
  Unsigned : (configuration : Option (List ℕ)) → Concern
  -- What a signed node of a configuration does not cover.
  OfSignature : (configuration signature : List ℕ) → SignatureConcern → Concern
  -- A node whose name has a unit address. These are the names on its path.
  UnitAddress : (names : List (List ℕ)) → Concern
  -- A default that names no configuration, or is not there.
  BadDefault : (default : Option (List ℕ)) → Concern
  -- This many bytes follow an image, and one of them is not zero.
  TrailingBytes : (count : ℕ) → Concern

-- The kind of a concern about a signed node.
abbrev pub kind_of_signature : SignatureConcern → ConcernKind
kind_of_signature NoNodes = kind.NoNodes
kind_of_signature NoImages = kind.NoImages
kind_of_signature (Uncovered path) = kind.Uncovered
kind_of_signature (Foreign path) = kind.Foreign
kind_of_signature Strings = kind.Strings

-- The kind of a concern.
abbrev pub kind_of : Concern → ConcernKind
kind_of (BadHash hash) = kind.BadHash
kind_of (SkippedHash image hash) = kind.SkippedHash
kind_of (UnhashedImage image) = kind.Unhashed
kind_of (WeakHash image good) = kind.WeakHash
kind_of (BadKey configuration key) = kind.BadList
kind_of (MissingImage configuration key index) = kind.Missing
kind_of (Unsigned configuration) = kind.Unsigned
kind_of (OfSignature configuration signature concern) = kind_of_signature concern
kind_of (UnitAddress names) = kind.UnitAddress
kind_of (BadDefault default) = kind.BadDefault
kind_of (TrailingBytes count) = kind.Trailing

-- The word for a kind: the first word of the line of a concern.
abbrev pub kind_word : ConcernKind → List ℕ
kind_word kind.BadHash = codes "bad-hash"
kind_word kind.SkippedHash = codes "skipped-hash"
kind_word kind.Unhashed = codes "unhashed"
kind_word kind.WeakHash = codes "weak-hash"
kind_word kind.BadList = codes "bad-list"
kind_word kind.Missing = codes "missing"
kind_word kind.Unsigned = codes "unsigned"
kind_word kind.NoNodes = codes "no-nodes"
kind_word kind.NoImages = codes "no-images"
kind_word kind.Uncovered = codes "uncovered"
kind_word kind.Foreign = codes "foreign"
kind_word kind.Strings = codes "strings"
kind_word kind.UnitAddress = codes "unit-address"
kind_word kind.BadDefault = codes "bad-default"
kind_word kind.Trailing = codes "trailing"

-- The path that a concern about a signed node names.
abbrev pub path_details : SignatureConcern → List Detail
path_details NoNodes = []
path_details NoImages = []
path_details (Uncovered path) = NameDetail (codes "path") (Some path) ∷ []
path_details (Foreign path) = NameDetail (codes "path") (Some path) ∷ []
path_details Strings = []

-- What is said of it after that word. The hash nodes of a weak hash have names of algorithms, since
-- their verdicts are Good.
abbrev pub later_details : Concern → List Detail
later_details (BadHash hash) = hash_details hash
later_details (SkippedHash image hash) =
    NameDetail (codes "image") (Some image) ∷ NameDetail (codes "node") (Some hash) ∷ []
later_details (UnhashedImage image) = NameDetail (codes "image") (Some image) ∷ []
later_details (WeakHash image good) =
    NameDetail (codes "image") (Some image)
    ∷ NamesDetail (codes "algorithms") (map (λ hash. hash.algo) good) ∷ []
later_details (BadKey configuration key) =
    NameDetail (codes "configuration") (Some configuration)
    ∷ WordDetail (codes "key") (key_name key) ∷ []
later_details (MissingImage configuration key index) =
    NameDetail (codes "configuration") (Some configuration)
    ∷ WordDetail (codes "key") (key_name key) ∷ NumberDetail (codes "index") index ∷ []
later_details (Unsigned configuration) = NameDetail (codes "configuration") configuration ∷ []
later_details (OfSignature configuration signature concern) =
    NameDetail (codes "configuration") (Some configuration)
    ∷ NameDetail (codes "signature") (Some signature) ∷ path_details concern
later_details (UnitAddress names) = PathDetail (codes "path") names ∷ []
later_details (BadDefault default) = NameDetail (codes "default") default ∷ []
later_details (TrailingBytes count) = NumberDetail (codes "size") count ∷ []

-- The details of a concern.
abbrev pub concern_details : Concern → List Detail
concern_details concern =
    WordDetail (codes "concern") (kind_word (kind_of concern)) ∷ later_details concern

-- The line of a concern.
abbrev pub concern_line : Concern → Line
concern_line concern = details_line (concern_details concern)

-- A concern in JSON.
abbrev pub concern_object : Concern → Json
concern_object concern = details_object (concern_details concern)

-- The member for concerns.
abbrev pub concerns_member : List Concern → Member
concerns_member concerns = (codes "concerns", json_array (map concern_object concerns))

-- Concerns in JSON.
abbrev pub concerns_object : List Concern → Json
concerns_object concerns = json_object (concerns_member concerns ∷ [])

-- ---- the hash nodes of an image

-- The property of a hash node that tells U-Boot to skip it (boot/image-fit.c: FIT_IGNORE_PROP).
abbrev pub ignore_name : List ℕ
ignore_name = codes "uboot-ignore"

-- Whether a value of that property does so: it is four bytes, and not all are zero.
abbrev pub skips : Option (List ℕ) → Bool
skips None = false
skips (Some value) = (length value == 4) && not (list_all (λ byte. byte == 0) value)

-- A hash node with its verdict, and whether U-Boot skips it.
pub record JudgedHash : Type 0 where
  pub checked : CheckedHash
  pub is_skipped : Bool

-- Those of some hash nodes that U-Boot does not skip, with their verdicts.
abbrev pub used_hashes : List JudgedHash → List CheckedHash
used_hashes hashes = map (λ hash. hash.checked) (filter (λ hash. not hash.is_skipped) hashes)

-- Whether the verdict on a hash node is Good.
abbrev pub is_good : CheckedHash → Bool
is_good hash = is_verdict Good hash.verdict

-- The names of the strong algorithms.
abbrev pub strong_algorithms : List (List ℕ)
strong_algorithms = codes "sha256" ∷ codes "sha384" ∷ codes "sha512" ∷ []

-- Whether this is the name of a strong algorithm.
abbrev pub is_strong_algorithm : Option (List ℕ) → Bool
is_strong_algorithm None = false
is_strong_algorithm (Some name) = list_any (bytes_eq name) strong_algorithms

-- Whether the verdict on a hash node is Good and its algorithm is strong.
abbrev pub is_strong : CheckedHash → Bool
is_strong hash = is_good hash && is_strong_algorithm hash.algo

-- The concern about a hash node, if its verdict is not Good.
abbrev pub verdict_concerns : CheckedHash → List Concern
verdict_concerns hash = if is_good hash then [] else BadHash hash ∷ []

-- The concern about a hash node, if U-Boot skips it.
abbrev pub skip_concerns : JudgedHash → List Concern
skip_concerns hash =
    if hash.is_skipped then SkippedHash hash.checked.image hash.checked.node_name ∷ [] else []

-- The concerns about a hash node: that its verdict is not Good, and that U-Boot skips it.
abbrev pub hash_concerns : JudgedHash → List Concern
hash_concerns hash = verdict_concerns hash.checked ++ skip_concerns hash

-- The concern about an image with a payload and these hash nodes, of which U-Boot skips none: that
-- no verdict is Good, or else that no Good one is of a strong algorithm.
abbrev pub protection_concerns : (image : List ℕ) → List CheckedHash → List Concern
protection_concerns image hashes =
    if not (list_any is_good hashes) then UnhashedImage image ∷ [] else
    if not (list_any is_strong hashes) then WeakHash image (filter is_good hashes) ∷ [] else []

-- The concern about an image, which may have no payload, and these hash nodes, of which U-Boot
-- skips none: there is none without a payload.
abbrev pub payload_concerns : (image : List ℕ) → Option (List ℕ) → List CheckedHash → List Concern
payload_concerns image None hashes = []
payload_concerns image (Some payload) hashes = protection_concerns image hashes

-- The concerns about an image with these hash nodes: about each of them, and then about the
-- payload.
abbrev pub hashed_concerns : (image : List ℕ) → Option (List ℕ) → List JudgedHash → List Concern
hashed_concerns image payload hashes =
    flat_map hash_concerns hashes ++ payload_concerns image payload (used_hashes hashes)

-- A hash node of an image.
abbrev pub judged_hash : Image → Sibling PropertyMap → JudgedHash
judged_hash image hash =
    record { checked = checked_hash image hash; is_skipped = skips (get hash.own ignore_name) }

-- The hash nodes of an image.
abbrev pub judged_hashes : Image → List JudgedHash
judged_hashes image = map (judged_hash image) (hash_nodes image)

-- The concerns about an image.
abbrev pub image_concerns : Image → List Concern
image_concerns image = hashed_concerns image.entry.name image.payload (judged_hashes image)

-- ---- configurations

-- The concern about what a configuration lists under a key, if that is not images.
abbrev pub list_concerns : (configuration : List ℕ) → Key → ListResult → List Concern
list_concerns configuration key NoConfig = []
list_concerns configuration key NoKey = []
list_concerns configuration key BadList = BadKey configuration key ∷ []
list_concerns configuration key (Missing index) = MissingImage configuration key index ∷ []
list_concerns configuration key (ListedImages images) = []

-- The concerns about a configuration, key by key.
abbrev pub configuration_concerns : ImageTree → (configuration : List ℕ) → List Concern
configuration_concerns tree configuration =
    flat_map (λ key. list_concerns configuration key (listed_of tree configuration key)) all_keys

-- Whether the default is the name of one of these configurations.
abbrev pub names_one_of : Option (List ℕ) → (configurations : List (List ℕ)) → Bool
names_one_of None configurations = false
names_one_of (Some name) configurations = list_any (bytes_eq name) configurations

-- The concern about the default, if there are configurations and it names none of them.
abbrev pub default_concerns : Option (List ℕ) → (configurations : List (List ℕ)) → List Concern
default_concerns default [] = []
default_concerns default (first ∷ later) =
    if names_one_of default (first ∷ later) then [] else BadDefault default ∷ []

-- ---- signatures

-- The concern about a configuration with these signed nodes: that there is none.
abbrev pub unsigned_concerns : (configuration : List ℕ) → List SignatureCoverage → List Concern
unsigned_concerns configuration [] = Unsigned (Some configuration) ∷ []
unsigned_concerns configuration (first ∷ later) = []

-- The concerns about a signed node of a configuration.
abbrev pub signature_concerns : (configuration : List ℕ) → SignatureCoverage → List Concern
signature_concerns configuration signature =
    map (OfSignature configuration signature.name) signature.concerns

-- The concerns about the signed nodes of a configuration.
abbrev pub coverage_concerns : ConfigurationCoverage → List Concern
coverage_concerns configuration =
    unsigned_concerns configuration.name configuration.signatures
    ++ flat_map (signature_concerns configuration.name) configuration.signatures

-- The concern that there are no configurations, if there are none.
abbrev pub absence_concerns : List ConfigurationCoverage → List Concern
absence_concerns [] = Unsigned None ∷ []
absence_concerns (first ∷ later) = []

-- The concerns about the nodes with these names on their paths, whose own names have unit
-- addresses. U-Boot refuses such names where it verifies signatures.
abbrev pub address_concerns : List ConfigurationCoverage → (paths : List (List (List ℕ)))
    → List Concern
address_concerns coverage paths = if is_any_signed coverage then map UnitAddress paths else []

-- ---- a whole tree

-- The concerns about a flattened image tree whose configurations have this coverage. No other part
-- of them depends on more than what the file means.
abbrev pub tree_concerns : ImageTree → List ConfigurationCoverage → List Concern
tree_concerns tree coverage =
    flat_map image_concerns (images_of tree)
    ++ (flat_map (configuration_concerns tree) (names (configuration_nodes tree))
    ++ (absence_concerns coverage
    ++ (flat_map coverage_concerns coverage
    ++ (address_concerns coverage (unit_addresses tree.root)
    ++ default_concerns (default_of tree) (names (configuration_nodes tree))))))

-- ---- bytes after an image

-- The concern about the bytes of a file after its image, if one of them is not zero.
abbrev pub trailing_concerns : List ℕ → List Concern
trailing_concerns bytes =
    if list_all (λ byte. byte == 0) bytes then [] else TrailingBytes (length bytes) ∷ []

-- Where a payload ends in its file, by its source. One of no bytes ends where it begins.
abbrev pub payload_end : List ℕ → PayloadSource → Option (List ℕ) → ℕ
payload_end file from None = 0
payload_end file from (Some payload) =
    unwrap_or (payload_place file from) 0 + length payload

-- Where the content of a flattened image tree ends: the end of the blob, or of the payload of one
-- of these image nodes that ends after it and after all others.
abbrev pub content_end : List ℕ → Nodes FileNode → List (Option (List ℕ)) → ℕ
content_end file (node name own children later) (payload ∷ payloads) =
    max (payload_end file (source_of own) payload) (content_end file later payloads)
content_end file nodes payloads = totalsize file

-- These are the concerns about a file, in their order.
pub data AreConcerns (limits : Limits) (file : List ℕ) (concerns : List Concern) : Type 0 where
  OfLegacyImage : (parsed : LegacyModel) → IsReadLegacy limits file parsed
      → concerns ≡ Unsigned None ∷ trailing_concerns (drop (length file - parsed.unused) file)
      → AreConcerns limits file concerns
  OfImageTree : (tree : ImageTree) → (means : FitMeans limits file tree)
      → concerns ≡ tree_concerns tree (coverage_in file means.is_file.root tree)
      ++ trailing_concerns (drop (content_end file means.is_file.images tree.payloads) file)
      → AreConcerns limits file concerns

-- ---- what is allowed

-- No kind is allowed.
abbrev pub nothing_allowed : Allowed
nothing_allowed = record {
  bad_hash = false;
  skipped_hash = false;
  unhashed = false;
  weak_hash = false;
  bad_list = false;
  missing = false;
  unsigned = false;
  no_nodes = false;
  no_images = false;
  uncovered = false;
  foreign = false;
  strings = false;
  unit_address = false;
  bad_default = false;
  trailing = false;
}

-- The kinds whose lines a policy leaves out: those that it allows, and the lack of signatures,
-- unless the policy asks for them.
abbrev pub allowed_under : Policy → Allowed
allowed_under policy =
    record policy.allowed { unsigned = policy.allowed.unsigned || not policy.signed }

-- The kinds that are left out without any option.
abbrev pub allowed_by_default : Allowed
allowed_by_default = allowed_under (record { allowed = nothing_allowed; signed = false })

-- Whether the lines of this kind are left out.
abbrev pub allows : Allowed → ConcernKind → Bool
allows allowed kind.BadHash = allowed.bad_hash
allows allowed kind.SkippedHash = allowed.skipped_hash
allows allowed kind.Unhashed = allowed.unhashed
allows allowed kind.WeakHash = allowed.weak_hash
allows allowed kind.BadList = allowed.bad_list
allows allowed kind.Missing = allowed.missing
allows allowed kind.Unsigned = allowed.unsigned
allows allowed kind.NoNodes = allowed.no_nodes
allows allowed kind.NoImages = allowed.no_images
allows allowed kind.Uncovered = allowed.uncovered
allows allowed kind.Foreign = allowed.foreign
allows allowed kind.Strings = allowed.strings
allows allowed kind.UnitAddress = allowed.unit_address
allows allowed kind.BadDefault = allowed.bad_default
allows allowed kind.Trailing = allowed.trailing

-- The concerns that are not allowed.
abbrev pub kept_concerns : Allowed → List Concern → List Concern
kept_concerns allowed concerns =
    filter (λ concern. not (allows allowed (kind_of concern))) concerns
