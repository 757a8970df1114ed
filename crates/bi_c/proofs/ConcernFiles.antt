use Rattle.std.proofs.Common.{◌≡◌, ◌++◌, ◌-◌, ℕ, Bool, true, false, not, List, [], ◌∷◌, Option, Some, None, option_and_then, map, filter}
use Rattle.std.proofs.Common.{flat_map, drop, length, ◌==◌, refl, sym, ap, subst, ◌∙◌, if◌then◌else◌}
use Rattle.std.specs.Bool.{⊤}
use Rattle.std.specs.List.{AllByRecursion, AllZip, list_all, list_any}
use Rattle.std.specs.Option.{option_map}
use Rattle.bi_base.specs.declared.fault.Error.TheVariants as error
use Rattle.bi_base.specs.Limits.{Limits}
use Rattle.bi_base.specs.Strings.{text_before_nul}
use Rattle.bi_base.proofs.ListMembers.{each-append}
use Rattle.bi_blob.specs.Lookups.{Sibling, node_named, property_named, siblings, value_named}
use Rattle.bi_blob.specs.Tree.{Nodes, none, node, FileNode, Root, names, properties_of}
use Rattle.bi_fdt.specs.Content.{root_of}
use Rattle.bi_fit.specs.Content.{FitModel, ImageModel, tree_of}
use Rattle.bi_fit.specs.HashNodes.{file_configurations, file_hash, file_images, file_listed}
use Rattle.bi_fit.specs.ImageTree.{children_of, nodes_or_none}
use Rattle.bi_fit.specs.Judgement.{CheckedHash, ListResult, NoConfig, NoKey, BadList, Missing, ListedImages, configuration_nodes}
use Rattle.bi_fit.specs.Judgement.{default_of}
use Rattle.bi_fit.specs.Names.{all_keys, configurations_name, default_name, images_name, is_hash_name}
use Rattle.bi_fit.specs.declared.key.Key.{Key}
use Rattle.bi_fit.proofs.FileConfigurations.{default_is}
use Rattle.bi_report.specs.declared.check.Allowed.{Allowed}
use Rattle.bi_norm.proofs.NormalForms.{needs_memory}
use Rattle.bi_report.specs.CheckedFiles.{IsCheckError}
use Rattle.bi_report.specs.Checking.{BadDefault, BadKey, Concern, MissingImage, OfSignature, SkippedHash, TrailingBytes, UnhashedImage}
use Rattle.bi_report.specs.Checking.{UnitAddress}
use Rattle.bi_report.specs.Checking.{Unsigned, WeakHash, BadHash, absence_concerns, address_concerns, allows, coverage_concerns}
use Rattle.bi_report.specs.Checking.{default_concerns, is_good, signature_concerns, unsigned_concerns}
use Rattle.bi_report.specs.Checking.{is_strong, kept_concerns, kind_of, list_concerns, names_one_of, payload_concerns}
use Rattle.bi_report.specs.FoundConcerns.{AreFound, Default, FoundConcern, HasConcerns, HashOf, InImageTree, InLegacyImage, NodeItself}
use Rattle.bi_report.specs.FoundConcerns.{Rest, concerns_about, concerns_in, default_property, found_in_configuration, found_in_default}
use Rattle.bi_report.specs.FoundConcerns.{NamedNodes, found_in_addresses, found_in_coverage, found_in_hash, found_in_image, found_in_key}
use Rattle.bi_report.specs.FoundConcerns.{found_in_rest, found_in_signatures, is_skipped, kept_found, used_found}
use Rattle.bi_report.specs.SignedTrees.{is_any_signed, unit_addresses}
use Rattle.bi_coverage.specs.Coverage.{ConfigurationCoverage, SignatureConcern, SignatureCoverage, coverage_of}
use Rattle.bi_common.specs.HashedImages.{found_hashes, hashed_image, hashed_images, images_of_blob}
use Rattle.bi_report.specs.ReadChecking.{end_of_read_payloads}
use Rattle.bi_c.specs.Arguments.{allowed_by, bounds}
use Rattle.bi_c.specs.Calls.{HasKinds}
use Rattle.bi_c.specs.ConcernElements.{AreConcernElements, IsConcernElement, concern_element}
use Rattle.bi_c.specs.ImageElements.{HasPayloadBytes}
use Rattle.bi_c.specs.TreeRegions.{HasNameBytes, HasPropertyBytes, HaveNodeBytes}
use Rattle.bi_c.specs.VerdictElements.{found_text_region}
use Rattle.bi_c.specs.declared.concerns.ConcernElement.{ConcernElement}
use Rattle.bi_c.proofs.TreeRegions.{each_name, named_bytes, root_bytes}
use Rattle.bi_c.proofs.VerdictFiles.{is_element, named_text}

-- The elements of the concerns about a file have their texts in the file.

-- The element of a concern with what it is about is that of the concern.
abbrev pub HasItsTexts : List ℕ → FoundConcern → Type 0
HasItsTexts file found = IsConcernElement file (concern_element found) found.concern

-- What holds of what each element of a list gives holds of all of it.
each_given : {X Y : Type 0} (P : Y → Type 0) (f : X → List Y) (xs : List X) → ((x : X) → AllByRecursion P (f x)) →
    AllByRecursion P (flat_map f xs)
each_given P f [] holds = tt
each_given P f (x ∷ xs) holds = each-append P (f x) (flat_map f xs) (holds x) (each_given P f xs holds)

-- ---- images

-- The concern about a hash node.
hash_there : (file : List ℕ) (image : Sibling FileNode) (payload : Option (List ℕ)) (hash : Sibling FileNode) → HasNameBytes file image →
    HasNameBytes file hash → AllByRecursion (HasPropertyBytes file) hash.own.properties →
    AllByRecursion (HasItsTexts file) (found_in_hash image (record { node = hash; checked = file_hash image.name payload hash }))
hash_there file image payload hash image_there hash_name have = by (is_good (file_hash image.name payload hash)) (is_skipped hash)
  where
    bad : HasItsTexts file (record { concern = BadHash (file_hash image.name payload hash); subject = HashOf image hash })
    bad =
        let is = is_element file image payload hash image_there hash_name have in
        record {
          name = image_there;
          node = hash_name;
          algorithm = is.algorithm;
          index = refl;
          size = refl;
          kind = refl;
          verdict = refl;
          key = refl;
        }

    skipped : HasItsTexts file (record { concern = SkippedHash image.name hash.name; subject = HashOf image hash })
    skipped = record {
      name = image_there;
      node = hash_name;
      algorithm = tt;
      index = refl;
      size = refl;
      kind = refl;
      verdict = refl;
      key = refl;
    }

    by : (good skips : Bool) →
        AllByRecursion (HasItsTexts file)
        (concerns_about (HashOf image hash)
        ((if good then [] else BadHash (file_hash image.name payload hash) ∷ [])
        ++ (if skips then SkippedHash image.name hash.name ∷ [] else [])))
    by true false = tt
    by true true = (skipped, tt)
    by false false = (bad, tt)
    by false true = (bad, (skipped, tt))

-- Those about the hash nodes among the children of an image.
hashes_there : (file : List ℕ) (image : Sibling FileNode) (payload : Option (List ℕ)) (children : Nodes FileNode) →
    HasNameBytes file image → HaveNodeBytes file children →
    AllByRecursion (HasItsTexts file) (flat_map (found_in_hash image) (found_hashes image.name payload (siblings children)))
hashes_there file image payload none there have = tt
hashes_there file image payload (node name own inner later) there have =
    by (is_hash_name name) refl (hashes_there file image payload later there have.3)
  where
    this : Sibling FileNode
    this = record { name = name; own = own; children = inner; later = later }

    by : (b : Bool) → is_hash_name name ≡ b →
        AllByRecursion (HasItsTexts file) (flat_map (found_in_hash image) (found_hashes image.name payload (siblings later))) →
        AllByRecursion (HasItsTexts file)
        (flat_map (found_in_hash image) (found_hashes image.name payload (siblings (node name own inner later))))
    by true is rest =
        rw is
        (each-append (HasItsTexts file) (found_in_hash image (record { node = this; checked = file_hash image.name payload this })) _
        (hash_there file image payload this there have.0 have.1) rest)
    by false is rest = rw is rest

-- The concern about the payload of an image.
payload_there : (file : List ℕ) (image : Sibling FileNode) (payload : Option (List ℕ)) (hashes : List CheckedHash) →
    HasNameBytes file image →
    AllByRecursion (HasItsTexts file) (concerns_about (NodeItself image) (payload_concerns image.name payload hashes))
payload_there file image None hashes there = tt
payload_there file image (Some payload) hashes there = by (list_any is_good hashes) (list_any is_strong hashes)
  where
    by : (good strong : Bool) →
        AllByRecursion (HasItsTexts file)
        (concerns_about (NodeItself image) (if not good then UnhashedImage image.name ∷ [] else
        if not strong then WeakHash image.name (filter is_good hashes) ∷ [] else []))
    by false strong = (
      record { name = there; node = tt; algorithm = tt; index = refl; size = refl; kind = refl; verdict = refl; key = refl },
      tt,
    )
    by true false = (
      record { name = there; node = tt; algorithm = tt; index = refl; size = refl; kind = refl; verdict = refl; key = refl },
      tt,
    )
    by true true = tt

-- The concerns about all images.
images_there : (file : List ℕ) (nodes : Nodes FileNode) (images : List ImageModel) → HaveNodeBytes file nodes →
    AllByRecursion (HasItsTexts file) (flat_map found_in_image (hashed_images (siblings nodes) images))
images_there file none images have = tt
images_there file (node name own inner later) [] have = tt
images_there file (node name own inner later) (image ∷ images) have =
    let this : Sibling FileNode = record { name = name; own = own; children = inner; later = later } in
    let hashes = flat_map (found_in_hash this) (found_hashes name image.payload (siblings inner)) in
    each-append (HasItsTexts file) (found_in_image (hashed_image this image))
    (flat_map found_in_image (hashed_images (siblings later) images))
    (each-append (HasItsTexts file) hashes
    (concerns_about (NodeItself this) (payload_concerns name image.payload (used_found (found_hashes name image.payload (siblings inner)))))
    (hashes_there file this image.payload inner have.0 have.2) (payload_there file this image.payload _ have.0))
    (images_there file later images have.3)

-- ---- configurations

-- The concern about what a configuration lists under a key.
key_there : (file : List ℕ) (entry : Sibling FileNode) (key : Key) (listed : ListResult) → HasNameBytes file entry →
    AllByRecursion (HasItsTexts file) (concerns_about (NodeItself entry) (list_concerns entry.name key listed))
key_there file entry key NoConfig there = tt
key_there file entry key NoKey there = tt
key_there file entry key BadList there = (
  record { name = there; node = tt; algorithm = tt; index = refl; size = refl; kind = refl; verdict = refl; key = refl },
  tt,
)
key_there file entry key (Missing index) there = (
  record { name = there; node = tt; algorithm = tt; index = refl; size = refl; kind = refl; verdict = refl; key = refl },
  tt,
)
key_there file entry key (ListedImages images) there = tt

-- The concerns about all configurations.
configurations_there : (file : List ℕ) (images : List ImageModel) (entries : List (Sibling FileNode)) →
    AllByRecursion (HasNameBytes file) entries →
    AllByRecursion (HasItsTexts file) (flat_map (found_in_configuration images) entries)
configurations_there file images [] have = tt
configurations_there file images (entry ∷ later) have =
    each-append (HasItsTexts file) (found_in_configuration images entry) (flat_map (found_in_configuration images) later)
    (each_given (HasItsTexts file) (found_in_key images entry) all_keys
    (λ key. key_there file entry key (file_listed images entry key) have.0))
    (configurations_there file images later have.1)

-- The concern about the default.
default_there : (file : List ℕ) (content : FitModel) →
    HasPayloadBytes file (found_text_region (default_property content.blob)) (default_of (tree_of content)) →
    AllByRecursion (HasItsTexts file) (found_in_default content)
default_there file content there = by (names (configuration_nodes (tree_of content)))
  where
    by : (configurations : List (List ℕ)) →
        AllByRecursion (HasItsTexts file)
        (concerns_about (Default (default_property content.blob)) (default_concerns (default_of (tree_of content)) configurations))
    by [] = tt
    by (first ∷ later) = or (names_one_of (default_of (tree_of content)) (first ∷ later))
      where
        or : (named : Bool) →
            AllByRecursion (HasItsTexts file)
            (concerns_about (Default (default_property content.blob))
            (if named then [] else BadDefault (default_of (tree_of content)) ∷ []))
        or true = tt
        or false = (
          record { name = there; node = tt; algorithm = tt; index = refl; size = refl; kind = refl; verdict = refl; key = refl },
          tt,
        )

-- ---- signatures

-- The names that a concern has are in its line alone.
abbrev IsNamed : Concern → Type 0
IsNamed (Unsigned configuration) = ⊤
IsNamed (OfSignature configuration signature concern) = ⊤
IsNamed (UnitAddress names) = ⊤
IsNamed other = ⊥

named_there : (file : List ℕ) (concern : Concern) → IsNamed concern → HasItsTexts file (record { concern = concern; subject = NamedNodes })
named_there file (Unsigned configuration) is =
    record { name = tt; node = tt; algorithm = tt; index = refl; size = refl; kind = refl; verdict = refl; key = refl }
named_there file (OfSignature configuration signature concern) is =
    record { name = tt; node = tt; algorithm = tt; index = refl; size = refl; kind = refl; verdict = refl; key = refl }
named_there file (UnitAddress names) is =
    record { name = tt; node = tt; algorithm = tt; index = refl; size = refl; kind = refl; verdict = refl; key = refl }
named_there file (BadHash hash) is = absurd is
named_there file (SkippedHash image hash) is = absurd is
named_there file (UnhashedImage image) is = absurd is
named_there file (WeakHash image good) is = absurd is
named_there file (BadKey configuration key) is = absurd is
named_there file (MissingImage configuration key index) is = absurd is
named_there file (BadDefault default) is = absurd is
named_there file (TrailingBytes count) is = absurd is

all_named_there : (file : List ℕ) (concerns : List Concern) → AllByRecursion IsNamed concerns →
    AllByRecursion (HasItsTexts file) (concerns_about NamedNodes concerns)
all_named_there file [] are = tt
all_named_there file (concern ∷ later) are = (named_there file concern are.0, all_named_there file later are.1)

absence_named : (coverage : List ConfigurationCoverage) → AllByRecursion IsNamed (absence_concerns coverage)
absence_named [] = (tt, tt)
absence_named (first ∷ later) = tt

unsigned_named : (configuration : List ℕ) (signatures : List SignatureCoverage) →
    AllByRecursion IsNamed (unsigned_concerns configuration signatures)
unsigned_named configuration [] = (tt, tt)
unsigned_named configuration (first ∷ later) = tt

signature_named : (configuration signature : List ℕ) (concerns : List SignatureConcern) →
    AllByRecursion IsNamed (map (OfSignature configuration signature) concerns)
signature_named configuration signature [] = tt
signature_named configuration signature (concern ∷ later) = (tt, signature_named configuration signature later)

coverage_named : (configuration : ConfigurationCoverage) → AllByRecursion IsNamed (coverage_concerns configuration)
coverage_named configuration =
    each-append IsNamed (unsigned_concerns configuration.name configuration.signatures)
    (flat_map (signature_concerns configuration.name) configuration.signatures)
    (unsigned_named configuration.name configuration.signatures)
    (each_given IsNamed (signature_concerns configuration.name) configuration.signatures
    (λ signature. signature_named configuration.name signature.name signature.concerns))

address_named : (coverage : List ConfigurationCoverage) (paths : List (List (List ℕ))) →
    AllByRecursion IsNamed (address_concerns coverage paths)
address_named coverage paths = by (is_any_signed coverage)
  where
    each : (paths : List (List (List ℕ))) → AllByRecursion IsNamed (map UnitAddress paths)
    each [] = tt
    each (first ∷ later) = (tt, each later)

    by : (signed : Bool) → AllByRecursion IsNamed (if signed then map UnitAddress paths else [])
    by true = each paths
    by false = tt

signatures_there : (file : List ℕ) (coverage : List ConfigurationCoverage) →
    AllByRecursion (HasItsTexts file) (found_in_signatures coverage)
signatures_there file coverage =
    each-append (HasItsTexts file) (concerns_about NamedNodes (absence_concerns coverage)) (flat_map found_in_coverage coverage)
    (all_named_there file (absence_concerns coverage) (absence_named coverage))
    (each_given (HasItsTexts file) found_in_coverage coverage
    (λ configuration. all_named_there file (coverage_concerns configuration) (coverage_named configuration)))

-- ---- the rest

-- The concern about the bytes after the image.
rest_there : (file bytes : List ℕ) → AllByRecursion (HasItsTexts file) (found_in_rest bytes)
rest_there file bytes = by (list_all (λ byte. byte == 0) bytes)
  where
    by : (zeros : Bool) →
        AllByRecursion (HasItsTexts file) (concerns_about Rest (if zeros then [] else TrailingBytes (length bytes) ∷ []))
    by true = tt
    by false = (
      record { name = tt; node = tt; algorithm = tt; index = refl; size = refl; kind = refl; verdict = refl; key = refl },
      tt,
    )

-- ---- whole files

-- The children of a node with the given name have their bytes. There may be no such node.
inner_bytes : (file wanted : List ℕ) (nodes : Nodes FileNode) → HaveNodeBytes file nodes →
    HaveNodeBytes file (nodes_or_none (children_of wanted nodes))
inner_bytes file wanted nodes have = by (node_named nodes wanted) refl
  where
    by : (found : Option (Sibling FileNode)) → node_named nodes wanted ≡ found →
        HaveNodeBytes file (nodes_or_none (option_map (λ (one : Sibling FileNode). one.children) found))
    by None is = tt
    by (Some found) is = (named_bytes file wanted nodes found is have).1

-- The default is in the region of its property.
default_text : (file : List ℕ) (content : FitModel) → HaveNodeBytes file (root_of content.blob).children →
    HasPayloadBytes file (found_text_region (default_property content.blob)) (default_of (tree_of content))
default_text file content have =
    subst (HasPayloadBytes file (found_text_region (default_property content.blob))) (sym (default_is content))
    (by (node_named (root_of content.blob).children configurations_name) refl)
  where
    by : (found : Option (Sibling FileNode)) → node_named (root_of content.blob).children configurations_name ≡ found →
        HasPayloadBytes file
        (found_text_region (option_and_then (λ (one : Sibling FileNode). property_named one.own.properties default_name) found))
        (option_and_then
        (λ (one : Sibling FileNode). option_and_then text_before_nul (value_named (properties_of one.own) default_name)) found)
    by None is = tt
    by (Some found) is =
        named_text file found.own.properties default_name
        (named_bytes file configurations_name (root_of content.blob).children found is have).0

-- Each concern that is found in a file has its texts there.
each_there : (limits : Limits) (file : List ℕ) (found : List FoundConcern) → AreFound limits file found →
    AllByRecursion (HasItsTexts file) found
each_there limits file found (InLegacyImage image read same) =
    subst (AllByRecursion (HasItsTexts file)) (sym same)
    (named_there file (Unsigned None) tt, rest_there file (drop (length file - image.unused) file))
each_there limits file found (InImageTree content read same) =
    let is = read.means.is_file in
    let have : HaveNodeBytes file (root_of content.blob).children =
    subst (λ (root : Root FileNode). HaveNodeBytes file root.children) read.same_root
    (root_bytes file content.blob.cpu content.blob.reservations is.root is.blob).1 in
    let images = flat_map found_in_image (images_of_blob content) in
    let lists = flat_map (found_in_configuration content.images) (siblings (file_configurations content.blob)) in
    let signatures = found_in_signatures (coverage_of content) in
    let addresses = found_in_addresses (coverage_of content) (unit_addresses (root_of content.blob)) in
    let default = found_in_default content in
    let rest = found_in_rest (drop (end_of_read_payloads content.blob.total_size content.images) file) in
    subst (AllByRecursion (HasItsTexts file)) (sym same)
    (each-append (HasItsTexts file) images (lists ++ (signatures ++ (addresses ++ (default ++ rest))))
    (images_there file (file_images content.blob) content.images
    (inner_bytes file images_name (root_of content.blob).children have))
    (each-append (HasItsTexts file) lists (signatures ++ (addresses ++ (default ++ rest)))
    (configurations_there file content.images (siblings (file_configurations content.blob))
    (each_name file (file_configurations content.blob)
    (inner_bytes file configurations_name (root_of content.blob).children have)))
    (each-append (HasItsTexts file) signatures (addresses ++ (default ++ rest)) (signatures_there file (coverage_of content))
    (each-append (HasItsTexts file) addresses (default ++ rest)
    (all_named_there file _ (address_named (coverage_of content) (unit_addresses (root_of content.blob))))
    (each-append (HasItsTexts file) default rest (default_there file content (default_text file content have))
    (rest_there file (drop (end_of_read_payloads content.blob.total_size content.images) file)))))))

-- So does each of those that are kept.
kept_there : (file : List ℕ) (allowed : Allowed) (found : List FoundConcern) → AllByRecursion (HasItsTexts file) found →
    AllZip (IsConcernElement file) (map concern_element (kept_found allowed found)) (kept_concerns allowed (concerns_in found))
kept_there file allowed [] each = tt
kept_there file allowed (one ∷ later) each =
    by (allows allowed (kind_of one.concern)) refl (kept_there file allowed later each.1)
  where
    by : (b : Bool) → allows allowed (kind_of one.concern) ≡ b →
        AllZip (IsConcernElement file) (map concern_element (kept_found allowed later)) (kept_concerns allowed (concerns_in later)) →
        AllZip (IsConcernElement file) (map concern_element (kept_found allowed (one ∷ later)))
        (kept_concerns allowed (concerns_in (one ∷ later)))
    by true is rest = rw is rest
    by false is rest = rw is (each.0, rest)

-- The elements of the concerns about a file that are not allowed.
pub are_concern_elements : (limit depth kinds : ℕ) (file : List ℕ) (limits : Limits) (allowed : Allowed) (found : List FoundConcern)
    (elements : List ConcernElement) → HasKinds limit depth kinds → limits ≡ bounds limit depth → allowed ≡ allowed_by kinds →
    HasConcerns limits file found → elements ≡ map concern_element (kept_found allowed found) →
    AreConcernElements limit depth kinds file elements 0
are_concern_elements limit depth kinds file limits allowed found elements valid same_limits same_allowed has are =
    let are_elements = are ∙ ap (λ (a : Allowed). map concern_element (kept_found a found)) same_allowed in
    record {
      arguments = valid;
      found = found;
      has_concerns = subst (λ (l : Limits). HasConcerns l file found) same_limits has;
      are_elements = are_elements;
      are_concerns = subst
          (λ (l : List ConcernElement). AllZip (IsConcernElement file) l (kept_concerns (allowed_by kinds) (concerns_in found)))
          (sym are_elements) (kept_there file (allowed_by kinds) found (each_there limits file found has.are_found));
      no_value = refl;
    }

-- Checking a file may fail because memory runs out.
pub check_needs_memory : (limits : Limits) (file : List ℕ) (found : List FoundConcern) → HasConcerns limits file found →
    IsCheckError limits file error.OutOfMemory
check_needs_memory limits file found has = needs_memory limits file has.meaning has.means.means
