use Rattle.std.proofs.Common.{◌≡◌, ℕ, ◌+◌, ◌^◌, ◌<◌, ◌==◌, Bool, true, false, cond, List, [], ◌∷◌, ◌++◌, map, bytes_eq, codes, refl}
use Rattle.std.proofs.Common.{sym, ap, subst, ◌∙◌, Option, Some, None}
use Rattle.std.specs.Prelude.{⊤, IfSome, IsAscii, nat_eq, option_and_then}
use Rattle.std.specs.Option.{option_map}
use Rattle.std.specs.FinMap.{get, from_entries}
use Rattle.std.specs.List.{AllByRecursion, flat_map, ends_with, list_all}
use Rattle.bi_base.specs.Cells.{AreBytes}
use Rattle.bi_base.specs.Limits.{Limits}
use Rattle.bi_base.specs.Strings.{text_before_nul}
use Rattle.bi_base.proofs.ByteLists.{AreBytes-none, AreBytes-cons, AreBytes-left, AreBytes-right}
use Rattle.bi_base.proofs.ListMembers.{each-append}
use Rattle.bi_base.proofs.NulTexts.{text_then_zero}
use Rattle.bi_blob.specs.Lookups.{Sibling, node_named}
use Rattle.bi_blob.specs.Tree.{Nodes, none, node, FileNode, Property, PropertyMap, AreNodes, names, with_each, properties_of}
use Rattle.bi_blob.proofs.Blobs.Lookups.{names-with_each}
use Rattle.bi_fit.specs.declared.key.Key.{Key}
use Rattle.bi_fit.specs.declared.key.Key.TheVariants.{Kernel, Fdt, Ramdisk, Firmware, Loadables, Script}
use Rattle.bi_fit.specs.File.{IsFitFile}
use Rattle.bi_fit.specs.ImageTree.{ImageTree, ArePropertiesByName, HaveByteNames, IsImageTree, image_nodes, children_of, nodes_or_none}
use Rattle.bi_fit.specs.ImageTree.{without_payloads}
use Rattle.bi_fit.specs.Judgement.{Image, ListResult, NoConfig, NoKey, BadList, Missing, ListedImages, ListedImage, with_byte, listed_names}
use Rattle.bi_fit.specs.Judgement.{image_named, listed_from, list_images, listed_in, listed_at, listed_under, listed_of, images_of}
use Rattle.bi_fit.specs.Judgement.{configuration_nodes, default_of}
use Rattle.bi_fit.specs.Names.{images_name, configurations_name, default_name, key_name, all_keys}
use Rattle.bi_fit.specs.Payloads.{PayloadSource, NoSource, Data, DataOffset, DataPosition, source_of}
use Rattle.bi_fit.proofs.Meanings.{same_in_some}
use Rattle.bi_fit.proofs.TextLaws.{file_means_image_tree}
use Rattle.bi_fit.proofs.Trees.{children_of-with_each, children_of-with_children_of}
use Rattle.bi_fit.proofs.TreeShapes.{AreNodes-children_of, bytes-children_of, names-without_payloads}
use Rattle.bi_legacy.specs.PlacedParts.{PartModel, placed_parts}
use Rattle.bi_legacy.specs.Reading.{LegacyModel}
use Rattle.bi_legacy.proofs.ImageOfFile.{image_of_file}
use Rattle.bi_common.specs.declared.format.Format.{Format}
use Rattle.bi_common.specs.declared.format.Format.TheVariants.{Lines, Json}
use Rattle.bi_common.specs.Json.{Json as JsonTree}
use Rattle.bi_common.specs.Lines.{Line, Text, Name, Decimal}
use Rattle.bi_common.specs.ValueTexts.{is_printable}
use Rattle.bi_common.proofs.PrintedTexts.{json_lines_are_ascii}
use Rattle.bi_common.proofs.PrintedWords.{CanPrintLine, CanPrintLines, header_can, line_texts_are_ascii, reservations_can}
use Rattle.bi_report.specs.FitListing.{configuration_entry, configuration_lines, default_lines, fit_entries, fit_listing}
use Rattle.bi_report.specs.FitListing.{fit_listing_object, listed_image_entries, image_line}
use Rattle.bi_report.specs.FitListing.{key_lines, payload_entry, listed_payload_words, source_word}
use Rattle.bi_report.specs.ListedFiles.{IsListing, OfLegacyImage, OfImageTree, text_in}
use Rattle.bi_report.specs.Listing.{legacy_listing, legacy_listing_object, listed_part_lines, parts_lines}

-- A listing is ASCII: the names that it shows are bytes.

-- The names of nodes.
pub node_names_bytes : {Own : Type 0} (nodes : Nodes Own) → HaveByteNames nodes → AllByRecursion AreBytes (names nodes)
node_names_bytes none bytes = tt
node_names_bytes (node name own children later) bytes = (bytes.0, node_names_bytes later bytes.2)

-- The names of the image nodes of a file are bytes.
pub image_names : (file : List ℕ) (tree : ImageTree) (is : IsFitFile file tree) → AllByRecursion AreBytes (names is.images)
image_names file tree is =
    subst (AllByRecursion AreBytes)
    (names-without_payloads by_name ∙ (names-with_each from_entries plain ∙ names-with_each properties_of is.images))
    (node_names_bytes (without_payloads by_name)
    (bytes-children_of images_name tree.root.children (without_payloads by_name) found (file_means_image_tree file tree is).name_bytes))
  where
    plain : Nodes (List Property)
    plain = with_each properties_of is.images

    by_name : Nodes PropertyMap
    by_name = with_each from_entries plain

    found : children_of images_name tree.root.children ≡ Some (without_payloads by_name)
    found =
        ap image_nodes is.is_root
        ∙ children_of-with_children_of images_name without_payloads
        (with_each from_entries (with_each properties_of is.root.children)) by_name
        (children_of-with_each from_entries images_name (with_each properties_of is.root.children)
        ∙ ap (option_map (with_each from_entries))
        (children_of-with_each properties_of images_name is.root.children ∙ ap (option_map (with_each properties_of)) is.has_images))

-- The names that a value lists are bytes.
with_byte_bytes : (byte : ℕ) → byte < 2 ^ 8 → (listed : List (List ℕ)) → AllByRecursion AreBytes listed →
    AllByRecursion AreBytes (with_byte byte listed)
with_byte_bytes byte small [] are = tt
with_byte_bytes byte small (name ∷ later) are = (AreBytes-cons byte name small are.0, are.1)

pub listed_bytes : (value : List ℕ) → AreBytes value → AllByRecursion AreBytes (listed_names value)
listed_bytes [] bytes = tt
listed_bytes (byte ∷ later) bytes = by (byte == 0) (listed_bytes later (AreBytes-right (byte ∷ []) later bytes))
  where
    by : (b : Bool) → AllByRecursion AreBytes (listed_names later) →
        AllByRecursion AreBytes (cond b ([] ∷ listed_names later) (with_byte byte (listed_names later)))
    by true rest = (AreBytes-none, rest)
    by false rest = with_byte_bytes byte (bytes.each 0) (listed_names later) rest

-- The names of what a configuration lists are bytes.
abbrev pub IsByteList : ListResult → Type 0
IsByteList (ListedImages images) = AllByRecursion (λ (image : ListedImage). AreBytes image.name) images
IsByteList refusal = ⊤

found_bytes : (index : ℕ) (name : List ℕ) (found : Option Image) (later : ListResult) → AreBytes name → IsByteList later →
    IsByteList (listed_from index name found later)
found_bytes index name None later bytes rest = tt
found_bytes index name (Some image) NoConfig bytes rest = tt
found_bytes index name (Some image) NoKey bytes rest = tt
found_bytes index name (Some image) BadList bytes rest = tt
found_bytes index name (Some image) (Missing missing) bytes rest = tt
found_bytes index name (Some image) (ListedImages images) bytes rest = (bytes, rest)

list_bytes : (images : List Image) (index : ℕ) (listed : List (List ℕ)) → AllByRecursion AreBytes listed →
    IsByteList (list_images images index listed)
list_bytes images index [] bytes = tt
list_bytes images index (name ∷ later) bytes =
    found_bytes index name (image_named name images) (list_images images (index + 1) later) bytes.0
    (list_bytes images (index + 1) later bytes.1)

value_bytes : (images : List Image) (value : List ℕ) → AreBytes value → IsByteList (listed_in images value)
value_bytes images value bytes = by (ends_with nat_eq value (0 ∷ []))
  where
    by : (b : Bool) → IsByteList (cond b (list_images images 0 (listed_names value)) BadList)
    by true = list_bytes images 0 (listed_names value) (listed_bytes value bytes)
    by false = tt

key_bytes : (images : List Image) (own : PropertyMap) (name : List ℕ) → ArePropertiesByName own →
    IsByteList (listed_at images (get own name))
key_bytes images own name are = by (get own name) refl
  where
    by : (o : Option (List ℕ)) → get own name ≡ o → IsByteList (listed_at images o)
    by None there = tt
    by (Some value) there = value_bytes images value (are name value there).value_bytes

-- The properties of a node that is found by its name.
named_own : (wanted : List ℕ) (nodes : Nodes PropertyMap) (found : Sibling PropertyMap) → AreNodes ArePropertiesByName nodes →
    node_named nodes wanted ≡ Some found → ArePropertiesByName found.own
named_own wanted none found are is = absurd cc
named_own wanted (node name own children later) found are is =
    where_first (bytes_eq name wanted) refl is (named_own wanted later found are.2)
  where
    where_first : (b : Bool) → bytes_eq name wanted ≡ b → node_named (node name own children later) wanted ≡ Some found
        → (node_named later wanted ≡ Some found → ArePropertiesByName found.own) → ArePropertiesByName found.own
    where_first true at_name is rest =
        let first : Sibling PropertyMap = record { name = name; own = own; children = children; later = later } in
        let same : first ≡ found = same_in_some first found (rw at_name at is) in
        subst (λ (sibling : Sibling PropertyMap). ArePropertiesByName sibling.own) same are.0.is_own
    where_first false at_name is rest = rest (rw at_name at is)

-- The configurations of a tree.
pub configurations_are_nodes : (tree : ImageTree) → IsImageTree tree →
    AreNodes ArePropertiesByName (configuration_nodes tree) × HaveByteNames (configuration_nodes tree)
configurations_are_nodes tree is = by (children_of configurations_name tree.root.children) refl
  where
    by : (o : Option (Nodes PropertyMap)) → children_of configurations_name tree.root.children ≡ o →
        AreNodes ArePropertiesByName (nodes_or_none o) × HaveByteNames (nodes_or_none o)
    by None found = (tt, tt)
    by (Some inner) found = (
      AreNodes-children_of ArePropertiesByName configurations_name tree.root.children inner found is.is_tree.children,
      bytes-children_of configurations_name tree.root.children inner found is.name_bytes,
    )

pub listed_of_bytes : (tree : ImageTree) → IsImageTree tree → (name : List ℕ) (key : Key) → IsByteList (listed_of tree name key)
listed_of_bytes tree is name key = by (node_named (configuration_nodes tree) name) refl
  where
    by : (o : Option (Sibling PropertyMap)) → node_named (configuration_nodes tree) name ≡ o →
        IsByteList (listed_under (images_of tree) o key)
    by None found = tt
    by (Some configuration) found =
        key_bytes (images_of tree) configuration.own (key_name key)
        (named_own name (configuration_nodes tree) configuration (configurations_are_nodes tree is).0 found)

-- The name of the default configuration.
pub before_nul_bytes : (value : List ℕ) → AreBytes value → IfSome (text_before_nul value) AreBytes
before_nul_bytes value bytes = by (text_before_nul value) refl
  where
    by : (o : Option (List ℕ)) → text_before_nul value ≡ o → IfSome o AreBytes
    by None is = tt
    by (Some name) is =
        let split = text_then_zero value name is in
        AreBytes-left name (0 ∷ split.0) (subst AreBytes split.1 bytes)

pub default_bytes : (tree : ImageTree) → IsImageTree tree → IfSome (default_of tree) AreBytes
default_bytes tree is = by (node_named tree.root.children configurations_name) refl
  where
    in_node : (own : PropertyMap) → ArePropertiesByName own → (o : Option (List ℕ)) → get own default_name ≡ o →
        IfSome (option_and_then text_before_nul o) AreBytes
    in_node own are None there = tt
    in_node own are (Some value) there = before_nul_bytes value (are default_name value there).value_bytes

    by : (o : Option (Sibling PropertyMap)) → node_named tree.root.children configurations_name ≡ o →
        IfSome
        (option_and_then
        (λ (configurations : Sibling PropertyMap). option_and_then text_before_nul (get configurations.own default_name)) o) AreBytes
    by None found = tt
    by (Some configurations) found =
        in_node configurations.own (named_own configurations_name tree.root.children configurations is.is_tree.children found)
        (get configurations.own default_name) refl

-- ---- lines

pub key_word : (key : Key) → list_all is_printable (key_name key) ≡ true
key_word Kernel = refl
key_word Fdt = refl
key_word Ramdisk = refl
key_word Firmware = refl
key_word Loadables = refl
key_word Script = refl

source_can : (payload_source : PayloadSource) → list_all is_printable (source_word payload_source) ≡ true
source_can NoSource = refl
source_can (Data data_property) = refl
source_can (DataOffset offset size) = refl
source_can (DataPosition position size) = refl

payload_can : (file : List ℕ) (payload_source : PayloadSource) (payload : Option (List ℕ)) →
    CanPrintLine (listed_payload_words (option_map (payload_entry file payload_source) payload))
payload_can file payload_source None = (refl, tt)
payload_can file payload_source (Some payload) = (refl, (tt, (source_can payload_source, (refl, (tt, tt)))))

images_can : (file : List ℕ) (nodes : Nodes FileNode) (payloads : List (Option (List ℕ))) → AllByRecursion AreBytes (names nodes) →
    CanPrintLines (map image_line (listed_image_entries file nodes payloads))
images_can file none payloads bytes = tt
images_can file (node name own children later) [] bytes = tt
images_can file (node name own children later) (payload ∷ payloads) bytes =
    ((refl, (bytes.0, payload_can file (source_of own) payload)), images_can file later payloads bytes.1)

names_can : (images : List ListedImage) → AllByRecursion (λ (image : ListedImage). AreBytes image.name) images →
    CanPrintLine (map Name (map (λ (image : ListedImage). image.name) images))
names_can [] bytes = tt
names_can (image ∷ later) bytes = (bytes.0, names_can later bytes.1)

key_can : (configuration : List ℕ) (key : Key) (result : ListResult) → AreBytes configuration → IsByteList result →
    CanPrintLines (key_lines configuration key result)
key_can configuration key NoConfig bytes are = tt
key_can configuration key NoKey bytes are = tt
key_can configuration key BadList bytes are = ((refl, (bytes, (key_word key, (refl, tt)))), tt)
key_can configuration key (Missing index) bytes are = ((refl, (bytes, (key_word key, (refl, (tt, tt))))), tt)
key_can configuration key (ListedImages images) bytes are = ((refl, (bytes, (key_word key, (refl, names_can images are)))), tt)

configuration_can : (tree : ImageTree) → IsImageTree tree → (configuration : List ℕ) → AreBytes configuration →
    CanPrintLines (configuration_lines (configuration_entry tree configuration))
configuration_can tree is configuration bytes = ((refl, (bytes, tt)), of_keys all_keys)
  where
    of_keys : (keys : List Key) → CanPrintLines
        (flat_map (λ (key : Key × ListResult). key_lines configuration key.0 key.1)
        (map (λ key. (key, listed_of tree configuration key)) keys))
    of_keys [] = tt
    of_keys (key ∷ later) =
        each-append CanPrintLine (key_lines configuration key (listed_of tree configuration key)) _
        (key_can configuration key (listed_of tree configuration key) bytes (listed_of_bytes tree is configuration key)) (of_keys later)

configurations_can : (tree : ImageTree) → IsImageTree tree → (configurations : List (List ℕ)) → AllByRecursion AreBytes configurations →
    CanPrintLines (flat_map configuration_lines (map (configuration_entry tree) configurations))
configurations_can tree is [] bytes = tt
configurations_can tree is (configuration ∷ later) bytes =
    each-append CanPrintLine (configuration_lines (configuration_entry tree configuration)) _
    (configuration_can tree is configuration bytes.0) (configurations_can tree is later bytes.1)

default_can : (name : Option (List ℕ)) → IfSome name AreBytes → CanPrintLines (default_lines name)
default_can None bytes = tt
default_can (Some name) bytes = ((refl, (bytes, tt)), tt)

fit_can : (file : List ℕ) (tree : ImageTree) (is : IsFitFile file tree) → CanPrintLines (fit_listing (fit_entries file is.images tree))
fit_can file tree is =
    let good = file_means_image_tree file tree is in (
      (refl, (refl, tt)),
      (
        (refl, (tt, tt)),
        (
          (refl, (tt, tt)),
          reservations_can tree.reservations _
              (each-append CanPrintLine (map image_line (listed_image_entries file is.images tree.payloads)) _
              (images_can file is.images tree.payloads (image_names file tree is))
              (each-append CanPrintLine (flat_map configuration_lines (map (configuration_entry tree) (names (configuration_nodes tree)))) _
              (configurations_can tree good (names (configuration_nodes tree))
              (node_names_bytes (configuration_nodes tree) (configurations_are_nodes tree good).1))
              (default_can (default_of tree) (default_bytes tree good)))),
        ),
      ),
    )

parts_can : (index : ℕ) (parts : List PartModel) (later : List Line) → CanPrintLines later →
    CanPrintLines (listed_part_lines index parts ++ later)
parts_can index [] later can = can
parts_can index (part ∷ parts) later can = ((refl, (tt, (refl, (tt, (refl, (tt, tt)))))), parts_can (index + 1) parts later can)

legacy_can : (parsed : LegacyModel) → AreBytes parsed.image.name → CanPrintLines (legacy_listing parsed)
legacy_can parsed bytes =
    header_can parsed.image bytes (parts_lines parsed.image ++ unused ∷ [])
    ((refl, (tt, tt)), parts_can 0 (placed_parts parsed.image) (unused ∷ []) ((refl, (tt, tt)), tt))
  where
    unused : Line
    unused = Text (codes "unused") ∷ Decimal parsed.unused ∷ []

-- ---- listings

text_ascii : (format : Format) (lines : List Line) (value : JsonTree) → CanPrintLines lines → IsAscii (text_in format lines value)
text_ascii Lines lines value can = line_texts_are_ascii lines can
text_ascii Json lines value can = json_lines_are_ascii value

-- A listing is ASCII, in any form.
pub listing_is_ascii : (format : Format) (limits : Limits) (file text : List ℕ) → IsListing format limits file text → IsAscii text
listing_is_ascii format limits file text (OfLegacyImage parsed is same) =
    subst IsAscii (sym same)
    (text_ascii format (legacy_listing parsed) (legacy_listing_object parsed)
    (legacy_can parsed (image_of_file file parsed.image is.means.is_file).name_bytes))
listing_is_ascii format limits file text (OfImageTree is) =
    let entries = fit_entries file is.means.is_file.images is.tree in
    subst IsAscii (sym is.is) (text_ascii format (fit_listing entries) (fit_listing_object entries) (fit_can file is.tree is.means.is_file))
