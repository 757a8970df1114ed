use Rattle.std.specs.Prelude.{ℕ, Bool, List, [], ◌∷◌, ◌++◌, Option, codes, filter, flat_map, length}
use Rattle.std.specs.Prelude.{map, is_some, option_map, if◌then◌else◌}
use Rattle.std.specs.Fmt.{decimal}
use Rattle.std.specs.List.{list_any}
use Rattle.bi_blob.specs.Blob.{Reservation}
use Rattle.bi_blob.specs.Lookups.{Sibling, siblings, value_named}
use Rattle.bi_blob.specs.Tree.{FileNode, Root, properties_of}
use Rattle.bi_fit.specs.declared.key.Key.{Key}
use Rattle.bi_coverage.specs.Coverage.{SignatureConcern}
use Rattle.bi_coverage.specs.Signatures.{has_bytes}
use Rattle.bi_coverage.specs.Values.{meaning_of_sibling}
use Rattle.bi_fit.specs.HashNodes.{file_signatures}
use Rattle.bi_fit.specs.ImageTree.{ImageTree, children_of, image_nodes, nodes_or_none}
use Rattle.bi_fit.specs.Judgement.{default_of}
use Rattle.bi_fit.specs.Names.{all_keys, configurations_name, images_name, key_name, timestamp_name}
use Rattle.bi_fit.specs.Names.{value_name}
use Rattle.bi_fit.specs.Payloads.{source_of, payload_place}
use Rattle.bi_common.specs.HashedImages.{found_hashes}
use Rattle.bi_common.specs.Shown.{path}
use Rattle.bi_common.specs.Shown.{hexadecimal_64}
use Rattle.bi_common.specs.Shown.{shown_or_none}
use Rattle.bi_common.specs.Shown.{shown_text}
use Rattle.bi_report.specs.SignedTrees.{signature_coverage_in}
use Rattle.bi_show.specs.declared.show.cells.CellForm.{CellForm}
use Rattle.bi_show.specs.declared.show.cells.CellForm.TheVariants.{Value, Address, Names}
use Rattle.bi_show.specs.declared.show.layout.LayoutRegion.{LayoutRegion}
use Rattle.bi_show.specs.Layouts.{blob_regions, payload_regions}
use Rattle.bi_show.specs.PageCells.{hashes_cell, number_cell, property_cell, size_cell}
use Rattle.bi_show.specs.Pages.{Table}

-- The page of a FIT (profile of this project).

-- The value of a property of a node, if it is there.
abbrev pub value_in : FileNode → (name : List ℕ) → Option (List ℕ)
value_in own name = value_named (properties_of own) name

-- The time of creation of a tree with this root.
abbrev pub timestamp_in : Root FileNode → Option (List ℕ)
timestamp_in root = value_in root.own timestamp_name

-- The first table: what the root says, the size of the file, and the default configuration. The
-- cell of the time is given.
abbrev pub fit_head : (file : List ℕ) → Root FileNode → ImageTree → (time : List ℕ) → Table
fit_head file root tree time =
    (codes "kind" ∷ codes "flattened image tree" ∷ [])
    ∷ (
    codes "description" ∷ property_cell Value (value_in root.own (codes "description")) ∷ []
    )
    ∷ (codes "date" ∷ time ∷ [])
    ∷ (codes "size" ∷ size_cell (length file) ∷ [])
    ∷ (codes "boot processor" ∷ decimal tree.cpu ∷ [])
    ∷ (codes "default" ∷ shown_or_none (default_of tree) ∷ []) ∷ []

-- The row of a memory reservation.
abbrev pub reservation_row : Reservation → List (List ℕ)
reservation_row reservation =
    hexadecimal_64 reservation.address ∷ hexadecimal_64 reservation.size ∷ []

-- The table of the memory reservations.
abbrev pub reservations_table : List Reservation → Table
reservations_table reservations =
    (codes "reservation" ∷ codes "size" ∷ []) ∷ map reservation_row reservations

-- ---- images

-- The cell of a property of an image node.
abbrev pub image_cell : CellForm → Sibling FileNode → (name : List ℕ) → List ℕ
image_cell form entry name = property_cell form (value_in entry.own name)

-- The row of an image node. Its payload, if it has one, is at this offset.
abbrev pub image_row : Sibling FileNode → (payload : Option (List ℕ)) → (offset : Option ℕ)
    → List (List ℕ)
image_row entry payload offset =
    shown_text entry.name
    ∷ image_cell Value entry (codes "type")
    ∷ image_cell Value entry (codes "os")
    ∷ image_cell Value entry (codes "arch")
    ∷ image_cell Value entry (codes "compression")
    ∷ number_cell (option_map length payload)
    ∷ number_cell offset
    ∷ image_cell Address entry (codes "load")
    ∷ image_cell Address entry (codes "entry")
    ∷ hashes_cell (found_hashes entry.name payload (siblings entry.children)) ∷ []

-- The rows of image nodes, with these payloads.
abbrev pub image_rows : (file : List ℕ) → List (Sibling FileNode) → List (Option (List ℕ)) → Table
image_rows file (entry ∷ entries) (payload ∷ payloads) =
    image_row entry payload (payload_place file (source_of entry.own))
    ∷ image_rows file entries payloads
image_rows file entries payloads = []

-- The first row of the table of images.
abbrev pub image_heading : List (List ℕ)
image_heading =
    codes "image" ∷ codes "type" ∷ codes "os" ∷ codes "arch" ∷ codes "compression" ∷ codes "size"
    ∷ codes "offset" ∷ codes "load" ∷ codes "entry" ∷ codes "hashes" ∷ []

-- ---- configurations

-- Whether a configuration node has a key.
abbrev pub has_key : Key → Sibling FileNode → Bool
has_key key entry = is_some (value_in entry.own (key_name key))

-- The keys that at least one of these configuration nodes has.
abbrev pub used_keys : List (Sibling FileNode) → List Key
used_keys entries = filter (λ key. list_any (has_key key) entries) all_keys

-- The row of a configuration node: what it lists under these keys, and what it is compatible with.
abbrev pub configuration_row : List Key → Sibling FileNode → List (List ℕ)
configuration_row keys entry =
    shown_text entry.name
    ∷ (map (λ key. property_cell Names (value_in entry.own (key_name key))) keys
    ++ property_cell Value (value_in entry.own (codes "compatible")) ∷ [])

-- The first row of the table of configurations.
abbrev pub configuration_heading : List Key → List (List ℕ)
configuration_heading keys =
    codes "configuration" ∷ (map key_name keys ++ codes "compatible" ∷ [])

-- The table of the configuration nodes.
abbrev pub configurations_table : List (Sibling FileNode) → Table
configurations_table entries =
    configuration_heading (used_keys entries)
    ∷ map (configuration_row (used_keys entries)) entries

-- ---- signatures

-- Whether a signature node has a signature: its value is not empty.
abbrev pub has_signature : Sibling FileNode → Bool
has_signature signature = has_bytes (value_in signature.own value_name)

-- The row of a signature node, which covers this. Its parent is a child of `/images` or
-- `/configurations`. No signature is verified.
abbrev pub signature_row : (parent name covers : List ℕ) → Sibling FileNode → List (List ℕ)
signature_row parent name covers signature =
    path (parent ∷ name ∷ signature.name ∷ [])
    ∷ property_cell Value (value_in signature.own (codes "algo"))
    ∷ property_cell Value (value_in signature.own (codes "key-name-hint"))
    ∷ codes "not verified" ∷ covers ∷ []

-- The cell of what a signature node covers that has no signature.
abbrev pub nothing_cell : List ℕ
nothing_cell = codes "nothing"

-- The cell of what a signature node of an image covers, if it is valid.
abbrev pub payload_cell : Sibling FileNode → List ℕ
payload_cell signature = if has_signature signature then codes "payload" else nothing_cell

-- The row of a signature node of an image.
abbrev pub image_signature_row : (image signature : Sibling FileNode) → List (List ℕ)
image_signature_row image signature =
    signature_row images_name image.name (payload_cell signature) signature

-- The cell of what a signed node of a configuration covers, if it is valid and there are these
-- concerns about it.
abbrev pub concerns_cell : List SignatureConcern → List ℕ
concerns_cell [] = codes "whole configuration"
concerns_cell (first ∷ later) = codes "not the whole configuration"

-- The cell of what a signature node of a configuration of a file covers. The blob of the file has
-- this root, and it means this tree.
abbrev pub configuration_cell : (file : List ℕ) → Root FileNode → ImageTree
    → (configuration signature : Sibling FileNode) → List ℕ
configuration_cell file root tree configuration signature =
    if has_signature signature
    then concerns_cell (signature_coverage_in file root tree (meaning_of_sibling configuration)
    (meaning_of_sibling signature)).concerns
    else nothing_cell

-- The row of such a signature node.
abbrev pub configuration_signature_row : (file : List ℕ) → Root FileNode → ImageTree
    → (configuration signature : Sibling FileNode) → List (List ℕ)
configuration_signature_row file root tree configuration signature =
    signature_row configurations_name configuration.name
    (configuration_cell file root tree configuration signature)
    signature

-- The table of all signature nodes of a file with these image nodes and configuration nodes.
abbrev pub signatures_table : (file : List ℕ) → Root FileNode → ImageTree
    → (images configurations : List (Sibling FileNode)) → Table
signatures_table file root tree images configurations =
    (codes "signature" ∷ codes "algorithm" ∷ codes "key" ∷ codes "verdict" ∷ codes "covers" ∷ [])
    ∷ (flat_map (λ entry. map (image_signature_row entry) (file_signatures entry)) images
    ++ flat_map
    (λ entry. map (configuration_signature_row file root tree entry) (file_signatures entry))
    configurations)

-- ---- all tables

-- The image nodes and the configuration nodes of a tree.
abbrev pub images_below : Root FileNode → List (Sibling FileNode)
images_below root = siblings (nodes_or_none (image_nodes root))

abbrev pub configurations_below : Root FileNode → List (Sibling FileNode)
configurations_below root =
    siblings (nodes_or_none (children_of configurations_name root.children))

-- The regions of the file of a tree.
abbrev pub fit_regions : (file : List ℕ) → Root FileNode → ImageTree → List LayoutRegion
fit_regions file root tree =
    blob_regions file tree.reservations
    ++ payload_regions file 0 (images_below root) tree.payloads

-- The tables of a FIT. The table of its regions is given.
abbrev pub fit_tables : (file : List ℕ) → Root FileNode → ImageTree → (time : List ℕ)
    → (regions : Table) → List Table
fit_tables file root tree time regions =
    fit_head file root tree time
    ∷ reservations_table tree.reservations
    ∷ (image_heading ∷ image_rows file (images_below root) tree.payloads)
    ∷ configurations_table (configurations_below root)
    ∷ signatures_table file root tree (images_below root) (configurations_below root)
    ∷ regions ∷ []
