use Rattle.std.proofs.Common.{◌≡◌, ℕ, ◌+◌, Bool, true, false, List, [], ◌∷◌, ◌++◌, map, length, bytes_eq, Option, Some, None, refl, sym}
use Rattle.std.proofs.Common.{subst, arith, length-append, rules}
use Rattle.std.specs.Prelude.{⊤}
use Rattle.std.specs.List.{AllByRecursion, AllZip}
use Rattle.bi_base.specs.Cells.{cell}
use Rattle.bi_base.proofs.CellLaws.{length-cell, length-slice}
use Rattle.bi_base.proofs.ListMembers.{each-front, each-back, each-map_back}
use Rattle.bi_blob.specs.Tokens.{Token, BeginNode, EndNode, Prop, Nop, End, token_bytes, width, IsTokenAt}
use Rattle.bi_blob.specs.Tree.{Nodes, none, node, Root, FileProperty, FileNode, as_nodes}
use Rattle.bi_blob.specs.Events.{FileEvent, FileNodeStart, FileNodeProperty, FileNodeEnd, file_events, file_events_of, EncodeEvents}
use Rattle.bi_blob.specs.Blob.{Reservation, tree_blocks, IsBlob}
use Rattle.bi_blob.proofs.Blobs.Cells.{BytesAt, BytesAt-right, BytesAt-within}
use Rattle.bi_blob.proofs.Blobs.TokenEncoding.{AllStand}
use Rattle.bi_blob.proofs.Blobs.OneBlob.{HoldsTree-stand}
use Rattle.bi_blob.specs.Lookups.{property_named}
use Rattle.bi_fit.specs.Names.{data_name, images_name}
use Rattle.bi_fit.specs.ImageTree.{children_of, each_own, image_nodes}
use Rattle.bi_fit.specs.Payloads.{PayloadSource, NoSource, Data, DataOffset, DataPosition, source_of, cell_number, external_base}
use Rattle.bi_fit.specs.Payloads.{IsSizedRegion, IsPayload, HasPayload, payload_place, IsAt, IsAtPlace}
use Rattle.bi_fit.specs.Laws.{PayloadsAreAtPlaces}
use Rattle.bi_fit.proofs.Meanings.{same_in_some}
use Rattle.bi_fit.proofs.FileTrees.{source_is_data}

-- The payloads of a file are at their places.

-- The value of a property is in the file after the three cells of its token.
abbrev pub HasValue : List ℕ → FileProperty → Type 0
HasValue file property = IsAt file (property.place + 12) property.value

-- The same for an event of a tree, where it is a property.
abbrev pub HasEventValue : List ℕ → FileEvent → Type 0
HasEventValue file (FileNodeProperty property) = HasValue file property
HasEventValue file event = ⊤

-- The value of an FDT_PROP token.
token_value : (file : List ℕ) (at offset : ℕ) (value : List ℕ) → IsTokenAt file at (Prop offset value) → IsAt file (at + 12) value
token_value file at offset value is = record {
  in_file = omega (arith, BytesAt-within file at (token_bytes (Prop offset value)) (omega (arith, long)) is.is_at, long);
  is_slice = subst (λ n. BytesAt file n value) ends
      (BytesAt-right file _ (cell offset) value
      (BytesAt-right file _ (cell (length value)) (cell offset ++ value)
      (BytesAt-right file at (cell 3) (cell (length value) ++ (cell offset ++ value)) is.is_at)));
}
  where
    ends : at + length (cell 3) + length (cell (length value)) + length (cell offset) ≡ at + 12
    ends = omega (arith, length-cell 3, length-cell (length value), length-cell offset)

    long : length (token_bytes (Prop offset value)) ≡ 12 + length value
    long = omega (
      arith,
      length-append (cell 3) (cell (length value) ++ (cell offset ++ value)),
      length-append (cell (length value)) (cell offset ++ value),
      length-append (cell offset) value,
      length-cell 3,
      length-cell (length value),
      length-cell offset,
    )

-- The values of the events that tokens of a file encode.
tokens_values : (file strings : List ℕ) (at : ℕ) (tokens : List Token) (events : List FileEvent) → AllStand file at (tokens ++ End ∷ []) →
    EncodeEvents strings at tokens events → AllByRecursion (HasEventValue file) events
tokens_values file strings at [] [] are encodes = tt
tokens_values file strings at (Nop ∷ tokens) events are encodes =
    tokens_values file strings (at + width Nop) tokens events are.1 encodes
tokens_values file strings at (BeginNode token_name ∷ tokens) (FileNodeStart place name ∷ events) are encodes =
    (tt, tokens_values file strings (at + width (BeginNode token_name)) tokens events are.1 encodes.1)
tokens_values file strings at (Prop offset value ∷ tokens) (FileNodeProperty property ∷ events) are encodes = (
  subst (λ place. IsAt file (place + 12) property.value) encodes.0.place
      (subst (IsAt file (at + 12)) encodes.0.value (token_value file at offset value are.0)),
  tokens_values file strings (at + width (Prop offset value)) tokens events are.1 encodes.1,
)
tokens_values file strings at (EndNode ∷ tokens) (FileNodeEnd ∷ events) are encodes =
    (tt, tokens_values file strings (at + width EndNode) tokens events are.1 encodes)
tokens_values file strings at tokens events are encodes = absurd encodes

-- The values of the properties of nodes.
abbrev pub HaveValues : List ℕ → Nodes FileNode → Type 0
HaveValues file none = ⊤
HaveValues file (node name own children later) =
    AllByRecursion (HasValue file) own.properties × HaveValues file children × HaveValues file later

-- Nodes have the values of their events.
nodes_values : (file : List ℕ) (nodes : Nodes FileNode) → AllByRecursion (HasEventValue file) (file_events nodes) → HaveValues file nodes
nodes_values file none each = tt
nodes_values file (node name own children later) each =
    let below = each-back (HasEventValue file) (map FileNodeProperty own.properties)
    (file_events children ++ (FileNodeEnd ∷ file_events later)) each.1 in (
      each-map_back (HasEventValue file) FileNodeProperty own.properties
          (each-front (HasEventValue file) (map FileNodeProperty own.properties)
          (file_events children ++ (FileNodeEnd ∷ file_events later)) each.1),
      nodes_values file children (each-front (HasEventValue file) (file_events children) (FileNodeEnd ∷ file_events later) below),
      nodes_values file later (each-back (HasEventValue file) (file_events children) (FileNodeEnd ∷ file_events later) below).1,
    )

-- The nodes that are found by a name have them.
found_values : (file wanted : List ℕ) (nodes inner : Nodes FileNode) → children_of wanted nodes ≡ Some inner → HaveValues file nodes →
    HaveValues file inner
found_values file wanted none inner has have = absurd cc
found_values file wanted (node name own children later) inner has have =
    where_first (bytes_eq name wanted) refl has (λ has. found_values file wanted later inner has have.2)
  where
    where_first : (b : Bool) → bytes_eq name wanted ≡ b → children_of wanted (node name own children later) ≡ Some inner →
        (children_of wanted later ≡ Some inner → HaveValues file inner) → HaveValues file inner
    where_first true is has rest =
        let found : children ≡ inner = same_in_some children inner (rw is at has) in
        subst (HaveValues file) found have.1
    where_first false is has rest = rest (rw is at has)

-- A property that is found by its name has its value.
pub named_value : (file name : List ℕ) (properties : List FileProperty) (property : FileProperty) →
    AllByRecursion (HasValue file) properties → property_named properties name ≡ Some property → HasValue file property
named_value file name [] property have found = absurd cc
named_value file name (first ∷ later) property have found = search (rules, same_in_some, named_value file name later property have.1)

-- A region is where its properties name it.
region_place : (file : List ℕ) (base : ℕ) (begin : FileProperty) (size : Option FileProperty) (payload : Option (List ℕ)) →
    IsSizedRegion file base begin size payload → IsAtPlace file (Some (base + cell_number begin)) payload
region_place file base begin None payload is = absurd is
region_place file base begin (Some size) payload is = search (rules, length-slice)

-- The payload of a source is at its place.
source_place : (file : List ℕ) (source : PayloadSource) (payload : Option (List ℕ)) →
    ((property : FileProperty) → source ≡ Data property → HasValue file property) → IsPayload file source payload →
    IsAtPlace file (payload_place file source) payload
source_place file NoSource payload has_value is = subst (IsAtPlace file None) (sym is) tt
source_place file (Data property) payload has_value is =
    subst (IsAtPlace file (Some (property.place + 12))) (sym is) (has_value property refl)
source_place file (DataOffset offset size) payload has_value is = region_place file (external_base file) offset size payload is
source_place file (DataPosition position size) payload has_value is = search (rules, region_place)

-- So are those of image nodes.
pub images_places : (file : List ℕ) (nodes : Nodes FileNode) (payloads : List (Option (List ℕ))) → HaveValues file nodes →
    AllZip (HasPayload file) (each_own nodes) payloads →
    AllZip (λ own payload. IsAtPlace file (payload_place file (source_of own)) payload) (each_own nodes) payloads
images_places file none [] have has = tt
images_places file none (payload ∷ payloads) have has = absurd has
images_places file (node name own children later) [] have has = absurd has
images_places file (node name own children later) (payload ∷ payloads) have has = (
  source_place file (source_of own) payload
      (λ property is. named_value file data_name own.properties property have.0 (source_is_data _ _ _ _ property is)) has.0,
  images_places file later payloads have.2 has.1,
)

-- The image nodes of a blob have the values of their properties in the file.
pub image_values : (file : List ℕ) (cpu : ℕ) (reservations : List Reservation) (root : Root FileNode) (images : Nodes FileNode) →
    IsBlob file cpu reservations root → image_nodes root ≡ Some images → HaveValues file images
image_values file cpu reservations root images blob has =
    let values = tokens_values file (tree_blocks file).strings (tree_blocks file).begin blob.holds.tokens (file_events_of root)
    (HoldsTree-stand (tree_blocks file) root blob.holds) blob.holds.encodes in
    let have = nodes_values file (as_nodes root) values in
    found_values file images_name root.children images has have.1

pub payloads_are_at_places : PayloadsAreAtPlaces
payloads_are_at_places file tree is =
    images_places file is.images tree.payloads
    (image_values file tree.cpu tree.reservations is.root is.images is.blob is.has_images) is.payloads
