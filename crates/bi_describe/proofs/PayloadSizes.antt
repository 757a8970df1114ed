use Rattle.std.proofs.Common.{◌≡◌, ℕ, ◌+◌, ◌<◌, ◌^◌, Bool, true, false, List, [], ◌∷◌, ◌++◌, map, length, bytes_eq, Option, rules}
use Rattle.std.proofs.Common.{Some, None, refl, sym, ap, subst, ◌∙◌, arith}
use Rattle.std.specs.Prelude.{⊤, IfSome}
use Rattle.std.specs.List.{AllByRecursion, AllZip}
use Rattle.std.proofs.lemmas.List.{length-take}
use Rattle.bi_base.specs.Cells.{u32_at, AreBytes}
use Rattle.bi_base.proofs.CellLaws.{u32_at-fits}
use Rattle.bi_base.proofs.ListMembers.{each-front, each-back, each-map_back}
use Rattle.bi_blob.specs.Tokens.{Token, BeginNode, EndNode, Prop, Nop, End, width}
use Rattle.bi_blob.specs.Tree.{Nodes, none, node, FileProperty, FileNode, as_nodes}
use Rattle.bi_blob.specs.Events.{FileEvent, FileNodeStart, FileNodeProperty, FileNodeEnd, file_events, file_events_of, EncodeEvents}
use Rattle.bi_blob.specs.Blob.{tree_blocks}
use Rattle.bi_blob.specs.Lookups.{property_named}
use Rattle.bi_blob.proofs.Blobs.TokenEncoding.{AllStand}
use Rattle.bi_blob.proofs.Blobs.OneBlob.{HoldsTree-stand}
use Rattle.bi_fit.specs.Names.{data_name, data_size_name, images_name}
use Rattle.bi_fit.specs.ImageTree.{ImageTree, children_of, each_own}
use Rattle.bi_fit.specs.Payloads.{PayloadSource, NoSource, Data, DataOffset, DataPosition, first_source, source_of, cell_number}
use Rattle.bi_fit.specs.Payloads.{external_base, IsSizedRegion, IsPayload, HasPayload}
use Rattle.bi_fit.specs.File.{IsFitFile}
use Rattle.bi_fit.proofs.Meanings.{same_in_some}
use Rattle.bi_fit.proofs.FileTrees.{source_is_data}
use Rattle.bi_fit.proofs.FilePayloads.{HasValue, HaveValues, named_value, image_values}

-- The payloads of a flattened image tree have lengths of 32 bits, as a file has them in cells.

-- The length of a payload, if there is one, is a number of 64 bits.
abbrev pub HasSize : Option (List ℕ) → Type 0
HasSize payload = IfSome payload (λ bytes. length bytes < 2 ^ 64)

-- The length of a value fits its cell.
abbrev Fits : FileProperty → Type 0
Fits property = length property.value < 2 ^ 32

-- The same for an event of a tree, where it is a property.
abbrev EventFits : FileEvent → Type 0
EventFits (FileNodeProperty property) = Fits property
EventFits event = ⊤

-- The values of the events that tokens of a file encode.
tokens_fit : (file strings : List ℕ) (at : ℕ) (tokens : List Token) (events : List FileEvent) → AllStand file at (tokens ++ End ∷ []) →
    EncodeEvents strings at tokens events → AllByRecursion EventFits events
tokens_fit file strings at [] [] are encodes = tt
tokens_fit file strings at (Nop ∷ tokens) events are encodes = tokens_fit file strings (at + width Nop) tokens events are.1 encodes
tokens_fit file strings at (BeginNode token_name ∷ tokens) (FileNodeStart place name ∷ events) are encodes =
    (tt, tokens_fit file strings (at + width (BeginNode token_name)) tokens events are.1 encodes.1)
tokens_fit file strings at (Prop offset value ∷ tokens) (FileNodeProperty property ∷ events) are encodes = (
  subst (λ value. length value < 2 ^ 32) encodes.0.value are.0.is_token.1,
  tokens_fit file strings (at + width (Prop offset value)) tokens events are.1 encodes.1,
)
tokens_fit file strings at (EndNode ∷ tokens) (FileNodeEnd ∷ events) are encodes =
    (tt, tokens_fit file strings (at + width EndNode) tokens events are.1 encodes)
tokens_fit file strings at tokens events are encodes = absurd encodes

-- The values of the properties of nodes.
abbrev AllFit : Nodes FileNode → Type 0
AllFit none = ⊤
AllFit (node name own children later) = AllByRecursion Fits own.properties × (AllFit children × AllFit later)

-- Nodes have the values of their events.
nodes_fit : (nodes : Nodes FileNode) → AllByRecursion EventFits (file_events nodes) → AllFit nodes
nodes_fit none each = tt
nodes_fit (node name own children later) each =
    let below = each-back EventFits (map FileNodeProperty own.properties)
    (file_events children ++ (FileNodeEnd ∷ file_events later)) each.1 in (
      each-map_back EventFits FileNodeProperty own.properties
          (each-front EventFits (map FileNodeProperty own.properties) (file_events children ++ (FileNodeEnd ∷ file_events later)) each.1),
      (
        nodes_fit children (each-front EventFits (file_events children) (FileNodeEnd ∷ file_events later) below),
        nodes_fit later (each-back EventFits (file_events children) (FileNodeEnd ∷ file_events later) below).1,
      ),
    )

-- So do the nodes that are found by a name.
found_fit : (wanted : List ℕ) (nodes inner : Nodes FileNode) → children_of wanted nodes ≡ Some inner → AllFit nodes → AllFit inner
found_fit wanted none inner has fit = absurd cc
found_fit wanted (node name own children later) inner has fit =
    where_first (bytes_eq name wanted) refl has (λ has. found_fit wanted later inner has fit.1.1)
  where
    where_first : (b : Bool) → bytes_eq name wanted ≡ b → children_of wanted (node name own children later) ≡ Some inner →
        (children_of wanted later ≡ Some inner → AllFit inner) → AllFit inner
    where_first true is has rest = let found : children ≡ inner = same_in_some children inner (rw is at has) in subst AllFit found fit.1.0
    where_first false is has rest = rest (rw is at has)

-- So does a property that is found by its name.
named_fits : (name : List ℕ) (properties : List FileProperty) (property : FileProperty) → AllByRecursion Fits properties →
    property_named properties name ≡ Some property → Fits property
named_fits name [] property fit found = absurd cc
named_fits name (first ∷ later) property fit found = search (rules, same_in_some, named_fits name later property fit.1)

-- The number of a cell whose bytes are in the file.
number_fits : (file : List ℕ) (property : FileProperty) → AreBytes file → HasValue file property → length property.value ≡ 4 →
    cell_number property < 2 ^ 32
unfolding u32_at
number_fits file property bytes has is_cell = search (rules, u32_at-fits)

-- The property `data-size`, where a source has one.
size_is_named : (position offset size found : Option FileProperty) (begin property : FileProperty) →
    first_source position offset size found ≡ DataOffset begin (Some property) → size ≡ Some property
size_is_named (Some position) offset size found begin property is = absurd cc
size_is_named None (Some offset) size found begin property is = cc
size_is_named None None size (Some there) begin property is = absurd cc
size_is_named None None size None begin property is = absurd cc

-- The same for the other source that may have one.
position_size_is_named : (position offset size found : Option FileProperty) (begin property : FileProperty) →
    first_source position offset size found ≡ DataPosition begin (Some property) → size ≡ Some property
position_size_is_named (Some position) offset size found begin property is = cc
position_size_is_named None (Some offset) size found begin property is = absurd cc
position_size_is_named None None size (Some there) begin property is = absurd cc
position_size_is_named None None size None begin property is = absurd cc

-- A region is no longer than its size.
region_fits : (file : List ℕ) (base : ℕ) (begin : FileProperty) (size : Option FileProperty) (payload : Option (List ℕ)) →
    ((property : FileProperty) → size ≡ Some property → length property.value ≡ 4 → cell_number property < 2 ^ 32) →
    IsSizedRegion file base begin size payload → HasSize payload
region_fits file base begin None payload small is = absurd is
region_fits file base begin (Some size) payload small is = search (rules, length-take)

-- The payload of an image node has a length of 64 bits.
payload_fits : (file : List ℕ) (own : FileNode) (payload : Option (List ℕ)) → AreBytes file →
    AllByRecursion (HasValue file) own.properties → AllByRecursion Fits own.properties → HasPayload file own payload → HasSize payload
payload_fits file own payload bytes have fit is = where_source (source_of own) refl is
  where
    size_fits : (property : FileProperty) → property_named own.properties data_size_name ≡ Some property → length property.value ≡ 4 →
        cell_number property < 2 ^ 32
    size_fits property named is_cell =
        number_fits file property bytes (named_value file data_size_name own.properties property have named) is_cell

    where_source : (source : PayloadSource) → source_of own ≡ source → IsPayload file source payload → HasSize payload
    where_source NoSource source_is is = subst HasSize (sym is) tt
    where_source (Data property) source_is is =
        let fits : Fits property = named_fits data_name own.properties property fit (source_is_data _ _ _ _ property source_is) in
        subst HasSize (sym is) (let small : length property.value < 2 ^ 64 = omega (arith, fits) in small)
    where_source (DataOffset offset size) source_is is =
        region_fits file (external_base file) offset size payload
        (λ property there. size_fits property (size_is_named _ _ _ _ offset property (source_is ∙ ap (DataOffset offset) there))) is
    where_source (DataPosition position size) source_is is =
        region_fits file 0 position size payload
        (λ property there. size_fits property
        (position_size_is_named _ _ _ _ position property (source_is ∙ ap (DataPosition position) there))) is

-- So have those of image nodes.
payloads_fit : (file : List ℕ) (nodes : Nodes FileNode) (payloads : List (Option (List ℕ))) → AreBytes file → HaveValues file nodes →
    AllFit nodes → AllZip (HasPayload file) (each_own nodes) payloads → AllByRecursion HasSize payloads
payloads_fit file none [] bytes have fit has = tt
payloads_fit file none (payload ∷ payloads) bytes have fit has = absurd has
payloads_fit file (node name own children later) [] bytes have fit has = absurd has
payloads_fit file (node name own children later) (payload ∷ payloads) bytes have fit has =
    (payload_fits file own payload bytes have.0 fit.0 has.0, payloads_fit file later payloads bytes have.2 fit.1.1 has.1)

-- The payloads of what a file means have lengths of 64 bits.
pub file_payloads_fit : (file : List ℕ) (tree : ImageTree) → IsFitFile file tree → AllByRecursion HasSize tree.payloads
file_payloads_fit file tree is =
    let events = tokens_fit file (tree_blocks file).strings (tree_blocks file).begin is.blob.holds.tokens (file_events_of is.root)
    (HoldsTree-stand (tree_blocks file) is.root is.blob.holds) is.blob.holds.encodes in
    let images = found_fit images_name is.root.children is.images is.has_images (nodes_fit (as_nodes is.root) events).1.0 in
    payloads_fit file is.images tree.payloads is.blob.bytes
    (image_values file tree.cpu tree.reservations is.root is.images is.blob is.has_images) images is.payloads
