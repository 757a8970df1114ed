use Rattle.std.proofs.Common.{◌≡◌, ◌+◌, ◌-◌, ◌<◌, ◌≤◌, ◌++◌, ℕ, List, [], ◌∷◌, Bool, true, false, Option, Some, None, map, length, take}
use Rattle.std.proofs.Common.{drop, bytes_eq, refl, sym, ap, subst, ◌∙◌, arith, length-append, length-drop, take_all}
use Rattle.std.proofs.lemmas.List.{length-take}
use Rattle.std.specs.Prelude.{⊤}
use Rattle.std.specs.List.{AllByRecursion}
use Rattle.std.specs.Option.{option_map}
use Rattle.bi_base.specs.Cells.{cell, slice, u32_at}
use Rattle.bi_base.proofs.CellLaws.{length-cell, slice-first, slice-rest}
use Rattle.bi_base.proofs.ListMembers.{each-front, each-back}
use Rattle.bi_blob.specs.Tokens.{Token, BeginNode, EndNode, Prop, Nop, End, width, IsTokenAt, IsNameAt}
use Rattle.bi_blob.specs.Lookups.{Sibling, siblings, node_named, root_node}
use Rattle.bi_blob.specs.Tree.{Nodes, none, node, Root, FileNode, FileProperty, as_nodes}
use Rattle.bi_blob.specs.Events.{FileEvent, FileNodeStart, FileNodeProperty, FileNodeEnd, file_events, file_events_of, EncodeEvents}
use Rattle.bi_blob.specs.Events.{EncodesProperty}
use Rattle.bi_blob.specs.Blob.{Reservation, tree_blocks, IsBlob, off_dt_strings, size_dt_strings}
use Rattle.bi_blob.proofs.Blobs.Cells.{BytesAt, BytesAt-left, BytesAt-right, BytesAt-within, u32_at-BytesAt}
use Rattle.bi_blob.proofs.Blobs.TokenEncoding.{AllStand}
use Rattle.bi_blob.proofs.Blobs.OneBlob.{HoldsTree-stand}
use Rattle.bi_fit.proofs.Meanings.{same_in_some}
use Rattle.bi_fit.specs.ImageTree.{children_of}
use Rattle.bi_fit.specs.Payloads.{IsAt}
use Rattle.bi_c.specs.NodeElements.{node_below}
use Rattle.bi_c.specs.TreeRegions.{HasNameBytes, HasPropertyBytes, HaveNodeBytes, children_of_found}

-- The file has the names and the values of its tree at their places.

-- An event that starts a node or has a property has its bytes in the file.
abbrev pub HasEventBytes : List ℕ → FileEvent → Type 0
HasEventBytes file (FileNodeStart place name) = IsAt file (place + 4) name
HasEventBytes file (FileNodeProperty property) = HasPropertyBytes file property
HasEventBytes file FileNodeEnd = ⊤

-- If bytes are at an offset before more bytes, they are at that offset of the whole.
stands_before : (file : List ℕ) (at : ℕ) (bytes more : List ℕ) → 0 < length more → BytesAt file at (bytes ++ more) → IsAt file at bytes
stands_before file at bytes more some there = record {
  in_file = omega (
    arith,
    length-append bytes more,
    BytesAt-within file at (bytes ++ more) (omega (arith, length-append bytes more)) there,
  );
  is_slice = BytesAt-left file at bytes more there;
}

-- The last bytes are at the offset where they begin.
stands_last : (file : List ℕ) (at : ℕ) (before bytes : List ℕ) → 0 < length before → BytesAt file at (before ++ bytes) →
    IsAt file (at + length before) bytes
stands_last file at before bytes some there = record {
  in_file = omega (
    arith,
    length-append before bytes,
    BytesAt-within file at (before ++ bytes) (omega (arith, length-append before bytes)) there,
  );
  is_slice = BytesAt-right file at before bytes there;
}

-- The name of an FDT_BEGIN_NODE token.
token_name : (file : List ℕ) (at : ℕ) (name : List ℕ) → IsTokenAt file at (BeginNode name) → IsAt file (at + 4) name
token_name file at name is =
    stands_before file (at + 4) name (0 ∷ []) (omega arith)
    (subst (λ n. BytesAt file n (name ++ 0 ∷ [])) (ap (λ n. at + n) (length-cell 1))
    (BytesAt-right file at (cell 1) (name ++ 0 ∷ []) is.is_at))

-- After its first 8 bytes an FDT_PROP token has the offset of its name, and then its value.
token_rest : (file : List ℕ) (at offset : ℕ) (value : List ℕ) → IsTokenAt file at (Prop offset value) →
    BytesAt file (at + 8) (cell offset ++ value)
token_rest file at offset value is =
    let sizes : at + length (cell 3) + length (cell (length value)) ≡ at + 8 =
    omega (arith, length-cell 3, length-cell (length value)) in
    subst (λ n. BytesAt file n (cell offset ++ value)) sizes
    (BytesAt-right file (at + length (cell 3)) (cell (length value)) (cell offset ++ value)
    (BytesAt-right file at (cell 3) (cell (length value) ++ (cell offset ++ value)) is.is_at))

-- The file has each name of the strings block.
string_name : (file : List ℕ) (begin size offset : ℕ) (name : List ℕ) → IsNameAt (slice file begin size) offset name →
    IsAt file (begin + offset) name
string_name file begin size offset name is =
    let rest : List ℕ = name ++ 0 ∷ is.trailing in
    let long : length rest ≡ length name + 1 + length is.trailing = omega (arith, length-append name (0 ∷ is.trailing)) in
    let left : length (drop offset (slice file begin size)) ≡ length (slice file begin size) - offset =
    length-drop offset (slice file begin size) in
    let most : length (slice file begin size) ≤ size = omega (arith, length-take size (drop begin file)) in
    let within : offset ≤ size = omega (arith, ap length is.is_at, long, left, most) in
    let there : slice file (begin + offset) (size - offset) ≡ rest =
    sym (slice-rest file begin offset size (size - offset) (omega (arith, within))) ∙ is.is_at in
    stands_before file (begin + offset) name (0 ∷ is.trailing) (omega arith)
    (sym (slice-first file (begin + offset) (length rest) (size - offset) (omega (arith, ap length is.is_at, left, most)))
    ∙ ap (take (length rest)) there
    ∙ take_all (length rest) rest (omega arith))

-- The file has the name and the value of an FDT_PROP token.
token_property : (file : List ℕ) (at offset : ℕ) (value : List ℕ) (property : FileProperty) → IsTokenAt file at (Prop offset value) →
    EncodesProperty (tree_blocks file).strings at offset value property → HasPropertyBytes file property
token_property file at offset value property is encodes =
    let number : u32_at file (at + 8) ≡ offset =
    u32_at-BytesAt file (at + 8) offset is.is_token.0 (BytesAt-left file (at + 8) (cell offset) value (token_rest file at offset value is))
    in
    let place : u32_at file (property.place + 8) ≡ offset = ap (λ (n : ℕ). u32_at file (n + 8)) (sym encodes.place) ∙ number in
    let last : IsAt file (at + 8 + length (cell offset)) value =
    stands_last file (at + 8) (cell offset) value (omega (arith, length-cell offset)) (token_rest file at offset value is) in
    let after : at + 8 + length (cell offset) ≡ property.place + 12 = omega (arith, length-cell offset, encodes.place) in
    record {
      name = record {
        is_size = refl;
        is_there = subst (λ (n : ℕ). IsAt file (off_dt_strings file + n) property.name) (sym place)
            (string_name file (off_dt_strings file) (size_dt_strings file) offset property.name encodes.name);
      };
      value = record {
        is_size = refl;
        is_there = subst (IsAt file (property.place + 12)) encodes.value (subst (λ (n : ℕ). IsAt file n value) after last);
      };
    }

-- Each event of tokens that a file encodes has its bytes in the file.
tokens_bytes : (file : List ℕ) (at : ℕ) (tokens : List Token) (events : List FileEvent) → AllStand file at (tokens ++ End ∷ []) →
    EncodeEvents (tree_blocks file).strings at tokens events → AllByRecursion (HasEventBytes file) events
tokens_bytes file at [] [] are encodes = tt
tokens_bytes file at (Nop ∷ tokens) events are encodes = tokens_bytes file (at + width Nop) tokens events are.1 encodes
tokens_bytes file at (BeginNode name_there ∷ tokens) (FileNodeStart place name ∷ events) are encodes = (
  subst (λ (n : ℕ). IsAt file (n + 4) name) encodes.0.same_place
      (subst (IsAt file (at + 4)) encodes.0.same_name (token_name file at name_there are.0)),
  tokens_bytes file (at + width (BeginNode name_there)) tokens events are.1 encodes.1,
)
tokens_bytes file at (Prop offset value ∷ tokens) (FileNodeProperty property ∷ events) are encodes = (
  token_property file at offset value property are.0 encodes.0,
  tokens_bytes file (at + width (Prop offset value)) tokens events are.1 encodes.1,
)
tokens_bytes file at (EndNode ∷ tokens) (FileNodeEnd ∷ events) are encodes =
    (tt, tokens_bytes file (at + width EndNode) tokens events are.1 encodes)
tokens_bytes file at tokens events are encodes = absurd encodes

-- A node has the properties of its events.
properties_bytes : (file : List ℕ) (properties : List FileProperty) →
    AllByRecursion (HasEventBytes file) (map FileNodeProperty properties) → AllByRecursion (HasPropertyBytes file) properties
properties_bytes file [] each = tt
properties_bytes file (property ∷ properties) each = (each.0, properties_bytes file properties each.1)

-- Nodes have the names and the properties of their events.
nodes_bytes : (file : List ℕ) (nodes : Nodes FileNode) → AllByRecursion (HasEventBytes file) (file_events nodes) → HaveNodeBytes file nodes
nodes_bytes file none each = tt
nodes_bytes file (node name own children later) each =
    let rest = file_events children ++ (FileNodeEnd ∷ file_events later) in
    let below = each-back (HasEventBytes file) (map FileNodeProperty own.properties) rest each.1 in (
      record { is_size = refl; is_there = each.0 },
      properties_bytes file own.properties (each-front (HasEventBytes file) (map FileNodeProperty own.properties) rest each.1),
      nodes_bytes file children (each-front (HasEventBytes file) (file_events children) (FileNodeEnd ∷ file_events later) below),
      nodes_bytes file later (each-back (HasEventBytes file) (file_events children) (FileNodeEnd ∷ file_events later) below).1,
    )

-- A node has its own bytes and those of the nodes below it.
abbrev pub HasBytesBelow : List ℕ → Sibling FileNode → Type 0
HasBytesBelow file found = AllByRecursion (HasPropertyBytes file) found.own.properties × HaveNodeBytes file found.children

-- All nodes of a blob have their bytes,
pub all_node_bytes : (file : List ℕ) (cpu : ℕ) (reservations : List Reservation) (root : Root FileNode) →
    IsBlob file cpu reservations root → HaveNodeBytes file (as_nodes root)
all_node_bytes file cpu reservations root blob =
    nodes_bytes file (as_nodes root)
    (tokens_bytes file (tree_blocks file).begin blob.holds.tokens (file_events_of root)
    (HoldsTree-stand (tree_blocks file) root blob.holds) blob.holds.encodes)

-- and so has its root.
pub root_bytes : (file : List ℕ) (cpu : ℕ) (reservations : List Reservation) (root : Root FileNode) →
    IsBlob file cpu reservations root → HasBytesBelow file (root_node root)
root_bytes file cpu reservations root blob =
    let all = all_node_bytes file cpu reservations root blob in
    (all.1, all.2)

-- A node that is found by its name has its bytes.
pub named_bytes : (file wanted : List ℕ) (nodes : Nodes FileNode) (found : Sibling FileNode) → node_named nodes wanted ≡ Some found →
    HaveNodeBytes file nodes → HasBytesBelow file found
named_bytes file wanted none found has have = absurd cc
named_bytes file wanted (node name own children later) found has have =
    where_first (bytes_eq name wanted) refl has (λ has. named_bytes file wanted later found has have.3)
  where
    where_first : (b : Bool) → bytes_eq name wanted ≡ b → node_named (node name own children later) wanted ≡ Some found →
        (node_named later wanted ≡ Some found → HasBytesBelow file found) → HasBytesBelow file found
    where_first true is has rest =
        let this : record { name = name; own = own; children = children; later = later } ≡ found = same_in_some _ found (rw is at has) in
        subst (HasBytesBelow file) this (have.1, have.2)
    where_first false is has rest = rest (rw is at has)

-- The children of such a node have their bytes.
pub found_bytes : (file wanted : List ℕ) (nodes inner : Nodes FileNode) → children_of wanted nodes ≡ Some inner → HaveNodeBytes file nodes →
    HaveNodeBytes file inner
found_bytes file wanted nodes inner has have = by (node_named nodes wanted) refl has
  where
    by : (found : Option (Sibling FileNode)) → node_named nodes wanted ≡ found →
        option_map (λ (one : Sibling FileNode). one.children) found ≡ Some inner → HaveNodeBytes file inner
    by None is has = absurd cc
    by (Some found) is has =
        subst (HaveNodeBytes file) (same_in_some found.children inner has) (named_bytes file wanted nodes found is have).1

-- The node at a path has its bytes.
pub below_bytes : (file : List ℕ) (start : Option (Sibling FileNode)) (names : List (List ℕ)) (found : Sibling FileNode) →
    ((first : Sibling FileNode) → start ≡ Some first → HasBytesBelow file first) → node_below start names ≡ Some found →
    HasBytesBelow file found
below_bytes file None names found have is = absurd cc
below_bytes file (Some first) [] found have is = have found is
below_bytes file (Some first) (name ∷ names) found have is =
    below_bytes file (node_named first.children name) names found
    (λ child is. named_bytes file name first.children child is (have first refl).1) is

-- Each of some siblings has its name in the file.
pub each_name : (file : List ℕ) (nodes : Nodes FileNode) → HaveNodeBytes file nodes → AllByRecursion (HasNameBytes file) (siblings nodes)
each_name file none have = tt
each_name file (node name own children later) have = (have.0, each_name file later have.3)

-- The children of a node that is found have their names in the file.
pub children_names : (file wanted : List ℕ) (nodes : Nodes FileNode) (found : Option (Sibling FileNode)) → node_named nodes wanted ≡ found →
    HaveNodeBytes file nodes → AllByRecursion (HasNameBytes file) (children_of_found found)
children_names file wanted nodes None is have = tt
children_names file wanted nodes (Some found) is have =
    each_name file found.children (named_bytes file wanted nodes found is have).1
