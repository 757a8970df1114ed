use Rattle.std.proofs.Common.{◌≡◌, ℕ, ◌+◌, ◌≤◌, List, [], ◌∷◌, ◌++◌, map, length, subst, arith, length-append}
use Rattle.std.specs.Prelude.{⊤}
use Rattle.std.specs.List.{AllByRecursion}
use Rattle.bi_base.specs.Cells.{cell}
use Rattle.bi_base.proofs.CellLaws.{length-cell}
use Rattle.bi_base.proofs.ListMembers.{each-front, each-back, each-map_back}
use Rattle.bi_blob.specs.Tokens.{Token, BeginNode, EndNode, Prop, Nop, End, token_bytes, width, IsTokenAt}
use Rattle.bi_blob.specs.Tree.{Nodes, none, node, Root, FileNode, as_nodes}
use Rattle.bi_blob.specs.Events.{FileEvent, FileNodeStart, FileNodeProperty, FileNodeEnd, file_events, file_events_of, EncodeEvents}
use Rattle.bi_blob.specs.Blob.{Reservation, tree_blocks, IsBlob}
use Rattle.bi_blob.proofs.Blobs.Cells.{BytesAt-within}
use Rattle.bi_blob.proofs.Blobs.TokenEncoding.{AllStand}
use Rattle.bi_blob.proofs.Blobs.OneBlob.{HoldsTree-stand}
use Rattle.bi_coverage.specs.NodeIndices.{HasTokenIn, HaveTokensBelow, HaveTokens}

-- The tokens of the properties of a blob are in its file.

-- The same for an event of a tree, where it is a property.
abbrev HasEventToken : List ℕ → FileEvent → Type 0
HasEventToken file (FileNodeProperty property) = HasTokenIn file property
HasEventToken file event = ⊤

-- An FDT_PROP token has three cells.
token_within : (file : List ℕ) (at offset : ℕ) (value : List ℕ) → IsTokenAt file at (Prop offset value) → at + 12 ≤ length file
token_within file at offset value is =
    let long : length (token_bytes (Prop offset value)) ≡ 12 + length value = omega (
      arith,
      length-append (cell 3) (cell (length value) ++ (cell offset ++ value)),
      length-append (cell (length value)) (cell offset ++ value),
      length-append (cell offset) value,
      length-cell 3,
      length-cell (length value),
      length-cell offset,
    ) in
    omega (arith, BytesAt-within file at (token_bytes (Prop offset value)) (omega (arith, long)) is.is_at, long)

-- The events that tokens of a file encode have their tokens in it.
tokens_within : (file strings : List ℕ) (at : ℕ) (tokens : List Token) (events : List FileEvent) → AllStand file at (tokens ++ End ∷ []) →
    EncodeEvents strings at tokens events → AllByRecursion (HasEventToken file) events
tokens_within file strings at [] [] are encodes = tt
tokens_within file strings at (Nop ∷ tokens) events are encodes =
    tokens_within file strings (at + width Nop) tokens events are.1 encodes
tokens_within file strings at (BeginNode token_name ∷ tokens) (FileNodeStart place name ∷ events) are encodes =
    (tt, tokens_within file strings (at + width (BeginNode token_name)) tokens events are.1 encodes.1)
tokens_within file strings at (Prop offset value ∷ tokens) (FileNodeProperty property ∷ events) are encodes = (
  subst (λ (place : ℕ). place + 12 ≤ length file) encodes.0.place (token_within file at offset value are.0),
  tokens_within file strings (at + width (Prop offset value)) tokens events are.1 encodes.1,
)
tokens_within file strings at (EndNode ∷ tokens) (FileNodeEnd ∷ events) are encodes =
    (tt, tokens_within file strings (at + width EndNode) tokens events are.1 encodes)
tokens_within file strings at tokens events are encodes = absurd encodes

-- Nodes have the tokens of their events.
nodes_within : (file : List ℕ) (nodes : Nodes FileNode) → AllByRecursion (HasEventToken file) (file_events nodes) →
    HaveTokensBelow file nodes
nodes_within file none each = tt
nodes_within file (node name own children later) each =
    let below = each-back (HasEventToken file) (map FileNodeProperty own.properties)
    (file_events children ++ (FileNodeEnd ∷ file_events later)) each.1 in (
      each-map_back (HasEventToken file) FileNodeProperty own.properties
          (each-front (HasEventToken file) (map FileNodeProperty own.properties)
          (file_events children ++ (FileNodeEnd ∷ file_events later)) each.1),
      nodes_within file children (each-front (HasEventToken file) (file_events children) (FileNodeEnd ∷ file_events later) below),
      nodes_within file later (each-back (HasEventToken file) (file_events children) (FileNodeEnd ∷ file_events later) below).1,
    )

pub have_tokens : (file : List ℕ) (cpu : ℕ) (reservations : List Reservation) (root : Root FileNode) →
    IsBlob file cpu reservations root → HaveTokens file root
have_tokens file cpu reservations root blob =
    nodes_within file (as_nodes root)
    (tokens_within file (tree_blocks file).strings (tree_blocks file).begin blob.holds.tokens (file_events_of root)
    (HoldsTree-stand (tree_blocks file) root blob.holds) blob.holds.encodes)
