use Rattle.std.proofs.Common.{rules}
use Rattle.std.proofs.Common.{◌≡◌, ℕ, ◌+◌, ◌-◌, ◌<◌, ◌≤◌, List, [], ◌∷◌, ◌++◌, length, flat_map, ap, ◌∙◌, arith, length-append}
use Rattle.std.proofs.lemmas.List.{length-take, length-drop}
use Rattle.bi_base.specs.Cells.{slice}
use Rattle.bi_blob.specs.Tokens.{Token, BeginNode, EndNode, Prop, Nop, End, width}
use Rattle.bi_blob.specs.Tree.{Nodes, none, node, Root, FileNode, as_nodes, node_count, node_count_of}
use Rattle.bi_blob.specs.Lookups.{siblings}
use Rattle.bi_blob.specs.Events.{FileEvent, FileNodeStart, FileNodeProperty, FileNodeEnd, file_events, file_events_of, EncodeEvents}
use Rattle.bi_blob.specs.Blob.{Reservation, IsBlob, tree_blocks}
use Rattle.bi_blob.proofs.Blobs.Tokens.{width-at_least}
use Rattle.bi_blob.proofs.Blobs.TokenEncoding.{place_after_all, place_after_all-append, AreEncodings-length}

-- A blob has more bytes than its tree has nodes, and siblings with their children are at most the nodes that are counted.

-- There are at most as many nodes as events.
events_at_least : (nodes : Nodes FileNode) → node_count nodes ≤ length (file_events nodes)
events_at_least none = omega arith
events_at_least (node name own children later) = search (rules, length-append, events_at_least children, events_at_least later)

-- Tokens that encode events have at least as many bytes.
tokens_at_least : (strings : List ℕ) (at : ℕ) (tokens : List Token) (token_events : List FileEvent) →
    EncodeEvents strings at tokens token_events → at + length token_events ≤ place_after_all at tokens
tokens_at_least strings at [] [] encodes = omega arith
tokens_at_least strings at (Nop ∷ tokens) token_events encodes =
    search (rules, place_after_all, tokens_at_least strings (at + width Nop) tokens token_events encodes)
tokens_at_least strings at (BeginNode n ∷ tokens) (FileNodeStart p k ∷ later) encodes =
    search (rules, place_after_all, width-at_least, tokens_at_least strings (at + width (BeginNode n)) tokens later encodes.1)
tokens_at_least strings at (Prop o v ∷ tokens) (FileNodeProperty p ∷ later) encodes =
    search (rules, place_after_all, width-at_least, tokens_at_least strings (at + width (Prop o v)) tokens later encodes.1)
tokens_at_least strings at (EndNode ∷ tokens) (FileNodeEnd ∷ later) encodes =
    search (rules, place_after_all, width-at_least, tokens_at_least strings (at + width EndNode) tokens later encodes)
tokens_at_least strings at tokens token_events encodes = absurd encodes

-- A structure block that holds a tree has more bytes than the tree has nodes, and the file has all of them.
pub fewer_nodes_than_bytes : (file : List ℕ) (cpu : ℕ) (reservations : List Reservation) (root : Root FileNode) →
    IsBlob file cpu reservations root → node_count_of root < length file
fewer_nodes_than_bytes file cpu reservations root blob =
    let blocks = tree_blocks file in
    let held = blob.holds in
    let nodes : node_count_of root ≤ length (file_events_of root) = events_at_least (as_nodes root) in
    let tokens : blocks.begin + length
    (file_events_of root) ≤ place_after_all blocks.begin held.tokens = tokens_at_least blocks.strings blocks.begin held.tokens
    (file_events_of root) held.encodes in
    let all : blocks.begin + length held.structure ≡ place_after_all (place_after_all blocks.begin held.tokens) (End ∷ []) =
    AreEncodings-length blocks.begin (held.tokens ++ End ∷ []) held.structure held.is_encoded
    ∙ place_after_all-append blocks.begin held.tokens (End ∷ []) in
    let wide : 4 ≤ width End = (width-at_least End).0 in
    let parts : length (slice file blocks.begin (blocks.end - blocks.begin)) ≡ length held.structure + length held.trailing =
    ap length held.is_at ∙ length-append held.structure held.trailing in
    let within : length (slice file blocks.begin (blocks.end - blocks.begin)) ≤ length file =
    simp (length-take, length-drop) (omega arith) in
    omega arith

-- The nodes of a list and their children are among the nodes.
pub siblings_and_children : {Own : Type 0} (nodes : Nodes Own) →
    length (siblings nodes) + length (flat_map (λ sibling. siblings sibling.children) (siblings nodes)) ≤ node_count nodes
siblings_and_children none = omega arith
siblings_and_children (node name own children later) =
    search (rules, length-append, siblings_and_children children, siblings_and_children later)
