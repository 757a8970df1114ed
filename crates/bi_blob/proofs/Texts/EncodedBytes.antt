use Rattle.std.specs.Prelude.{⊤}
use Rattle.std.proofs.Common.{◌≡◌, ℕ, ◌+◌, List, [], ◌∷◌, ◌++◌, map, drop, refl, sym, ap, ap₂, subst, ◌∙◌, rules}
use Rattle.std.specs.List.{AllByRecursion}
use Rattle.std.proofs.lemmas.List.{map-append}
use Rattle.bi_base.specs.Cells.{cell, AreBytes}
use Rattle.bi_blob.specs.Tokens.{Token, BeginNode, EndNode, Prop, Nop, End, token_bytes, width, AreEncodings, IsNameAt, begin_node_number}
use Rattle.bi_blob.specs.Tree.{Nodes, none, node, Root, FileProperty, FileNode, as_nodes, with_each, properties_of, tree_without_places}
use Rattle.bi_blob.specs.Tree.{property_of}
use Rattle.bi_blob.specs.Events.{NodeStart, NodeProperty, NodeEnd, events, events_of, FileEvent, FileNodeStart, FileNodeProperty}
use Rattle.bi_blob.specs.Events.{FileNodeEnd, file_events, file_events_of, EncodeEvents}
use Rattle.bi_blob.specs.Layout.{AreEventBytes}
use Rattle.bi_base.proofs.ByteLists.{AreBytes-left, AreBytes-right, AreBytes-drop, AreBytes-take}
use Rattle.bi_base.proofs.ListMembers.{each-map}
use Rattle.bi_blob.proofs.Blobs.TreeTokens.{event_without_place}

-- The events of tokens that are bytes have names and values that are bytes.

-- The name or the value of a token is bytes.
abbrev pub TokenHasBytes : Token → Type 0
TokenHasBytes (BeginNode name) = AreBytes name
TokenHasBytes (Prop name_offset value) = AreBytes value
TokenHasBytes token = ⊤

-- A token has bytes, where its bytes are bytes.
pub token_has_bytes : (token : Token) → AreBytes (token_bytes token) → TokenHasBytes token
token_has_bytes (BeginNode name) bytes = AreBytes-left name (0 ∷ []) (AreBytes-right (cell begin_node_number) (name ++ 0 ∷ []) bytes)
token_has_bytes EndNode bytes = tt
token_has_bytes (Prop name_offset value) bytes = search (rules, AreBytes-right)
token_has_bytes Nop bytes = tt
token_has_bytes End bytes = tt

-- Tokens are of bytes where their encodings are bytes.
pub tokens_bytes : (tokens : List Token) (bytes : List ℕ) → AreBytes bytes → AreEncodings tokens bytes → AllByRecursion TokenHasBytes tokens
tokens_bytes [] bytes are is_encoded = tt
tokens_bytes (token ∷ later) bytes are is_encoded = (
  token_has_bytes token (AreBytes-left (token_bytes token) is_encoded.0.padding
      (subst AreBytes is_encoded.0.is_encoded (AreBytes-take (width token) bytes are))),
  tokens_bytes later (drop (width token) bytes) (AreBytes-drop (width token) bytes are) is_encoded.1,
)

-- A name in a strings block of bytes is bytes.
pub name_bytes : (strings : List ℕ) (offset : ℕ) (name : List ℕ) → AreBytes strings → IsNameAt strings offset name → AreBytes name
name_bytes strings offset name are there =
    AreBytes-left name (0 ∷ there.trailing) (subst AreBytes there.is_at (AreBytes-drop offset strings are))

-- The events of tokens of bytes over strings of bytes are of bytes.
pub event_bytes : (strings : List ℕ) (at : ℕ) (tokens : List Token) (token_events : List FileEvent) → AreBytes strings →
    AllByRecursion TokenHasBytes tokens → EncodeEvents strings at tokens token_events →
    AllByRecursion (λ event. AreEventBytes (event_without_place event)) token_events
event_bytes strings at [] [] are bytes encodes = tt
event_bytes strings at (Nop ∷ tokens) token_events are bytes encodes = event_bytes strings
    (at + width Nop) tokens token_events are bytes.1 encodes
event_bytes strings at (BeginNode token_name ∷ tokens) (FileNodeStart place name ∷ token_events) are bytes encodes =
    search (rules, event_bytes strings (at + width (BeginNode token_name)) tokens token_events are bytes.1 encodes.1)
event_bytes strings at (Prop name_offset value ∷ tokens) (FileNodeProperty property ∷ token_events) are bytes encodes = (
  (name_bytes strings name_offset property.name are encodes.0.name, subst AreBytes encodes.0.value bytes.0),
  event_bytes strings (at + width (Prop name_offset value)) tokens token_events are bytes.1 encodes.1,
)
event_bytes strings at (EndNode ∷ tokens) (FileNodeEnd ∷ token_events) are bytes encodes =
    search (rules, event_bytes strings (at + width EndNode) tokens token_events are bytes.1 encodes)
event_bytes strings at tokens token_events are bytes encodes = absurd encodes

-- The events of properties without places.
properties_of-marks_of_properties : (properties : List FileProperty) →
    map NodeProperty (map property_of properties) ≡ map event_without_place (map FileNodeProperty properties)
properties_of-marks_of_properties [] = refl
properties_of-marks_of_properties (property ∷ later) = search (rules, properties_of-marks_of_properties later)

-- The events of nodes without places are their events without places.
pub properties_of-events : (nodes : Nodes FileNode) → events (with_each properties_of nodes) ≡ map event_without_place (file_events nodes)
properties_of-events none = refl
properties_of-events (node name with_places children later) =
    ap (λ l. NodeStart name ∷ l)
    (ap₂ (λ l m. l ++ m) (properties_of-marks_of_properties with_places.properties)
    (ap₂ (λ l m. l ++ (NodeEnd ∷ m)) (properties_of-events children) (properties_of-events later)
    ∙ sym (map-append event_without_place (file_events children) (FileNodeEnd ∷ file_events later)))
    ∙ sym (map-append event_without_place (map FileNodeProperty with_places.properties)
    (file_events children ++ (FileNodeEnd ∷ file_events later))))

-- A tree that tokens of bytes encode is of bytes.
pub tree_bytes : (strings : List ℕ) (at : ℕ) (tokens : List Token) (root : Root FileNode) → AreBytes strings →
    AllByRecursion TokenHasBytes tokens → EncodeEvents strings at tokens (file_events_of root) →
    AllByRecursion AreEventBytes (events_of (tree_without_places root))
tree_bytes strings at tokens root are bytes encodes =
    subst (AllByRecursion AreEventBytes) (sym (properties_of-events (as_nodes root)))
    (each-map AreEventBytes event_without_place (file_events_of root)
    (event_bytes strings at tokens (file_events_of root) are bytes encodes))
