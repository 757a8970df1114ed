use Rattle.std.specs.Prelude.{◌≡◌, ℕ, ◌+◌, List, [], ◌∷◌, ◌++◌, map}
use Rattle.bi_blob.specs.Tokens.{Token, BeginNode, EndNode, Prop, Nop, IsNameAt, width}
use Rattle.bi_blob.specs.Tree.{Nodes, none, node, Root, Property, FileProperty, FileNode, as_nodes}

-- The events of a tree, in the order of the structure block: a node starts, has its properties and
-- its children, and ends (Devicetree Specification, 5.4.2). The tokens of a structure block encode
-- the events of its tree.

-- One event of a tree.
pub data Event : Type 0 where
  NodeStart : (name : List ℕ) → Event
  NodeProperty : (property : Property) → Event
  NodeEnd : Event

-- The events of these nodes.
abbrev pub events : Nodes (List Property) → List Event
events none = []
events (node name properties children later) =
    NodeStart name ∷ (map NodeProperty properties ++ (events children ++ (NodeEnd ∷ events later)))

-- The events of a tree.
abbrev pub events_of : Root (List Property) → List Event
events_of root = events (as_nodes root)

-- One event of a tree in a file, with places.
pub data FileEvent : Type 0 where
  FileNodeStart : (place : ℕ) → (name : List ℕ) → FileEvent
  FileNodeProperty : (property : FileProperty) → FileEvent
  FileNodeEnd : FileEvent

-- The events of these nodes in a file.
abbrev pub file_events : Nodes FileNode → List FileEvent
file_events none = []
file_events (node name own children later) =
    FileNodeStart own.place name
    ∷ (map FileNodeProperty own.properties
    ++ (file_events children ++ (FileNodeEnd ∷ file_events later)))

-- The events of a tree in a file.
abbrev pub file_events_of : Root FileNode → List FileEvent
file_events_of root = file_events (as_nodes root)

-- An FDT_PROP token at this offset encodes this property.
pub record EncodesProperty (strings : List ℕ) (at name_offset : ℕ) (token_value : List ℕ)
    (property : FileProperty) : Type 0 where
  pub name : IsNameAt strings name_offset property.name
  pub value : token_value ≡ property.value
  pub place : at ≡ property.place

-- An FDT_BEGIN_NODE token at this offset encodes the start of this node.
pub record EncodesNode (at : ℕ) (token_name : List ℕ) (place : ℕ) (name : List ℕ) : Type 0 where
  pub same_name : token_name ≡ name
  pub same_place : at ≡ place

-- These tokens encode these events: one token for each event, in order, and FDT_NOP anywhere. The
-- first token is at this offset (5.4.1, 5.4.2).
abbrev pub EncodeEvents : List ℕ → ℕ → List Token → List FileEvent → Type 0
EncodeEvents strings at [] [] = Unit {0}
EncodeEvents strings at (Nop ∷ tokens) later = EncodeEvents strings (at + width Nop) tokens later
EncodeEvents strings at (BeginNode token_name ∷ tokens) (FileNodeStart place name ∷ later) =
    EncodesNode at token_name place name
    × EncodeEvents strings (at + width (BeginNode token_name)) tokens later
EncodeEvents strings at (Prop name_offset value ∷ tokens) (FileNodeProperty property ∷ later) =
    EncodesProperty strings at name_offset value property
    × EncodeEvents strings (at + width (Prop name_offset value)) tokens later
EncodeEvents strings at (EndNode ∷ tokens) (FileNodeEnd ∷ later) =
    EncodeEvents strings (at + width EndNode) tokens later
EncodeEvents strings at tokens later = ⊥
