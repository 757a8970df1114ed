use Rattle.std.specs.Prelude.{◌≡◌, ℕ, ◌+◌, ◌-◌, ◌^◌, ◌<◌, List, [], ◌∷◌, ◌++◌, map, length}
use Rattle.std.specs.Prelude.{Bool, replicate, filter, flat_map, sum_by, not, bytes_eq}
use Rattle.std.specs.Prelude.{if◌then◌else◌}
use Rattle.std.specs.List.{AllByRecursion, list_any}
use Rattle.std.specs.FinMap.{entries}
use Rattle.bi_base.specs.Cells.{cell, up_to, AreBytes}
use Rattle.bi_blob.specs.Tokens.{Token, BeginNode, EndNode, Prop, End, token_bytes, width}
use Rattle.bi_blob.specs.Tree.{Nodes, none, node, Root, Property, PropertyMap, FileProperty}
use Rattle.bi_blob.specs.Tree.{FileNode, with_each_node, IsTree, AreProperties, IsNormal}
use Rattle.bi_blob.specs.Events.{Event, NodeStart, NodeProperty, NodeEnd, events, events_of}
use Rattle.bi_blob.specs.Blob.{Reservation, IsReservation, reservation_block, blob_magic}

-- The text of a blob as this project lays it out (profile of this project): a header of version 17,
-- the memory reservation block, the structure block and the strings block, one after the other. The
-- text has no FDT_NOP, padding is zero, and each name of a property is in the strings block once,
-- in the order of first use; names share no bytes. Properties and children are in the order of the
-- tree. The length of the text is a multiple of an alignment. The text is the normal one if the
-- alignment is 4 and the properties of each node are in byte order of their names.

-- The names of properties that an event uses.
abbrev pub event_names : Event → List (List ℕ)
event_names (NodeProperty property) = property.0 ∷ []
event_names event = []

-- The names of properties in the order of their use.
abbrev pub used_names : List Event → List (List ℕ)
used_names events = flat_map event_names events

-- Each of these names once, where it is first.
abbrev pub distinct_names : List (List ℕ) → List (List ℕ)
distinct_names [] = []
distinct_names (name ∷ later) =
    name ∷ filter (λ other. not (bytes_eq name other)) (distinct_names later)

-- Whether a name is among names.
abbrev pub is_among : List ℕ → List (List ℕ) → Bool
is_among name names = list_any (λ other. bytes_eq other name) names

-- These names one after the other, with a zero byte after each (Devicetree Specification, 5.5).
abbrev pub strings_of : List (List ℕ) → List ℕ
strings_of names = flat_map (λ name. name ++ 0 ∷ []) names

-- The offset of a name in these: the length of what comes before it.
abbrev pub offset_in : List (List ℕ) → List ℕ → ℕ
offset_in [] name = 0
offset_in (other ∷ later) name =
    if bytes_eq other name then 0 else length other + 1 + offset_in later name

-- The zero bytes that pad what is this long to a multiple of `align`.
abbrev pub padding_to : (align size : ℕ) → List ℕ
padding_to align size = replicate (up_to align size - size) 0

-- The bytes of a token with zeros as its padding (5.4.1).
abbrev pub encoding : Token → List ℕ
encoding token = token_bytes token ++ padding_to 4 (length (token_bytes token))

-- The token of an event, if the strings block has these names.
abbrev pub token_of : List (List ℕ) → Event → Token
token_of names (NodeStart name) = BeginNode name
token_of names (NodeProperty property) = Prop (offset_in names property.0) property.1
token_of names NodeEnd = EndNode

-- The tokens of these events, without FDT_END.
abbrev pub tokens_of : List Event → List Token
tokens_of events = map (token_of (distinct_names (used_names events))) events

-- The structure block of these events (5.4).
abbrev pub structure_block : List Event → List ℕ
structure_block events = flat_map encoding (tokens_of events ++ End ∷ [])

-- The strings block of these events (5.5).
abbrev pub strings_block : List Event → List ℕ
strings_block events = strings_of (distinct_names (used_names events))

-- The length of a text before its padding, with blocks of these lengths after a header of 40
-- bytes.
abbrev pub length_before_padding : (reserved structure strings : ℕ) → ℕ
length_before_padding reserved structure strings = 40 + reserved + structure + strings

-- The length of a text with blocks of these lengths: a multiple of `align`.
abbrev pub text_length : (align reserved structure strings : ℕ) → ℕ
text_length align reserved structure strings =
    up_to align (length_before_padding reserved structure strings)

-- The header of a text of this total length with blocks of these lengths: version 17, and a reader
-- of version 16 can read it (5.1, 5.2).
abbrev pub blob_header : (cpu total reserved structure strings : ℕ) → List ℕ
blob_header cpu total reserved structure strings =
    cell blob_magic
    ++ (cell total
    ++ (cell (40 + reserved)
    ++ (cell (40 + reserved + structure)
    ++ (cell 40
    ++ (cell 17
    ++ (cell 16
    ++ (cell cpu
    ++ (cell strings
    ++ cell structure))))))))

-- A text of a boot processor and three blocks, whose length is a multiple of `align`.
unfoldable pub text_of_blocks : (align cpu : ℕ) → (reserved structure strings : List ℕ) → List ℕ
text_of_blocks align cpu reserved structure strings =
    blob_header cpu (text_length align (length reserved) (length structure) (length strings))
    (length reserved) (length structure) (length strings)
    ++ (reserved
    ++ (structure
    ++ (strings
    ++ padding_to align
    (length_before_padding (length reserved) (length structure) (length strings)))))

-- The text of a boot processor, memory reservations and events.
unfoldable pub text_of_events : (align cpu : ℕ) → List Reservation → List Event → List ℕ
text_of_events align cpu reservations events =
    text_of_blocks align cpu (reservation_block reservations) (structure_block events)
    (strings_block events)

-- The text of a boot processor, memory reservations and a tree, with its properties in their
-- order.
abbrev pub text_of_tree : (align cpu : ℕ) → List Reservation → Root (List Property) → List ℕ
text_of_tree align cpu reservations root = text_of_events align cpu reservations (events_of root)

-- This is the normal text of a boot processor, memory reservations and a tree: its length is a
-- multiple of four, and the properties of each node are in byte order of their names (profile of
-- this project).
pub record IsNormalText (cpu : ℕ) (reservations : List Reservation)
    (root : Root (List Property)) (text : List ℕ) : Type 0 where
  pub is_normal : IsNormal root
  pub is_text : text ≡ text_of_tree 4 cpu reservations root

-- The tree with these properties by name, and with the properties of each node in byte order
-- (profile of this project).
abbrev pub in_byte_order : Root PropertyMap → Root (List Property)
in_byte_order root = with_each_node entries root

-- The number of bytes of an event's token.
abbrev pub event_width : Event → ℕ
event_width (NodeStart name) = width (BeginNode name)
event_width (NodeProperty property) = width (Prop 0 property.1)
event_width NodeEnd = width EndNode

-- The offset of the token after those of these events. The first of them is at this offset.
abbrev pub place_after_events : ℕ → List Event → ℕ
place_after_events at events = at + sum_by event_width events

-- Properties with the places of their tokens. The first token is at this offset.
abbrev pub properties_with_places : ℕ → List Property → List FileProperty
properties_with_places at [] = []
properties_with_places at (property ∷ later) =
    record { name = property.0; value = property.1; place = at }
    ∷ properties_with_places (at + event_width (NodeProperty property)) later

-- Nodes with the places of their tokens. The first token is at this offset.
abbrev pub with_places : ℕ → Nodes (List Property) → Nodes FileNode
with_places at none = none
with_places at (node name properties children later) =
    node name
    (record {
      place = at;
      properties = properties_with_places (at + event_width (NodeStart name)) properties;
    })
    (with_places
    (place_after_events (at + event_width (NodeStart name)) (map NodeProperty properties))
    children)
    (with_places (place_after_events at (events (node name properties children none))) later)

-- The offset of the structure block in a text with these reservations.
abbrev pub structure_place : List Reservation → ℕ
structure_place reservations = 40 + length (reservation_block reservations)

-- The tree of a text with the places of its tokens.
abbrev pub tree_with_places : List Reservation → Root (List Property) → Root FileNode
tree_with_places reservations root = record {
  own = record {
    place = structure_place reservations;
    properties = properties_with_places (structure_place reservations + event_width (NodeStart []))
        root.own;
  };
  children = with_places
      (place_after_events (structure_place reservations + event_width (NodeStart []))
      (map NodeProperty root.own))
      root.children;
}

-- The names and values of an event are bytes.
abbrev pub AreEventBytes : Event → Type 0
AreEventBytes (NodeStart name) = AreBytes name
AreEventBytes (NodeProperty property) = AreBytes property.0 × AreBytes property.1
AreEventBytes NodeEnd = Unit {0}

-- What may be laid out: a boot processor and memory reservations within their ranges of numbers,
-- and a tree that a blob can hold, with names and values of bytes. Only the length of the text
-- bounds how long values may be.
pub record IsContent (cpu : ℕ) (reservations : List Reservation) (root : Root (List Property))
    : Type 0 where
  pub cpu_fits : cpu < 2 ^ 32
  pub are_reservations : AllByRecursion IsReservation reservations
  pub is_tree : IsTree AreProperties root
  pub bytes : AllByRecursion AreEventBytes (events_of root)

-- The most bytes that a text may have (profile of this project).
abbrev pub longest_text : ℕ
longest_text = 0x7fffffff
