use Rattle.std.specs.Prelude.{◌≡◌, ℕ, List, ◌++◌, map, flat_map, Contains}
use Rattle.bi_blob.specs.Blob.{Reservation}
use Rattle.bi_blob.specs.Events.{Event, NodeStart, NodeProperty, NodeEnd}
use Rattle.bi_blob.specs.Tokens.{Token, BeginNode, Prop, EndNode, End as EndToken}
use Rattle.bi_blob.specs.Layout.{offset_in, encoding}
use Rattle.bi_lay.specs.declared.items.Item.{Item}
use Rattle.bi_lay.specs.declared.items.Item.TheVariants.{Begin, Property, End}
use Rattle.bi_lay.specs.Values.{value_bytes}
use Rattle.bi_lay.specs.Names.{saturated_usize}

-- The events that a document stores.

-- The event that an item is.
abbrev pub event_of : Item → Event
event_of (Begin name) = NodeStart name.now
event_of (Property property) = NodeProperty (property.name.now, value_bytes property.value)
event_of End = NodeEnd

-- The events that these items are.
abbrev pub events_of_items : List Item → List Event
events_of_items items = map event_of items

-- The token of an item.
abbrev pub item_token : Item → Token
item_token (Begin name) = BeginNode name.now
item_token (Property property) = Prop property.name_offset (value_bytes property.value)
item_token End = EndNode

-- The bytes of the token of an item, its padding included (Devicetree Specification, 5.4.1).
abbrev pub item_encoding : Item → List ℕ
item_encoding item = encoding (item_token item)

-- The structure block of these items (Devicetree Specification, 5.4).
abbrev pub structure_of_items : List Item → List ℕ
structure_of_items items = flat_map item_encoding items ++ encoding EndToken

-- The reservations of these pairs of an address and a size.
abbrev pub reservations_of : List (ℕ × ℕ) → List Reservation
reservations_of pairs = map (λ pair. record { address = pair.0; size = pair.1 }) pairs

-- The name of a property is among these names, and its offset is the one that it has there.
abbrev pub HasOffset : List (List ℕ) → Item → Type 0
HasOffset names (Property property) =
    Contains names property.name.now
    × (property.name_offset ≡ saturated_usize (offset_in names property.name.now))
HasOffset names item = Unit {0}
