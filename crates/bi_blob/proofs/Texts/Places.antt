use Rattle.std.proofs.Common.{◌≡◌, ℕ, ◌+◌, max, List, [], ◌∷◌, ◌++◌, map, refl, sym, ap, ap₂, ◌∙◌, arith, rules}
use Rattle.std.proofs.lemmas.List.Sums.{sum_by-cons, sum_by-append}
use Rattle.bi_blob.specs.Tree.{Nodes, none, node, Root, Property, as_nodes, with_each, properties_of, tree_without_places, property_of}
use Rattle.bi_blob.specs.Tree.{depth, depth_of}
use Rattle.bi_blob.specs.Events.{Event, NodeStart, NodeProperty, NodeEnd, events, events_of, FileEvent, FileNodeStart, FileNodeProperty}
use Rattle.bi_blob.specs.Events.{FileNodeEnd, file_events, file_events_of}
use Rattle.bi_blob.specs.Blob.{Reservation}
use Rattle.bi_blob.specs.Layout.{event_width, place_after_events, properties_with_places, with_places, structure_place, tree_with_places}

-- A tree with the places of its tokens has the events of the tree with these places, and the same properties and depth as the tree.

-- An event with the place of its token.
abbrev pub event_with_place : ℕ → Event → FileEvent
event_with_place at (NodeStart name) = FileNodeStart at name
event_with_place at (NodeProperty property) = FileNodeProperty (record { name = property.0; value = property.1; place = at })
event_with_place at NodeEnd = FileNodeEnd

-- Events with the places of their tokens. The first token is at this offset.
abbrev pub placed_from : ℕ → List Event → List FileEvent
placed_from at [] = []
placed_from at (event ∷ later) = event_with_place at event ∷ placed_from (at + event_width event) later

-- Behind no tokens is where they begin.
pub place_after_events-none : (at : ℕ) → place_after_events at [] ≡ at
place_after_events-none at = omega arith

-- The tokens after a first one are after it.
pub place_after_events-cons : (at : ℕ) (event : Event) (later : List Event) →
    place_after_events at (event ∷ later) ≡ place_after_events (at + event_width event) later
place_after_events-cons at event later = omega (arith, sum_by-cons event_width event later)

-- The tokens after some others are after them.
pub place_after_events-append : (at : ℕ) (front later : List Event) →
    place_after_events at (front ++ later) ≡ place_after_events (place_after_events at front) later
place_after_events-append at front later = omega (arith, sum_by-append event_width front later)

-- Marks in two parts have their places part by part.
pub placed_from-append : (at : ℕ) (front later : List Event) →
    placed_from at (front ++ later) ≡ placed_from at front ++ placed_from (place_after_events at front) later
placed_from-append at [] later = ap (λ place. placed_from place later) (omega arith)
placed_from-append at (event ∷ front) later =
    search (rules, place_after_events-cons, placed_from-append (at + event_width event) front later)

-- The properties of a node have the places of their events.
pub placed-properties : (at : ℕ) (properties : List Property) →
    map FileNodeProperty (properties_with_places at properties) ≡ placed_from at (map NodeProperty properties)
placed-properties at [] = refl
placed-properties at (property ∷ later) = search (rules, placed-properties (at + event_width (NodeProperty property)) later)

-- The offset of the nodes after a first one.
pub place_after_events-node : (at : ℕ) (name : List ℕ) (properties : List Property) (children : Nodes (List Property)) →
    place_after_events at (events (node name properties children none))
    ≡ place_after_events (place_after_events (at + event_width (NodeStart name)) (map NodeProperty properties)) (events children)
    + event_width NodeEnd
place_after_events-node at name properties children =
    search (rules, place_after_events-cons, place_after_events-append, place_after_events-none)

-- The events of nodes with places are their events with places.
pub placed-nodes : (at : ℕ) (nodes : Nodes (List Property)) → file_events (with_places at nodes) ≡ placed_from at (events nodes)
placed-nodes at none = refl
placed-nodes at (node name properties children later) =
    ap (λ l. FileNodeStart at name ∷ l)
    (ap₂ (λ l m. l ++ m)
    (placed-properties inside properties)
    (ap₂ (λ l m. l ++ (FileNodeEnd ∷ m))
    (placed-nodes below children)
    (placed-nodes (place_after_events at (events (node name properties children none))) later
    ∙ ap (λ place. placed_from place (events later)) (place_after_events-node at name properties children))
    ∙ sym (placed_from-append below (events children) (NodeEnd ∷ events later)))
    ∙ sym (placed_from-append inside (map NodeProperty properties) (events children ++ (NodeEnd ∷ events later))))
  where
    inside : ℕ
    inside = at + event_width (NodeStart name)

    below : ℕ
    below = place_after_events (at + event_width (NodeStart name)) (map NodeProperty properties)

-- The events of a tree with places are its events with places.
pub placed-tree : (reservations : List Reservation) (root : Root (List Property)) →
    file_events_of (tree_with_places reservations root) ≡ placed_from (structure_place reservations) (events_of root)
placed-tree reservations root = placed-nodes (structure_place reservations) (as_nodes root)

-- Properties with their places are the same properties.
pub properties_of-properties : (at : ℕ) (properties : List Property) → map property_of (properties_with_places at properties) ≡ properties
properties_of-properties at [] = refl
properties_of-properties at (property ∷ later) = search (rules, properties_of-properties (at + event_width (NodeProperty property)) later)

-- Nodes with their places are the same nodes.
pub properties_of-nodes : (at : ℕ) (nodes : Nodes (List Property)) → with_each properties_of (with_places at nodes) ≡ nodes
properties_of-nodes at none = refl
properties_of-nodes at (node name properties children later) =
    ap (λ own. node name own (with_each properties_of (with_places below children)) (with_each properties_of (with_places next later)))
    (properties_of-properties (at + event_width (NodeStart name)) properties)
    ∙ ap₂ (λ inner outer. node name properties inner outer) (properties_of-nodes below children) (properties_of-nodes next later)
  where
    below : ℕ
    below = place_after_events (at + event_width (NodeStart name)) (map NodeProperty properties)

    next : ℕ
    next = place_after_events at (events (node name properties children none))

-- A tree with its places is the same tree.
pub properties_of-tree : (reservations : List Reservation) (root : Root (List Property)) →
    tree_without_places (tree_with_places reservations root) ≡ root
properties_of-tree reservations root = search (rules, properties_of-properties, properties_of-nodes)

-- Nodes with their places are as deep.
pub depth-nodes : (at : ℕ) (nodes : Nodes (List Property)) → depth (with_places at nodes) ≡ depth nodes
depth-nodes at none = refl
depth-nodes at (node name properties children later) =
    ap₂ (λ inner outer. max (inner + 1) outer)
    (depth-nodes (place_after_events (at + event_width (NodeStart name)) (map NodeProperty properties)) children)
    (depth-nodes (place_after_events at (events (node name properties children none))) later)

-- A tree with its places is as deep.
pub depth-tree : (reservations : List Reservation) (root : Root (List Property)) →
    depth_of (tree_with_places reservations root) ≡ depth_of root
depth-tree reservations root = depth-nodes (structure_place reservations) (as_nodes root)
