use Rattle.std.proofs.Common.{◌≡◌, ℕ, suc, ◌<◌, List, [], ◌∷◌, ◌++◌, length, map, refl, sym, ap, ap₂, subst, ◌∙◌, rules}
use Rattle.std.proofs.lemmas.List.{append_assoc, append-nil, map-append}
use Rattle.bi_blob.specs.Tree.{Nodes, none, node, Root, Property, FileProperty, FileNode, with_each, with_each_node, properties_of}
use Rattle.bi_blob.specs.Tree.{property_of, tree_without_places, as_nodes}
use Rattle.bi_blob.specs.Events.{Event, NodeStart, NodeProperty, NodeEnd, events, events_of, FileEvent, FileNodeStart, FileNodeProperty}
use Rattle.bi_blob.specs.Events.{FileNodeEnd, file_events, file_events_of}
use Rattle.bi_blob.specs.Stages.{BeforeRoot, AfterRoot, next_stage}
use Rattle.bi_blob.specs.Following.{MayFollow, AreClosedEvents}
use Rattle.bi_blob.specs.BlobLaws.{HasOneTree, ClosedEventsHaveOneTree}
use Rattle.bi_blob.proofs.Blobs.OneTree.{trees_agree}
use Rattle.bi_blob.specs.OpenNodes.{TreeSoFar, NoTree, OpenTree, WholeTree, new_node, with_one_property, with_one_child, outer_nodes_of}
use Rattle.bi_blob.specs.OpenNodes.{stage_of, events_so_far, IsTreeSoFar, IsWholeTree}
use Rattle.bi_blob.proofs.Blobs.OpenNodes.{ended_root, AreProperties-push, open_node_of-property, open_node_of-child}
use Rattle.bi_blob.proofs.Blobs.OpenNodes.{events_of_open_nodes-property, events_of_open_nodes-child, events_of_open_nodes-root}
use Rattle.bi_blob.proofs.Blobs.ReaderSteps.{AreOpenNodes-property, AreOpenNodes-child, innermost_properties, length-outer_nodes_of}
use Rattle.bi_blob.proofs.Blobs.TreeTokens.{event_without_place}
use Rattle.bi_blob.proofs.Blobs.BlockEnds.{tree_events_without_places, depth-properties_of}
use Rattle.bi_blob.proofs.Blobs.EventOrder.{FollowToEnd, to_end, follow_to_end, closed_at_end, tree_follows}

-- Events that may follow one another and close are those of one tree. The lemmas on trees of files are used for trees
-- without places: all their places are 0.

-- A property at place 0.
abbrev pub property_at_0 : Property → FileProperty
property_at_0 property = record { name = property.0; value = property.1; place = 0 }

-- What a node has itself, at place 0.
abbrev pub node_at_0 : List Property → FileNode
node_at_0 properties = record { place = 0; properties = map property_at_0 properties }

-- An event at place 0.
abbrev pub event_at_0 : Event → FileEvent
event_at_0 (NodeStart name) = FileNodeStart 0 name
event_at_0 (NodeProperty property) = FileNodeProperty (property_at_0 property)
event_at_0 NodeEnd = FileNodeEnd

-- An event at place 0 is the event.
event_without_place-at_0 : (event : Event) → event_without_place (event_at_0 event) ≡ event
event_without_place-at_0 (NodeStart name) = refl
event_without_place-at_0 (NodeProperty property) = refl
event_without_place-at_0 NodeEnd = refl

events_without_places-at_0 : (events : List Event) → map event_without_place (map event_at_0 events) ≡ events
events_without_places-at_0 [] = refl
events_without_places-at_0 (event ∷ later) = ap₂ (λ e l. e ∷ l) (event_without_place-at_0 event) (events_without_places-at_0 later)

-- Properties at place 0 are the properties.
properties-at_0 : (properties : List Property) → map property_of (map property_at_0 properties) ≡ properties
properties-at_0 [] = refl
properties-at_0 (property ∷ later) = ap (λ l. property ∷ l) (properties-at_0 later)

-- The events of properties at place 0.
property_events-at_0 : (properties : List Property) →
    map FileNodeProperty (map property_at_0 properties) ≡ map event_at_0 (map NodeProperty properties)
property_events-at_0 [] = refl
property_events-at_0 (property ∷ later) = ap (λ l. FileNodeProperty (property_at_0 property) ∷ l) (property_events-at_0 later)

-- Nodes at place 0 are the nodes.
nodes-at_0 : (nodes : Nodes (List Property)) → with_each properties_of (with_each node_at_0 nodes) ≡ nodes
nodes-at_0 none = refl
nodes-at_0 (node name properties children later) = search (rules, properties-at_0, nodes-at_0 children, nodes-at_0 later)

-- The events of nodes at place 0 are those of the nodes, at place 0.
file_events-at_0 : (nodes : Nodes (List Property)) → file_events (with_each node_at_0 nodes) ≡ map event_at_0 (events nodes)
file_events-at_0 none = refl
file_events-at_0 (node name properties children later) =
    search (rules, property_events-at_0, map-append, file_events-at_0 children, file_events-at_0 later)

-- Two trees with the same events are the same.
pub same_events : (root other : Root (List Property)) → events_of root ≡ events_of other → root ≡ other
same_events root other same =
    let agree : with_each_node node_at_0 root ≡ with_each_node node_at_0 other =
    trees_agree (with_each_node node_at_0 root) (with_each_node node_at_0 other)
    (file_events-at_0 (as_nodes root) ∙ ap (map event_at_0) same ∙ sym (file_events-at_0 (as_nodes other))) in
    sym (tree-at_0 root) ∙ ap tree_without_places agree ∙ tree-at_0 other
  where
    tree-at_0 : (root : Root (List Property)) → tree_without_places (with_each_node node_at_0 root) ≡ root
    tree-at_0 root = ap₂ (λ own children. record { own = own; children = children }) (properties-at_0 root.own) (nodes-at_0 root.children)

-- A tree has grown by an event.
pub record HasGrown (depth_limit : ℕ) (so_far : TreeSoFar) (event : Event) : Type 0 where
  pub after : TreeSoFar
  pub is_tree_so_far : IsTreeSoFar depth_limit after
  pub is_stage : next_stage (stage_of so_far) event ≡ stage_of after
  pub adds_event : events_so_far after ≡ events_so_far so_far ++ event_at_0 event ∷ []

module _ (depth_limit : ℕ) where
  -- A tree grows by each event that may follow.
  grow : (so_far : TreeSoFar) (event : Event) → IsTreeSoFar depth_limit so_far → MayFollow depth_limit (stage_of so_far) event →
      HasGrown depth_limit so_far event
  grow NoTree (NodeStart name) is may = record {
    after = OpenTree (new_node name 0) [];
    is_tree_so_far = search rules;
    is_stage = refl;
    adds_event = refl;
  }
  grow (OpenTree parent outer) (NodeStart name) is may =
      let few : suc (length (outer_nodes_of parent.name outer)) < depth_limit = may.0 in
      let open_here : length (outer_nodes_of parent.name outer) ≡ length outer = length-outer_nodes_of parent.name outer in
      record {
        after = OpenTree (new_node name 0) (parent ∷ outer);
        is_tree_so_far = search rules;
        is_stage = refl;
        adds_event = refl;
      }
  grow (WholeTree root) (NodeStart name) is may = absurd may
  grow NoTree (NodeProperty property) is may = absurd may
  grow (OpenTree innermost outer) (NodeProperty property) is may = record {
    after = OpenTree (with_one_property innermost (property_at_0 property)) outer;
    is_tree_so_far = search (rules, AreOpenNodes-property, AreProperties-push, innermost_properties);
    is_stage = search (rules, open_node_of-property);
    adds_event = events_of_open_nodes-property innermost outer (property_at_0 property) may.0;
  }
  grow (WholeTree root) (NodeProperty property) is may = absurd may
  grow NoTree NodeEnd is may = absurd may
  grow (OpenTree outermost []) NodeEnd is may =
      let shallow = is.0.shallow in
      record {
        after = WholeTree (ended_root outermost);
        is_tree_so_far = search rules;
        is_stage = refl;
        adds_event = events_of_open_nodes-root outermost is.1;
      }
  grow (OpenTree child (parent ∷ outer)) NodeEnd is may = record {
    after = OpenTree (with_one_child parent child) outer;
    is_tree_so_far = AreOpenNodes-child depth_limit child parent outer is;
    is_stage = search (rules, open_node_of-child);
    adds_event = events_of_open_nodes-child parent child outer;
  }
  grow (WholeTree root) NodeEnd is may = absurd may

  -- A tree that has ended.
  ended : (so_far : TreeSoFar) → IsTreeSoFar depth_limit so_far → stage_of so_far ≡ AfterRoot →
      (root : Root FileNode) × (file_events_of root ≡ events_so_far so_far) × IsWholeTree depth_limit root
  ended NoTree is closed = absurd cc
  ended (OpenTree innermost outer) is closed = absurd cc
  ended (WholeTree root) is closed = (root, refl, is)

  -- A tree grows by events that follow to the end, and ends.
  grow_to_end : (so_far : TreeSoFar) (later : List Event) → IsTreeSoFar depth_limit so_far →
      FollowToEnd (MayFollow depth_limit) (stage_of so_far) later →
      (root : Root FileNode) × (file_events_of root ≡ events_so_far so_far ++ map event_at_0 later) × IsWholeTree depth_limit root
  grow_to_end so_far [] is follow =
      let done = ended so_far is follow in
      (done.0, done.1 ∙ sym (append-nil (events_so_far so_far)), done.2)
  grow_to_end so_far (event ∷ later) is follow =
      let one : HasGrown depth_limit so_far event = grow so_far event is follow.0 in
      let done = grow_to_end one.after later one.is_tree_so_far
      (subst (λ stage. FollowToEnd (MayFollow depth_limit) stage later) one.is_stage follow.1) in (
        done.0,
        done.1
            ∙ ap (λ l. l ++ map event_at_0 later) one.adds_event
            ∙ append_assoc (events_so_far so_far) (event_at_0 event ∷ []) (map event_at_0 later),
        done.2,
      )

  -- Closed events are those of one tree.
  one_tree : (events : List Event) → AreClosedEvents (MayFollow depth_limit) events → HasOneTree depth_limit events
  one_tree events closed =
      let done = grow_to_end NoTree events tt (to_end (MayFollow depth_limit) BeforeRoot events closed.follow closed.closed) in
      let same : events_of (tree_without_places done.0) ≡ events =
      sym (tree_events_without_places done.0) ∙ ap (map event_without_place) done.1 ∙ events_without_places-at_0 events in
      search (rules, same_events, depth-properties_of)

  -- The events of one tree may follow one another, and end its root.
  tree_closes : (events : List Event) → HasOneTree depth_limit events → AreClosedEvents (MayFollow depth_limit) events
  tree_closes events tree =
      let follow : FollowToEnd (MayFollow depth_limit) BeforeRoot events =
      search (rules, tree_follows) in
      search (rules, follow_to_end, closed_at_end)

-- Closed events are those of one tree, and only those are closed.
pub closed_events_have_one_tree : ClosedEventsHaveOneTree
closed_events_have_one_tree depth_limit events = (one_tree depth_limit events, tree_closes depth_limit events)
