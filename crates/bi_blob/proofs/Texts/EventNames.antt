use Rattle.std.specs.Prelude.{⊤}
use Rattle.std.proofs.Common.{ℕ, List, [], map, rules}
use Rattle.std.specs.List.{AllByRecursion}
use Rattle.bi_base.proofs.ListMembers.{each-append, each-map, each-weaker}
use Rattle.bi_blob.specs.Tree.{Nodes, none, node, Root, Property, HasNoZero, AreProperties, AreNodes, IsTree}
use Rattle.bi_blob.specs.Events.{Event, NodeStart, NodeProperty, NodeEnd, events, events_of}

-- The names in the events of a tree have no zero byte.

-- A zero byte can end the name of an event.
abbrev pub NameEndsAtZero : Event → Type 0
NameEndsAtZero (NodeStart name) = HasNoZero name
NameEndsAtZero (NodeProperty property) = HasNoZero property.0
NameEndsAtZero NodeEnd = ⊤

-- The properties of a node have such names.
pub names_end-properties : (properties : List Property) → AreProperties properties →
    AllByRecursion NameEndsAtZero (map NodeProperty properties)
names_end-properties properties are = search (rules, each-map, each-weaker)

-- A node, its children and the nodes after it have such names where its parts have.
pub names_end-node : (name : List ℕ) (properties : List Property) (children later : Nodes (List Property)) → HasNoZero name →
    AreProperties properties → AllByRecursion NameEndsAtZero (events children) → AllByRecursion NameEndsAtZero (events later) →
    AllByRecursion NameEndsAtZero (events (node name properties children later))
names_end-node name properties children later is_name are good_children good_later = search (rules, each-append, names_end-properties)

-- Nodes have such names.
pub names_end-nodes : (nodes : Nodes (List Property)) → AreNodes AreProperties nodes → AllByRecursion NameEndsAtZero (events nodes)
names_end-nodes none are = tt
names_end-nodes (node name properties children later) are =
    search (rules, names_end-node, names_end-nodes children are.1, names_end-nodes later are.2)

-- A tree has such names.
pub names_end-tree : (root : Root (List Property)) → IsTree AreProperties root → AllByRecursion NameEndsAtZero (events_of root)
names_end-tree root is = names_end-node [] root.own root.children none tt is.is_own (names_end-nodes root.children is.children) tt
