use Rattle.std.specs.Prelude.{◌≡◌, List, ◌∷◌, ◌++◌, map, fold}
use Rattle.bi_blob.specs.Tree.{Nodes, Property, names}
use Rattle.bi_blob.specs.Events.{Event, NodeProperty, events}
use Rattle.bi_blob.specs.Stages.{BeforeRoot, Inside, OpenNode, next_stage}
use Rattle.bi_blob.specs.Following.{AllFollow, MayFollowInText, stage_of_events}

-- Laws for callers that build a document of a tree (Devicetree Specification, 5.4.2). Each is the
-- contract of a function in `laws`.

-- An open node with more properties.
abbrev pub with_properties : OpenNode → List Property → OpenNode
with_properties node properties =
    record node { properties = node.properties ++ map (λ property. property.0) properties }

-- An open node with more children.
abbrev pub with_children : OpenNode → Nodes (List Property) → OpenNode
with_children node nodes = record node { children = node.children ++ names nodes }

-- Properties in turn add their names to the innermost open node.
abbrev pub PropertiesAddTheirNames : Type 0
PropertiesAddTheirNames =
    (properties : List Property) (innermost : OpenNode) (outer : List OpenNode)
    → fold next_stage (Inside innermost outer) (map NodeProperty properties)
    ≡ Inside (with_properties innermost properties) outer

-- Nodes in turn, with all below them, add their names to the children of the innermost open node.
abbrev pub NodesAddTheirNames : Type 0
NodesAddTheirNames =
    (nodes : Nodes (List Property)) (innermost : OpenNode) (outer : List OpenNode)
    → fold next_stage (Inside innermost outer) (events nodes)
    ≡ Inside (with_children innermost nodes) outer

-- If events may follow one another in a normal text, each may come at the stage after those before
-- it.
abbrev pub EachMayFollow : Type 0
EachMayFollow =
    (before : List Event) (event : Event) (later : List Event)
    → AllFollow MayFollowInText BeforeRoot (before ++ event ∷ later)
    → MayFollowInText (stage_of_events before) event
