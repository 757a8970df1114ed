use Rattle.std.proofs.Common.{List, [], ◌∷◌, ◌++◌, map, fold, sym, ap, ◌∙◌, append_assoc, append-nil}
use Rattle.std.proofs.lemmas.List.Sums.{fold-append}
use Rattle.bi_blob.specs.Tree.{none, node, names}
use Rattle.bi_blob.specs.Events.{Event, NodeProperty, NodeEnd, events}
use Rattle.bi_blob.specs.Stages.{Stage, BeforeRoot, Inside, OpenNode, empty_node, with_child, next_stage}
use Rattle.bi_blob.specs.Following.{AllFollow, MayFollowInText}
use Rattle.bi_lay.specs.Laws.{PropertiesAddTheirNames, NodesAddTheirNames, EachMayFollow}

-- The events of properties and of nodes add their names to those of the innermost open node, and each event of a normal text may come at
-- the stage after those before it.

-- Properties add their names.
pub properties_add_their_names : PropertiesAddTheirNames
properties_add_their_names [] innermost outer =
    ap (λ l. Inside (record innermost { properties = l }) outer) (sym (append-nil innermost.properties))
properties_add_their_names (property ∷ later) innermost outer =
    properties_add_their_names later (record innermost { properties = innermost.properties ++ property.0 ∷ [] }) outer
    ∙ ap (λ l. Inside (record innermost { properties = l }) outer)
    (append_assoc innermost.properties (property.0 ∷ []) (map (λ property. property.0) later))

-- Nodes add their names.
pub nodes_add_their_names : NodesAddTheirNames
nodes_add_their_names none innermost outer =
    ap (λ l. Inside (record innermost { children = l }) outer) (sym (append-nil innermost.children))
nodes_add_their_names (node name properties children later) innermost outer =
    fold-append next_stage (Inside empty_node around) (map NodeProperty properties) (events children ++ (NodeEnd ∷ events later))
    ∙ ap (λ stage. fold next_stage stage (events children ++ (NodeEnd ∷ events later)))
    (properties_add_their_names properties empty_node around)
    ∙ fold-append next_stage (Inside with_names around) (events children) (NodeEnd ∷ events later)
    ∙ ap (λ stage. fold next_stage stage (NodeEnd ∷ events later)) (nodes_add_their_names children with_names around)
    ∙ nodes_add_their_names later (with_child innermost name) outer
    ∙ ap (λ l. Inside (record innermost { children = l }) outer) (append_assoc innermost.children (name ∷ []) (names later))
  where
    around : List OpenNode
    around = with_child innermost name ∷ outer

    with_names : OpenNode
    with_names = record empty_node { properties = [] ++ map (λ property. property.0) properties }

-- Each event may follow those before it. The first of them is at this stage.
follows : (stage : Stage) (before : List Event) (event : Event) (later : List Event) →
    AllFollow MayFollowInText stage (before ++ event ∷ later) → MayFollowInText (fold next_stage stage before) event
follows stage [] event later follow = follow.0
follows stage (first ∷ others) event later follow = follows (next_stage stage first) others event later follow.1

-- The same from the beginning.
pub each_may_follow : EachMayFollow
each_may_follow before event later follow = follows BeforeRoot before event later follow
