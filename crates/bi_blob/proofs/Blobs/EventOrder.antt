use Rattle.std.proofs.Common.{◌≡◌, ℕ, suc, ◌+◌, ◌<◌, ◌≤◌, List, [], ◌∷◌, ◌++◌, length, map, fold, refl, sym, subst, arith, rules}
use Rattle.std.specs.Prelude.{IsTrue}
use Rattle.std.specs.List.{AllByRecursion}
use Rattle.std.proofs.lemmas.List.{append_assoc, append-nil}
use Rattle.bi_blob.specs.Tokens.{begin_node_number, prop_number, end_node_number}
use Rattle.bi_blob.specs.Tree.{Nodes, none, node, Root, Property, names, depth, depth_of, IsTree, AreNodes, AreProperties, IsPropertyName}
use Rattle.bi_blob.specs.Tree.{IsNew, AreDistinct}
use Rattle.bi_blob.specs.Events.{Event, NodeProperty, NodeEnd, events, events_of}
use Rattle.bi_blob.specs.Stages.{Stage, BeforeRoot, Inside, AfterRoot, OpenNode, next_stage, open_nodes, child_names, property_names}
use Rattle.bi_blob.specs.Stages.{is_expected}
use Rattle.bi_blob.specs.Following.{MayBegin, MayHaveProperty, MayEnd, MayFollow, AllFollow}
use Rattle.bi_blob.specs.BlobFaults.{MayBeNamed}
use Rattle.bi_blob.proofs.Blobs.OpenNodes.{All-push}
use Rattle.bi_blob.proofs.Blobs.OneTree.{append-regroup}

-- The events of a tree may follow one another, and end the root.

-- What a node that may begin passes of the checks of its token.
pub start_passes : (depth_limit : ℕ) (stage : Stage) (name : List ℕ) → MayBegin depth_limit name stage →
    IsTrue (is_expected stage begin_node_number) × (length (open_nodes stage) < depth_limit) × MayBeNamed stage name
    × IsNew name (child_names stage)
start_passes depth_limit BeforeRoot name may = (refl, may.0, may.1, tt)
start_passes depth_limit (Inside innermost outer) name may = (refl, may.0, may.1, may.2)
start_passes depth_limit AfterRoot name may = absurd may

-- What a property that a node may have passes of the checks of its token.
pub property_passes : (stage : Stage) (name : List ℕ) → MayHaveProperty name stage →
    IsTrue (is_expected stage prop_number) × (child_names stage ≡ []) × IsPropertyName name × IsNew name (property_names stage)
property_passes BeforeRoot name may = absurd may
property_passes (Inside innermost outer) name may = (refl, may.0, may.1, may.2)
property_passes AfterRoot name may = absurd may

-- A node may end where its token may come.
pub end_node_is_expected : (stage : Stage) → MayEnd stage → IsTrue (is_expected stage end_node_number)
end_node_is_expected BeforeRoot may = absurd may
end_node_is_expected (Inside innermost outer) may = refl
end_node_is_expected AfterRoot may = absurd may

-- These events may follow one another from this stage on, and the root has ended after them.
abbrev pub FollowToEnd : (Stage → Event → Type 0) → Stage → List Event → Type 0
FollowToEnd May stage [] = stage ≡ AfterRoot
FollowToEnd May stage (event ∷ later) = May stage event × FollowToEnd May (next_stage stage event) later

-- Events that may follow one another, and after which the root has ended.
pub to_end : (May : Stage → Event → Type 0) (stage : Stage) (events : List Event) → AllFollow May stage events →
    fold next_stage stage events ≡ AfterRoot → FollowToEnd May stage events
to_end May stage [] follow closed = closed
to_end May stage (event ∷ later) follow closed = (follow.0, to_end May (next_stage stage event) later follow.1 closed)

-- Events that follow to the end may follow one another.
pub follow_to_end : (May : Stage → Event → Type 0) (stage : Stage) (events : List Event) → FollowToEnd May stage events →
    AllFollow May stage events
follow_to_end May stage [] follow = tt
follow_to_end May stage (event ∷ later) follow = (follow.0, follow_to_end May (next_stage stage event) later follow.1)

-- After events that follow to the end the root has ended.
pub closed_at_end : (May : Stage → Event → Type 0) (stage : Stage) (events : List Event) → FollowToEnd May stage events →
    fold next_stage stage events ≡ AfterRoot
closed_at_end May stage [] follow = follow
closed_at_end May stage (event ∷ later) follow = closed_at_end May (next_stage stage event) later follow.1

-- An open node with these names.
abbrev pub open_with : List (List ℕ) → List (List ℕ) → OpenNode
open_with properties children = record { properties = properties; children = children }

-- Names that are new to some names and to one more are new to all of them.
new_to_more : (name : List ℕ) (others later : List (List ℕ)) → AllByRecursion (λ n. IsNew n others) later → IsNew name later →
    AllByRecursion (λ n. IsNew n (others ++ name ∷ [])) later
new_to_more name others [] are_new is_new = tt
new_to_more name others (n ∷ later) are_new is_new = search (rules, All-push, new_to_more name others later are_new.1 is_new.1)

-- All names are new to none.
new_to_none : (later : List (List ℕ)) → AllByRecursion (λ n. IsNew n []) later
new_to_none [] = tt
new_to_none (n ∷ later) = (tt, new_to_none later)

-- The names of properties.
abbrev pub property_names_of : List Property → List (List ℕ)
property_names_of properties = map (λ property. property.0) properties

module _ (depth_limit : ℕ) where
  -- The properties of a node may follow its start.
  pub properties_follow : (ps : List Property) (ns : List (List ℕ)) (outer : List OpenNode) (later : List Event) →
      AllByRecursion (λ p. IsPropertyName p.0) ps → AreDistinct (property_names_of ps) →
      AllByRecursion (λ n. IsNew n ns) (property_names_of ps) →
      FollowToEnd (MayFollow depth_limit) (Inside (open_with (ns ++ property_names_of ps) []) outer) later →
      FollowToEnd (MayFollow depth_limit) (Inside (open_with ns []) outer) (map NodeProperty ps ++ later)
  properties_follow [] ns outer later named distinct are_new follow =
      subst (λ l. FollowToEnd (MayFollow depth_limit) (Inside (open_with l []) outer) later) (append-nil ns) follow
  properties_follow (p ∷ ps) ns outer later named distinct are_new follow = (
    (refl, named.0, are_new.0),
    properties_follow ps (ns ++ p.0 ∷ []) outer later named.1 distinct.1
        (new_to_more p.0 ns (property_names_of ps) are_new.1 distinct.0)
        (subst (λ l. FollowToEnd (MayFollow depth_limit) (Inside (open_with l []) outer) later)
        (sym (append_assoc ns (p.0 ∷ []) (property_names_of ps))) follow),
  )

  -- The children of a node may follow its properties and the children before them.
  pub nodes_follow : (nodes : Nodes (List Property)) (ns cs : List (List ℕ)) (outer : List OpenNode) (later : List Event) →
      AreNodes AreProperties nodes → AllByRecursion (λ n. IsNew n cs) (names nodes) → depth nodes + suc (length outer) ≤ depth_limit →
      FollowToEnd (MayFollow depth_limit) (Inside (open_with ns (cs ++ names nodes)) outer) later →
      FollowToEnd (MayFollow depth_limit) (Inside (open_with ns cs) outer) (events nodes ++ later)
  nodes_follow none ns cs outer later are are_new shallow follow = search (rules, append-nil)
  nodes_follow (node name ps children siblings) ns cs outer later are are_new shallow follow =
      let round : List OpenNode = open_with ns (cs ++ name ∷ []) ∷ outer in
      let trailing : List Event = NodeEnd ∷ (events siblings ++ later) in
      let after_all : FollowToEnd (MayFollow depth_limit) (Inside (open_with ns ((cs ++ name ∷ []) ++ names siblings)) outer) later =
      search (rules, append_assoc) in
      let closed : FollowToEnd (MayFollow depth_limit) (Inside (open_with (property_names_of ps) (names children)) round) trailing = (
        tt,
        nodes_follow siblings ns (cs ++ name ∷ []) outer later are.2
            (new_to_more name cs (names siblings) are_new.1 are.0.is_new) (omega arith) after_all,
      ) in
      let inner : FollowToEnd (MayFollow depth_limit) (Inside (open_with (property_names_of ps) []) round) (events children ++ trailing) =
      nodes_follow children (property_names_of ps) [] round trailing are.1 (new_to_none (names children)) (omega arith) closed in
      let stage_after : FollowToEnd (MayFollow depth_limit) (Inside (open_with [] []) round)
      (map NodeProperty ps ++ (events children ++ trailing)) =
      properties_follow ps [] round (events children ++ trailing) are.0.is_own.named are.0.is_own.distinct
      (new_to_none (property_names_of ps)) inner in (
        (omega arith, are.0.is_name, are_new.0),
        subst (FollowToEnd (MayFollow depth_limit) (Inside (open_with [] []) round))
            (sym (append-regroup (map NodeProperty ps) (events children) (NodeEnd ∷ events siblings) later)) stage_after,
      )

  -- The events of a tree may follow one another, and end the root.
  pub tree_follows : (root : Root (List Property)) → IsTree AreProperties root → depth_of root ≤ depth_limit →
      FollowToEnd (MayFollow depth_limit) BeforeRoot (events_of root)
  tree_follows root is shallow =
      let closed : FollowToEnd (MayFollow depth_limit) (Inside (open_with (property_names_of root.own) (names root.children)) [])
      (NodeEnd ∷ []) = (tt, refl) in
      let inner : FollowToEnd (MayFollow depth_limit) (Inside (open_with (property_names_of root.own) []) [])
      (events root.children ++ NodeEnd ∷ []) =
      nodes_follow root.children (property_names_of root.own) [] [] (NodeEnd ∷ []) is.children
      (new_to_none (names root.children)) (omega arith) closed in search (rules, properties_follow, new_to_none)
