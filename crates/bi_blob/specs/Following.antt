use Rattle.std.specs.Prelude.{◌≡◌, ℕ, ◌-◌, ◌<◌, List, [], ◌∷◌, length, fold, Option, IfSome, ⊤}
use Rattle.std.specs.List.{slice_get}
use Rattle.std.specs.Ordering.{nat_cmp}
use Rattle.std.proofs.Common.{Less}
use Rattle.std.specs.Cmp.Lexicographic.{slice_cmp}
use Rattle.bi_blob.specs.Tree.{IsChildName, IsPropertyName, IsNew}
use Rattle.bi_blob.specs.Events.{Event, NodeStart, NodeProperty, NodeEnd}
use Rattle.bi_blob.specs.Stages.{Stage, BeforeRoot, Inside, AfterRoot, next_stage}

-- Which events may follow others, in a tree that a blob can hold (Devicetree Specification, 2.2,
-- 5.4.2) and in a normal text (profile of this project).

-- The most nodes that may be open at once in a normal text, including the root (profile of this
-- project).
abbrev pub most_open_nodes : ℕ
most_open_nodes = 64

-- A node with the given name may begin. It is the root, and the name is empty; or it is a child:
-- fewer nodes than the limit are open, and the name is one that a child may have and that no
-- earlier child of the same node has.
abbrev pub MayBegin : (depth_limit : ℕ) → List ℕ → Stage → Type 0
MayBegin depth_limit name BeforeRoot = (0 < depth_limit) × (name ≡ [])
MayBegin depth_limit name (Inside innermost outer) =
    (length (innermost ∷ outer) < depth_limit) × IsChildName name × IsNew name innermost.children
MayBegin depth_limit name AfterRoot = ⊥

-- The innermost open node may have a property with the given name: it has no child yet, and no
-- property with that name.
abbrev pub MayHaveProperty : List ℕ → Stage → Type 0
MayHaveProperty name (Inside innermost outer) =
    (innermost.children ≡ []) × IsPropertyName name × IsNew name innermost.properties
MayHaveProperty name stage = ⊥

-- The last of some names, if there is one.
abbrev pub last_name : List (List ℕ) → Option (List ℕ)
last_name names = slice_get names (length names - 1)

-- The innermost open node may have a property with the given name in a normal text: it has no child
-- yet, and its properties so far have names that are less in byte order.
abbrev pub MayHaveNextProperty : List ℕ → Stage → Type 0
MayHaveNextProperty name (Inside innermost outer) =
    (innermost.children ≡ []) × IsPropertyName name
    × IfSome (last_name innermost.properties) (λ last. slice_cmp nat_cmp last name ≡ Less)
MayHaveNextProperty name stage = ⊥

-- A node may end: one is open.
abbrev pub MayEnd : Stage → Type 0
MayEnd (Inside innermost outer) = ⊤
MayEnd stage = ⊥

-- This event may come at this stage of a blob.
abbrev pub MayFollow : (depth_limit : ℕ) → Stage → Event → Type 0
MayFollow depth_limit stage (NodeStart name) = MayBegin depth_limit name stage
MayFollow depth_limit stage (NodeProperty property) = MayHaveProperty property.0 stage
MayFollow depth_limit stage NodeEnd = MayEnd stage

-- This event may come at this stage of a normal text.
abbrev pub MayFollowInText : Stage → Event → Type 0
MayFollowInText stage (NodeStart name) = MayBegin most_open_nodes name stage
MayFollowInText stage (NodeProperty property) = MayHaveNextProperty property.0 stage
MayFollowInText stage NodeEnd = MayEnd stage

-- Each of these events may follow those before it, the first at this stage.
abbrev pub AllFollow : (Stage → Event → Type 0) → Stage → List Event → Type 0
AllFollow May stage [] = ⊤
AllFollow May stage (event ∷ later) =
    May stage event × AllFollow May (next_stage stage event) later

-- The stage after these events, if the first of them is the first of all.
abbrev pub stage_of_events : List Event → Stage
stage_of_events events = fold next_stage BeforeRoot events

-- Each of these events may follow those before it, and after all of them the root has ended.
pub record AreClosedEvents (May : Stage → Event → Type 0) (events : List Event) : Type 0 where
  pub follow : AllFollow May BeforeRoot events
  pub closed : stage_of_events events ≡ AfterRoot
