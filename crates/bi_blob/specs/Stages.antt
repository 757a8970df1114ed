use Rattle.std.specs.Prelude.{ℕ, List, [], ◌∷◌, ◌++◌, Bool, ◌||◌, ◌==◌}
use Rattle.bi_blob.specs.Tokens.{begin_node_number, end_node_number, prop_number, nop_number}
use Rattle.bi_blob.specs.Tokens.{end_number}
use Rattle.bi_blob.specs.Events.{Event, NodeStart, NodeProperty, NodeEnd}

-- How far a structure block is in its tree (Devicetree Specification, 5.4.2), for readers and
-- writers of blobs.

-- An open node: the names of its properties and of its children so far, in order.
pub record OpenNode : Type 0 where
  pub properties : List (List ℕ)
  pub children : List (List ℕ)

-- The root has not started; some nodes are open, the innermost first; or the root has ended.
pub data Stage : Type 0 where
  BeforeRoot : Stage
  Inside : (innermost : OpenNode) → (outer : List OpenNode) → Stage
  AfterRoot : Stage

-- A node that has just started.
abbrev pub empty_node : OpenNode
empty_node = record { properties = []; children = [] }

-- The same node with one more property.
abbrev pub with_property : OpenNode → List ℕ → OpenNode
with_property innermost name = record innermost { properties = innermost.properties ++ name ∷ [] }

-- The same node with one more child.
abbrev pub with_child : OpenNode → List ℕ → OpenNode
with_child innermost name = record innermost { children = innermost.children ++ name ∷ [] }

-- The stage after one more event. Outside a node, properties and ends change nothing. A node can
-- always start.
abbrev pub next_stage : Stage → Event → Stage
next_stage (Inside innermost outer) (NodeStart name) =
    Inside empty_node (with_child innermost name ∷ outer)
next_stage stage (NodeStart name) = Inside empty_node []
next_stage (Inside innermost outer) (NodeProperty property) =
    Inside (with_property innermost property.0) outer
next_stage (Inside innermost (parent ∷ outer)) NodeEnd = Inside parent outer
next_stage (Inside innermost []) NodeEnd = AfterRoot
next_stage stage event = stage

-- The open nodes, the innermost first.
abbrev pub open_nodes : Stage → List OpenNode
open_nodes (Inside innermost outer) = innermost ∷ outer
open_nodes stage = []

-- The names of the properties that the innermost open node has so far.
abbrev pub property_names : Stage → List (List ℕ)
property_names (Inside innermost outer) = innermost.properties
property_names stage = []

-- The names of the children that the innermost open node has so far.
abbrev pub child_names : Stage → List (List ℕ)
child_names (Inside innermost outer) = innermost.children
child_names stage = []

-- Whether the token with this number may come next: before the root FDT_NOP and FDT_BEGIN_NODE,
-- inside a node all tokens but FDT_END, after the root FDT_NOP and FDT_END (5.4.2).
abbrev pub is_expected : Stage → ℕ → Bool
is_expected BeforeRoot number = number == nop_number || number == begin_node_number
is_expected (Inside innermost outer) number =
    number == nop_number || number == begin_node_number || number == end_node_number || number ==
    prop_number
is_expected AfterRoot number = number == nop_number || number == end_number
