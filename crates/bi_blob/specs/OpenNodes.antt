use Rattle.std.specs.Prelude.{◌≡◌, ℕ, ◌+◌, ◌≤◌, List, [], ◌∷◌, ◌++◌, map, length, reverse}
use Rattle.bi_blob.specs.Tokens.{Token}
use Rattle.bi_blob.specs.Tree.{Nodes, none, node, Root, FileProperty, FileNode, names, with_each}
use Rattle.bi_blob.specs.Tree.{depth, depth_of, property_of, properties_of, tree_without_places}
use Rattle.bi_blob.specs.Tree.{IsTree, AreNodes, AreProperties, IsChildName, IsNew}
use Rattle.bi_blob.specs.Events.{FileEvent, FileNodeStart, FileNodeProperty, file_events}
use Rattle.bi_blob.specs.Events.{file_events_of, EncodeEvents}
use Rattle.bi_blob.specs.Stages.{Stage, BeforeRoot, Inside, AfterRoot, OpenNode, with_child}
use Rattle.bi_blob.specs.Blob.{TreeBlocks, IsReadable}
use Rattle.bi_blob.specs.BlobFaults.{stage_after, ArePassed, place_after}

-- The tree of a structure block that is read up to some token: its open nodes, and what each of
-- them has so far (Devicetree Specification, 5.4.2).

-- An open node of a file, which has started and has not ended: its name, the place of its token,
-- and its properties and children so far.
pub record OpenFileNode : Type 0 where
  pub name : List ℕ
  pub place : ℕ
  pub properties : List FileProperty
  pub children : Nodes FileNode

-- The part of a tree that was read so far: nothing; open nodes, each inside the next; or all of it.
pub data TreeSoFar : Type 0 where
  NoTree : TreeSoFar
  OpenTree : (innermost : OpenFileNode) → (outer : List OpenFileNode) → TreeSoFar
  WholeTree : (root : Root FileNode) → TreeSoFar

-- A node with this name that starts at this place: it has no properties and no children yet.
abbrev pub new_node : List ℕ → ℕ → OpenFileNode
new_node name place = record { name = name; place = place; properties = []; children = none }

-- The same open node with one more property.
abbrev pub with_one_property : OpenFileNode → FileProperty → OpenFileNode
with_one_property innermost property =
    record innermost { properties = innermost.properties ++ property ∷ [] }

-- What an open node has itself: its place and its properties.
abbrev pub own_of : OpenFileNode → FileNode
own_of innermost = record { place = innermost.place; properties = innermost.properties }

-- A list of nodes with one more at its end.
abbrev pub with_last : {Own : Type 0} → Nodes Own → List ℕ → Own → Nodes Own → Nodes Own
with_last none last_name last_own last_children = node last_name last_own last_children none
with_last (node name own children later) last_name last_own last_children =
    node name own children (with_last later last_name last_own last_children)

-- The same open node with one more child, which has ended.
abbrev pub with_one_child : OpenFileNode → OpenFileNode → OpenFileNode
with_one_child parent child = record parent {
  children = with_last parent.children child.name (own_of child) child.children;
}

-- The names that an open node has so far.
abbrev pub open_node_of : OpenFileNode → OpenNode
open_node_of innermost = record {
  properties = map (λ p. p.name) innermost.properties;
  children = names innermost.children;
}

-- The names that the nodes around an open node with this name have so far, including its own name
-- among those of the children.
abbrev pub outer_nodes_of : List ℕ → List OpenFileNode → List OpenNode
outer_nodes_of name [] = []
outer_nodes_of name (parent ∷ outer) =
    with_child (open_node_of parent) name ∷ outer_nodes_of parent.name outer

-- The stage of the structure block.
abbrev pub stage_of : TreeSoFar → Stage
stage_of NoTree = BeforeRoot
stage_of (OpenTree innermost outer) =
    Inside (open_node_of innermost) (outer_nodes_of innermost.name outer)
stage_of (WholeTree root) = AfterRoot

-- The events of an open node so far: its start, its properties and its children.
abbrev pub events_of_open_node : OpenFileNode → List FileEvent
events_of_open_node innermost =
    FileNodeStart innermost.place innermost.name
    ∷ (map FileNodeProperty innermost.properties ++ file_events innermost.children)

-- The events of open nodes so far. The innermost node is the first argument.
abbrev pub events_of_open_nodes : OpenFileNode → List OpenFileNode → List FileEvent
events_of_open_nodes innermost [] = events_of_open_node innermost
events_of_open_nodes innermost (parent ∷ outer) =
    events_of_open_nodes parent outer ++ events_of_open_node innermost

-- The events of a tree so far.
abbrev pub events_so_far : TreeSoFar → List FileEvent
events_so_far NoTree = []
events_so_far (OpenTree innermost outer) = events_of_open_nodes innermost outer
events_so_far (WholeTree root) = file_events_of root

-- A node that may be open inside `above` other nodes.
pub record IsOpenNode (depth_limit above : ℕ) (innermost : OpenFileNode) : Type 0 where
  pub properties : AreProperties (map property_of innermost.properties)
  pub children : AreNodes AreProperties (with_each properties_of innermost.children)
  pub shallow : depth innermost.children + above + 1 ≤ depth_limit

-- An open node may be a child of the node around it.
pub record MayBeChild (parent child : OpenFileNode) : Type 0 where
  pub is_name : IsChildName child.name
  pub is_new : IsNew child.name (names parent.children)

-- Nodes that may be open, each inside the next. The last is the root.
abbrev pub AreOpenNodes : ℕ → OpenFileNode → List OpenFileNode → Type 0
AreOpenNodes depth_limit innermost [] =
    IsOpenNode depth_limit 0 innermost × (innermost.name ≡ [])
AreOpenNodes depth_limit innermost (parent ∷ outer) =
    IsOpenNode depth_limit (length outer + 1) innermost × MayBeChild parent innermost
    × AreOpenNodes depth_limit parent outer

-- A tree that a blob can hold, no deeper than a limit.
pub record IsWholeTree (depth_limit : ℕ) (root : Root FileNode) : Type 0 where
  pub is_tree : IsTree AreProperties (tree_without_places root)
  pub shallow : depth_of root ≤ depth_limit

-- The part of a tree that a blob can hold, no deeper than a limit.
abbrev pub IsTreeSoFar : ℕ → TreeSoFar → Type 0
IsTreeSoFar depth_limit NoTree = Unit {0}
IsTreeSoFar depth_limit (OpenTree innermost outer) = AreOpenNodes depth_limit innermost outer
IsTreeSoFar depth_limit (WholeTree root) = IsWholeTree depth_limit root

-- A reader of a structure block is at this offset: the tokens before it, listed with the newest
-- first, pass their checks, and they encode this much of a tree.
pub record IsOpenAt (blocks : TreeBlocks) (depth_limit place : ℕ) (so_far : TreeSoFar)
    : Type 0 where
  pub readable : IsReadable blocks
  pub tokens : List Token
  pub passed : ArePassed blocks depth_limit tokens
  pub is_place : place_after blocks tokens ≡ place
  pub is_stage : stage_after blocks.strings tokens ≡ stage_of so_far
  pub encodes :
      EncodeEvents blocks.strings blocks.begin (reverse tokens) (events_so_far so_far)
  pub is_tree_so_far : IsTreeSoFar depth_limit so_far
