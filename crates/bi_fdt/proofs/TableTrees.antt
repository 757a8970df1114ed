use Rattle.std.proofs.Common.{◌≡◌, ℕ, ◌+◌, ◌<◌, List, [], ◌∷◌, ◌++◌, map, refl, sym, ap, ◌∙◌, arith, rules}
use Rattle.std.proofs.lemmas.Bool.{lt-ltb, le-ltb, eq-eqb, ne_eqb}
use Rattle.std.proofs.lemmas.List.{append_assoc, append-nil}
use Rattle.bi_blob.specs.Tree.{Nodes, none, node, Root, FileProperty, FileNode, as_nodes}
use Rattle.bi_blob.specs.Events.{file_events_of}
use Rattle.bi_fdt.specs.TableItems.{TableItem, NodeItem, PropertyItem, first_properties, nodes_of, items_of}
use Rattle.bi_fdt.specs.Content.{root_in, first_as_root}
use Rattle.bi_fdt.proofs.Items.{table_of, node_items, items_of-nodes}

-- The nodes of a tree's table are the tree.

-- Items are none, or begin with a node that is less deep.
abbrev pub EndsAbove : ℕ → List TableItem → Type 0
EndsAbove depth [] = Unit {0}
EndsAbove depth (PropertyItem property ∷ items) = ⊥
EndsAbove depth (NodeItem own place name ∷ items) = own < depth

-- What nodes there are by the depth of the first.
pub nodes-same : (depth own place : ℕ) (name : List ℕ) (items : List TableItem) → own ≡ depth →
    nodes_of depth (NodeItem own place name ∷ items)
    ≡ node name (record { place = place; properties = first_properties items }) (nodes_of (depth + 1) items) (nodes_of depth items)
nodes-same depth own place name items same = search (rules, eq-eqb)

pub nodes-deeper : (depth own place : ℕ) (name : List ℕ) (items : List TableItem) → depth < own →
    nodes_of depth (NodeItem own place name ∷ items) ≡ nodes_of depth items
nodes-deeper depth own place name items deeper = search (rules, ne_eqb, lt-ltb)

pub nodes-above : (depth own place : ℕ) (name : List ℕ) (items : List TableItem) → own < depth →
    nodes_of depth (NodeItem own place name ∷ items) ≡ none
nodes-above depth own place name items above = search (rules, ne_eqb, le-ltb)

nodes-end : (depth : ℕ) (items : List TableItem) → EndsAbove depth items → nodes_of depth items ≡ none
nodes-end depth [] ends = refl
nodes-end depth (PropertyItem property ∷ items) ends = absurd ends
nodes-end depth (NodeItem own place name ∷ items) ends = nodes-above depth own place name items ends

first-end : (depth : ℕ) (items : List TableItem) → EndsAbove depth items → first_properties items ≡ []
first-end depth [] ends = refl
first-end depth (PropertyItem property ∷ items) ends = absurd ends
first-end depth (NodeItem own place name ∷ items) ends = refl

pub nodes-properties : (depth : ℕ) (properties : List FileProperty) (items : List TableItem) →
    nodes_of depth (map PropertyItem properties ++ items) ≡ nodes_of depth items
nodes-properties depth [] items = refl
nodes-properties depth (p ∷ ps) items = nodes-properties depth ps items

first-properties : (properties : List FileProperty) (items : List TableItem) →
    first_properties (map PropertyItem properties ++ items) ≡ properties ++ first_properties items
first-properties [] items = refl
first-properties (p ∷ ps) items = ap (λ l. p ∷ l) (first-properties ps items)

ends-more : (depth : ℕ) (items : List TableItem) → EndsAbove depth items → EndsAbove (depth + 1) items
ends-more depth [] ends = tt
ends-more depth (PropertyItem property ∷ items) ends = absurd ends
ends-more depth (NodeItem own place name ∷ items) ends = omega arith

-- After nodes comes what is less deep than those below them.
ends-nodes : (depth : ℕ) (nodes : Nodes FileNode) (items : List TableItem) → EndsAbove depth items →
    EndsAbove (depth + 1) (node_items depth nodes ++ items)
ends-nodes depth none items ends = ends-more depth items ends
ends-nodes depth (node name own children later) items ends = omega arith

ends-children : (depth : ℕ) (nodes : Nodes FileNode) (items : List TableItem) → EndsAbove (depth + 1) items →
    EndsAbove (depth + 1 + 1) (node_items (depth + 1) nodes ++ items)
ends-children depth nodes items ends = ends-nodes (depth + 1) nodes items ends

-- The items of a node and its siblings, in parts.
parts : (properties below after items : List TableItem) →
    (properties ++ (below ++ after)) ++ items ≡ properties ++ (below ++ (after ++ items))
parts properties below after items = search (rules, append_assoc)

-- Nodes that are deeper are passed over.
pub nodes-passed : (depth own : ℕ) (nodes : Nodes FileNode) (items : List TableItem) → depth < own →
    nodes_of depth (node_items own nodes ++ items) ≡ nodes_of depth items
nodes-passed depth own none items deeper = refl
nodes-passed depth own (node name n children later) items deeper =
    nodes-deeper depth own n.place name
    ((map PropertyItem n.properties ++ (node_items (own + 1) children ++ node_items own later)) ++ items) deeper
    ∙ ap (nodes_of depth) (parts (map PropertyItem n.properties) (node_items (own + 1) children) (node_items own later) items)
    ∙ nodes-properties depth n.properties (node_items (own + 1) children ++ (node_items own later ++ items))
    ∙ nodes-passed depth (own + 1) children (node_items own later ++ items) (omega arith)
    ∙ nodes-passed depth own later items deeper

-- The nodes of their items are the nodes.
pub nodes-parsed : (depth : ℕ) (nodes : Nodes FileNode) (items : List TableItem) → EndsAbove depth items →
    nodes_of depth (node_items depth nodes ++ items) ≡ nodes
nodes-parsed depth none items ends = nodes-end depth items ends
nodes-parsed depth (node name own children later) items ends =
    let after : List TableItem = node_items depth later ++ items in
    let below : List TableItem = node_items (depth + 1) children ++ after in
    let rest : List TableItem = map PropertyItem own.properties ++ below in
    let ends_after : EndsAbove (depth + 1) after = ends-nodes depth later items ends in
    let first : first_properties rest ≡ own.properties =
    first-properties own.properties below
    ∙ ap (λ l. own.properties ++ l) (first-end (depth + 1 + 1) below (ends-children depth children after ends_after))
    ∙ append-nil own.properties in
    let inner : nodes_of (depth + 1) rest ≡ children = nodes-properties (depth + 1) own.properties below
    ∙ nodes-parsed (depth + 1) children after ends_after in
    let outer : nodes_of depth rest ≡ later =
    nodes-properties depth own.properties below ∙ nodes-passed depth (depth + 1) children after (omega arith)
    ∙ nodes-parsed depth later items ends in
    nodes-same depth depth own.place name
    ((map PropertyItem own.properties ++ (node_items (depth + 1) children ++ node_items depth later)) ++ items) refl
    ∙ ap (λ l. node name (record { place = own.place; properties = first_properties l }) (nodes_of (depth + 1) l) (nodes_of depth l))
    (parts (map PropertyItem own.properties) (node_items (depth + 1) children) (node_items depth later) items)
    ∙ (λ i. node name (record { place = own.place; properties = first i }) (inner i) (outer i))

-- The tree of a tree's table is the tree.
pub nodes-table : (root : Root FileNode) → nodes_of 0 (table_of root) ≡ as_nodes root
nodes-table root =
    ap (nodes_of 0) (ap (items_of 0) (sym (append-nil (file_events_of root))) ∙ items_of-nodes 0 (as_nodes root) [])
    ∙ nodes-parsed 0 (as_nodes root) [] tt

pub root_in-table : (root : Root FileNode) → root_in (table_of root) ≡ root
root_in-table root = ap first_as_root (nodes-table root)
