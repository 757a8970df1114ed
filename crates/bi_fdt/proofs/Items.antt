use Rattle.std.proofs.Common.{◌≡◌, ℕ, ◌+◌, ◌-◌, ◌<◌, ◌≤◌, List, [], ◌∷◌, ◌++◌, length, map, refl, sym, ap, ◌∙◌, arith, rules}
use Rattle.std.specs.Prelude.{if◌then◌else◌}
use Rattle.std.proofs.lemmas.Bool.{lt-ltb, le-ltb}
use Rattle.std.proofs.lemmas.List.{append_assoc, append-nil, length-append, length-map}
use Rattle.bi_blob.specs.Tree.{Nodes, none, node, Root, FileProperty, FileNode, names}
use Rattle.bi_blob.specs.Events.{FileEvent, FileNodeStart, FileNodeProperty, FileNodeEnd, file_events, file_events_of}
use Rattle.bi_blob.specs.OpenNodes.{OpenFileNode, events_of_open_node, events_of_open_nodes}
use Rattle.bi_blob.proofs.Blobs.OpenNodes.{no_children}
use Rattle.bi_fdt.specs.TableItems.{TableItem, NodeItem, PropertyItem, items_of, count_inside}

-- The items of the events of nodes are the items of the nodes, and all items of an open node after its beginning are inside it.

-- The table of a tree.
abbrev pub table_of : Root FileNode → List TableItem
table_of root = items_of 0 (file_events_of root)

-- How many nodes are open after events.
abbrev pub depth_after : ℕ → List FileEvent → ℕ
depth_after depth [] = depth
depth_after depth (FileNodeStart place name ∷ later) = depth_after (depth + 1) later
depth_after depth (FileNodeProperty property ∷ later) = depth_after depth later
depth_after depth (FileNodeEnd ∷ later) = depth_after (depth - 1) later

-- Items of events one after the other.
pub items_of-append : (depth : ℕ) (es fs : List FileEvent) →
    items_of depth (es ++ fs) ≡ items_of depth es ++ items_of (depth_after depth es) fs
items_of-append depth [] fs = refl
items_of-append depth (FileNodeStart place name ∷ es) fs = ap (λ l. NodeItem depth place name ∷ l) (items_of-append (depth + 1) es fs)
items_of-append depth (FileNodeProperty property ∷ es) fs = ap (λ l. PropertyItem property ∷ l) (items_of-append depth es fs)
items_of-append depth (FileNodeEnd ∷ es) fs = items_of-append (depth - 1) es fs

pub depth_after-append : (depth : ℕ) (es fs : List FileEvent) → depth_after depth (es ++ fs) ≡ depth_after (depth_after depth es) fs
depth_after-append depth [] fs = refl
depth_after-append depth (FileNodeStart place name ∷ es) fs = depth_after-append (depth + 1) es fs
depth_after-append depth (FileNodeProperty property ∷ es) fs = depth_after-append depth es fs
depth_after-append depth (FileNodeEnd ∷ es) fs = depth_after-append (depth - 1) es fs

-- The items of nodes at this depth.
abbrev pub node_items : ℕ → Nodes FileNode → List TableItem
node_items depth none = []
node_items depth (node name own children later) =
    NodeItem depth own.place name
    ∷ (map PropertyItem own.properties ++ (node_items (depth + 1) children ++ node_items depth later))

pub items_of-properties : (depth : ℕ) (properties : List FileProperty) (es : List FileEvent) →
    items_of depth (map FileNodeProperty properties ++ es) ≡ map PropertyItem properties ++ items_of depth es
items_of-properties depth [] es = refl
items_of-properties depth (p ∷ ps) es = ap (λ l. PropertyItem p ∷ l) (items_of-properties depth ps es)

depth_after-properties : (depth : ℕ) (properties : List FileProperty) (es : List FileEvent) →
    depth_after depth (map FileNodeProperty properties ++ es) ≡ depth_after depth es
depth_after-properties depth [] es = refl
depth_after-properties depth (p ∷ ps) es = depth_after-properties depth ps es

-- The events of nodes have the items of the nodes, and leave the depth.
pub items_of-nodes : (depth : ℕ) (nodes : Nodes FileNode) (es : List FileEvent) →
    items_of depth (file_events nodes ++ es) ≡ node_items depth nodes ++ items_of depth es
items_of-nodes depth none es = refl
items_of-nodes depth (node name own children later) es =
    search (rules, append_assoc, items_of-properties, items_of-nodes (depth + 1) children, items_of-nodes depth later es)

pub depth_after-nodes : (depth : ℕ) (nodes : Nodes FileNode) (es : List FileEvent) →
    depth_after depth (file_events nodes ++ es) ≡ depth_after depth es
depth_after-nodes depth none es = refl
depth_after-nodes depth (node name own children later) es =
    search (rules, append_assoc, depth_after-properties, depth_after-nodes (depth + 1) children, depth_after-nodes depth later es)

-- The items of an open node.
abbrev pub open_items : ℕ → OpenFileNode → List TableItem
open_items depth o = NodeItem depth o.place o.name ∷ (map PropertyItem o.properties ++ node_items (depth + 1) o.children)

pub items_of-open : (depth : ℕ) (o : OpenFileNode) → items_of depth (events_of_open_node o) ≡ open_items depth o
items_of-open depth o =
    ap (λ l. NodeItem depth o.place o.name ∷ l)
    (items_of-properties (depth + 1) o.properties (file_events o.children)
    ∙ ap (λ l. map PropertyItem o.properties ++ l)
    (ap (items_of (depth + 1)) (sym (append-nil (file_events o.children))) ∙ items_of-nodes (depth + 1) o.children []
    ∙ append-nil (node_items (depth + 1) o.children)))

depth_after-open : (depth : ℕ) (o : OpenFileNode) → depth_after depth (events_of_open_node o) ≡ depth + 1
depth_after-open depth o =
    depth_after-properties (depth + 1) o.properties (file_events o.children)
    ∙ ap (depth_after (depth + 1)) (sym (append-nil (file_events o.children)))
    ∙ depth_after-nodes (depth + 1) o.children []

-- As many nodes are open after the events of open nodes.
pub depth_after-open_nodes : (o : OpenFileNode) (outer : List OpenFileNode) →
    depth_after 0 (events_of_open_nodes o outer) ≡ length outer + 1
depth_after-open_nodes o [] = depth_after-open 0 o
depth_after-open_nodes o (parent ∷ outer) = search (rules, depth_after-append, depth_after-open, depth_after-open_nodes parent outer)

-- The items of open nodes are those of the outer ones, and then those of the innermost.
pub items_of-open_nodes : (o parent : OpenFileNode) (outer : List OpenFileNode) →
    items_of 0 (events_of_open_nodes o (parent ∷ outer)) ≡ items_of 0 (events_of_open_nodes parent outer) ++ open_items (length outer + 1) o
items_of-open_nodes o parent outer = search (rules, items_of-append, depth_after-open_nodes, items_of-open)

-- Nodes deeper than a depth and all properties are inside it.
pub inside-properties : (depth : ℕ) (properties : List FileProperty) (items : List TableItem) →
    count_inside depth (map PropertyItem properties ++ items) ≡ length properties + count_inside depth items
inside-properties depth [] items = omega arith
inside-properties depth (p ∷ ps) items = search (rules, inside-properties depth ps items)

pub inside-deeper : (depth own place : ℕ) (name : List ℕ) (items : List TableItem) → depth < own →
    count_inside depth (NodeItem own place name ∷ items) ≡ count_inside depth items + 1
inside-deeper depth own place name items deeper = ap (λ b. if b then count_inside depth items + 1 else 0) (lt-ltb depth own deeper)

pub inside-stops : (depth own place : ℕ) (name : List ℕ) (items : List TableItem) → own ≤ depth →
    count_inside depth (NodeItem own place name ∷ items) ≡ 0
inside-stops depth own place name items stops = ap (λ b. if b then count_inside depth items + 1 else 0) (le-ltb depth own stops)

pub inside-nodes : (depth own : ℕ) (nodes : Nodes FileNode) (items : List TableItem) → depth < own →
    count_inside depth (node_items own nodes ++ items) ≡ length (node_items own nodes) + count_inside depth items
inside-nodes depth own none items deeper = omega arith
inside-nodes depth own (node name n children later) items deeper =
    let below : List TableItem = node_items (own + 1) children in
    let after : List TableItem = node_items own later in
    let properties : List TableItem = map PropertyItem n.properties in
    let shape : (properties ++ (below ++ after)) ++ items ≡ properties ++ (below ++ (after ++ items)) =
    append_assoc properties (below ++ after) items ∙ ap (λ l. properties ++ l) (append_assoc below after items) in
    let one : count_inside depth (NodeItem own n.place name ∷ ((properties ++ (below ++ after)) ++ items))
    ≡ count_inside depth (properties ++ (below ++ (after ++ items))) + 1 =
    inside-deeper depth own n.place name ((properties ++ (below ++ after)) ++ items) deeper ∙ ap (λ l. count_inside depth l + 1) shape in
    let two : count_inside depth (properties ++ (below ++ (after ++ items)))
    ≡ length n.properties + count_inside depth (below ++ (after ++ items)) =
    inside-properties depth n.properties (below ++ (after ++ items)) in
    let three : count_inside depth (below ++ (after ++ items)) ≡ length below + count_inside depth (after ++ items) =
    inside-nodes depth (own + 1) children (after ++ items) (omega arith) in
    let four : count_inside depth (after ++ items) ≡ length after + count_inside depth items = inside-nodes depth own later items deeper in
    let long : length (properties ++ (below ++ after))
    ≡ length n.properties + (length below + length after) = simp (length-append, length-map) in
    omega arith

-- All items of an open node after its beginning are inside it.
pub inside-open : (depth : ℕ) (o : OpenFileNode) →
    count_inside depth (map PropertyItem o.properties ++ node_items (depth + 1) o.children)
    ≡ length (map PropertyItem o.properties ++ node_items (depth + 1) o.children)
inside-open depth o =
    let below : List TableItem = node_items (depth + 1) o.children in
    let one : count_inside depth (map PropertyItem o.properties ++ below)
    ≡ length o.properties + count_inside depth below = inside-properties depth o.properties below in
    let two : count_inside depth (below ++ []) ≡ length below + 0 = inside-nodes depth (depth + 1) o.children [] (omega arith) in
    let same : below ++ [] ≡ below = append-nil below in
    let three : count_inside depth below ≡ length below = ap (count_inside depth) (sym same) ∙ two ∙ omega arith in
    let long : length (map PropertyItem o.properties ++ below) ≡ length o.properties + length below = simp (length-append, length-map) in
    omega arith

-- An open node without children has only its properties after its beginning.
pub childless_items : (depth : ℕ) (o : OpenFileNode) → names o.children ≡ [] →
    map PropertyItem o.properties ++ node_items (depth + 1) o.children ≡ map PropertyItem o.properties
childless_items depth o childless = search (rules, no_children, append-nil)
