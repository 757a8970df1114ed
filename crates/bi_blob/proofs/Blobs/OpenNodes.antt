use Rattle.std.proofs.Common.{◌≡◌, ℕ, ◌+◌, ◌≤◌, List, [], ◌∷◌, ◌++◌, map, refl, ap, arith, rules}
use Rattle.std.specs.List.{AllByRecursion}
use Rattle.std.proofs.lemmas.List.{append_assoc, append-nil, map_push}
use Rattle.bi_blob.specs.Tree.{Nodes, none, node, Root, Property, FileProperty, FileNode, names, with_each, depth, property_of, AreNodes}
use Rattle.bi_blob.specs.Tree.{AreProperties, IsChildName, IsPropertyName, IsNew, AreDistinct}
use Rattle.bi_blob.specs.Events.{FileNodeProperty, FileNodeEnd, file_events, file_events_of}
use Rattle.bi_blob.specs.Stages.{with_property, with_child}
use Rattle.bi_blob.specs.OpenNodes.{OpenFileNode, with_one_property, with_one_child, with_last, own_of, open_node_of, events_of_open_node}
use Rattle.bi_blob.specs.OpenNodes.{events_of_open_nodes}

-- Proves what one more property or child adds to open nodes: to their names, to their events, and to the conditions on them.

-- The root when it has ended.
abbrev pub ended_root : OpenFileNode → Root FileNode
ended_root outermost = record { own = own_of outermost; children = outermost.children }

-- What holds for each element of a list still holds with one more at its end for which it holds.
pub All-push : {X : Type 0} (P : X → Type 0) (xs : List X) (x : X) → AllByRecursion P xs → P x → AllByRecursion P (xs ++ x ∷ [])
All-push P [] x all last = (last, tt)
All-push P (y ∷ xs) x all last = (all.0, All-push P xs x all.1 last)

-- Names that are apart stay so with a new one at their end.
pub AreDistinct-push : (ns : List (List ℕ)) (n : List ℕ) → AreDistinct ns → IsNew n ns → AreDistinct (ns ++ n ∷ [])
AreDistinct-push [] n apart is_new = (tt, tt)
AreDistinct-push (m ∷ ns) n apart is_new = search (rules, All-push, AreDistinct-push ns n apart.1 is_new.1)

-- The names of properties are those of the properties without their places.
pub map-property_of : (ps : List FileProperty) → map (λ (q : Property). q.0) (map property_of ps) ≡ map (λ (p : FileProperty). p.name) ps
map-property_of [] = refl
map-property_of (p ∷ ps) = ap (λ l. p.name ∷ l) (map-property_of ps)

-- Properties that a node may have, and one more with a valid and new name.
pub AreProperties-push : (ps : List FileProperty) (p : FileProperty) → AreProperties (map property_of ps) → IsPropertyName p.name →
    IsNew p.name (map (λ (q : FileProperty). q.name) ps) → AreProperties (map property_of (ps ++ p ∷ []))
AreProperties-push ps p are is_name is_new = search (rules, map_push, All-push, AreDistinct-push, map-property_of)

pub names-with_last : {Own : Type 0} (nodes : Nodes Own) (name : List ℕ) (own : Own) (children : Nodes Own) →
    names (with_last nodes name own children) ≡ names nodes ++ name ∷ []
names-with_last none name own children = refl
names-with_last (node n o cs later) name own children = ap (λ l. n ∷ l) (names-with_last later name own children)

pub with_each-with_last : {A B : Type 0} (change : A → B) (nodes : Nodes A) (name : List ℕ) (own : A) (children : Nodes A) →
    with_each change (with_last nodes name own children) ≡ with_last (with_each change nodes) name (change own) (with_each change children)
with_each-with_last change none name own children = refl
with_each-with_last change (node n o cs later) name own children = search (rules, with_each-with_last change later name own children)

pub file_events-with_last : (nodes : Nodes FileNode) (name : List ℕ) (with_places : FileNode) (children : Nodes FileNode) →
    file_events (with_last nodes name with_places children) ≡ file_events nodes ++ file_events (node name with_places children none)
file_events-with_last none name with_places children = refl
file_events-with_last (node n l cs later) name with_places children =
    search (rules, append_assoc, file_events-with_last later name with_places children)

-- A list of nodes is as deep as what it had, or as its last node.
pub depth-with_last : {Own : Type 0} (nodes : Nodes Own) (name : List ℕ) (own : Own) (children : Nodes Own) (limit : ℕ) →
    depth nodes ≤ limit → depth children + 1 ≤ limit → depth (with_last nodes name own children) ≤ limit
depth-with_last none name own children limit first last = omega arith
depth-with_last (node n o cs later) name own children limit first last =
    search (rules, depth-with_last later name own children limit (omega arith) last)

-- Nodes that a tree may have, and one more at their end with a valid and new name.
pub AreNodes-with_last : {Own : Type 0} (IsOwn : Own → Type 0) (nodes : Nodes Own) (name : List ℕ) (own : Own) (children : Nodes Own) →
    AreNodes IsOwn nodes → IsChildName name → IsNew name (names nodes) → IsOwn own → AreNodes IsOwn children →
    AreNodes IsOwn (with_last nodes name own children)
AreNodes-with_last IsOwn none name own children are is_name is_new is_own are_children =
    (record { is_name = is_name; is_own = is_own; is_new = tt }, are_children, tt)
AreNodes-with_last IsOwn (node n o cs later) name own children are is_name is_new is_own are_children =
    search (rules, names-with_last, All-push, AreNodes-with_last IsOwn later name own children are.2 is_name is_new.1 is_own are_children)

-- The names of an open node after one more property.
pub open_node_of-property : (o : OpenFileNode) (p : FileProperty) →
    open_node_of (with_one_property o p) ≡ with_property (open_node_of o) p.name
open_node_of-property o p = search (rules, map_push)

-- The names of an open node after one more child.
pub open_node_of-child : (parent child : OpenFileNode) →
    open_node_of (with_one_child parent child) ≡ with_child (open_node_of parent) child.name
open_node_of-child parent child = search (rules, names-with_last)

-- A node without names of children has none.
pub no_children : (nodes : Nodes FileNode) → names nodes ≡ [] → nodes ≡ none
no_children none e = refl
no_children (node n l cs later) e = absurd cc

-- One more property of an open node without children is one more event.
events_of_open_node-property : (o : OpenFileNode) (p : FileProperty) → names o.children ≡ [] →
    events_of_open_node (with_one_property o p) ≡ events_of_open_node o ++ FileNodeProperty p ∷ []
events_of_open_node-property o p childless = search (rules, no_children, append-nil, map_push)

-- The events of all open nodes after one more property of the innermost.
pub events_of_open_nodes-property : (o : OpenFileNode) (outer : List OpenFileNode) (p : FileProperty) → names o.children ≡ [] →
    events_of_open_nodes (with_one_property o p) outer ≡ events_of_open_nodes o outer ++ FileNodeProperty p ∷ []
events_of_open_nodes-property o [] p childless = events_of_open_node-property o p childless
events_of_open_nodes-property o (parent ∷ outer) p childless = search (rules, events_of_open_node-property, append_assoc)

-- The events of a node when it has ended.
events_of_open_node-closed : (child : OpenFileNode) →
    file_events (node child.name (own_of child) child.children none) ≡ events_of_open_node child ++ FileNodeEnd ∷ []
events_of_open_node-closed child = search (rules, append_assoc)

events_of_open_node-child : (parent child : OpenFileNode) →
    events_of_open_node (with_one_child parent child) ≡ events_of_open_node parent ++ (events_of_open_node child ++ FileNodeEnd ∷ [])
events_of_open_node-child parent child = search (rules, file_events-with_last, events_of_open_node-closed, append_assoc)

-- The events of all open nodes after the innermost has ended.
pub events_of_open_nodes-child : (parent child : OpenFileNode) (outer : List OpenFileNode) →
    events_of_open_nodes (with_one_child parent child) outer ≡ events_of_open_nodes child (parent ∷ outer) ++ FileNodeEnd ∷ []
events_of_open_nodes-child parent child [] = search (rules, events_of_open_node-child, append_assoc)
events_of_open_nodes-child parent child (grandparent ∷ outer) = search (rules, events_of_open_node-child, append_assoc)

-- The events of a tree are those of its root when it has ended.
pub events_of_open_nodes-root : (outermost : OpenFileNode) → outermost.name ≡ [] →
    file_events_of (ended_root outermost) ≡ events_of_open_node outermost ++ FileNodeEnd ∷ []
events_of_open_nodes-root outermost unnamed = search (rules, events_of_open_node-closed)
