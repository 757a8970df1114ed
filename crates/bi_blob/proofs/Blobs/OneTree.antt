use Rattle.std.proofs.Common.{◌≡◌, List, [], ◌∷◌, ◌++◌, map, refl, sym, ap, subst, ◌∙◌, rules}
use Rattle.std.proofs.lemmas.List.{append_assoc}
use Rattle.bi_blob.specs.Tree.{Nodes, none, node, Root, FileProperty, FileNode, as_nodes}
use Rattle.bi_blob.specs.Events.{FileEvent, FileNodeStart, FileNodeProperty, FileNodeEnd, file_events, file_events_of}

-- Proves that events are those of at most one tree.

-- These events do not begin with the start of a node: a list of siblings has ended.
pub IsEndOfNodes : List FileEvent → Type 0
IsEndOfNodes [] = Unit {0}
IsEndOfNodes (FileNodeStart place name ∷ token_events) = ⊥
IsEndOfNodes (FileNodeProperty property ∷ token_events) = Unit {0}
IsEndOfNodes (FileNodeEnd ∷ token_events) = Unit {0}

-- These events do not begin with a property: the properties of a node have ended.
pub IsEndOfProperties : List FileEvent → Type 0
IsEndOfProperties [] = Unit {0}
IsEndOfProperties (FileNodeStart place name ∷ token_events) = Unit {0}
IsEndOfProperties (FileNodeProperty property ∷ token_events) = ⊥
IsEndOfProperties (FileNodeEnd ∷ token_events) = Unit {0}

properties_agree : (ps qs : List FileProperty) (x y : List FileEvent) → IsEndOfProperties x → IsEndOfProperties y →
    map FileNodeProperty ps ++ x ≡ map FileNodeProperty qs ++ y → (ps ≡ qs) × (x ≡ y)
unfolding IsEndOfProperties
properties_agree [] [] x y end_x end_y e = (refl, e)
properties_agree [] (q ∷ qs) x y end_x end_y e = absurd (subst IsEndOfProperties e end_x)
properties_agree (p ∷ ps) [] x y end_x end_y e = absurd (subst IsEndOfProperties (sym e) end_y)
properties_agree (p ∷ ps) (q ∷ qs) x y end_x end_y e =
    let same : p ≡ q = cc in
    let rest : map FileNodeProperty ps ++ x ≡ map FileNodeProperty qs ++ y = cc in
    search (rules, properties_agree ps qs x y end_x end_y rest)

-- The properties of a node have ended where its children or its end follow.
ended_properties : (children : Nodes FileNode) (x : List FileEvent) → IsEndOfProperties (file_events children ++ (FileNodeEnd ∷ x))
unfolding IsEndOfProperties
ended_properties none x = tt
ended_properties (node name with_places children later) x = tt

pub append-regroup : {A : Type 0} (a b c x : List A) → (a ++ (b ++ c)) ++ x ≡ a ++ (b ++ (c ++ x))
append-regroup a b c x = append_assoc a (b ++ c) x ∙ ap (λ l. a ++ l) (append_assoc b c x)

-- Two lists of nodes with the same events, before events that do not continue them, are the same.
pub nodes_agree : (a b : Nodes FileNode) (x y : List FileEvent) → IsEndOfNodes x → IsEndOfNodes y →
    file_events a ++ x ≡ file_events b ++ y → (a ≡ b) × (x ≡ y)
unfolding IsEndOfNodes
nodes_agree none none x y end_x end_y e = (refl, e)
nodes_agree none (node n l children later) x y end_x end_y e = absurd (subst IsEndOfNodes e end_x)
nodes_agree (node n l children later) none x y end_x end_y e = absurd (subst IsEndOfNodes (sym e) end_y)
nodes_agree (node n l children later) (node m k others next_stage) x y end_x end_y e =
    let same_place : l.place ≡ k.place = cc in
    let same_name : n ≡ m = cc in
    let rest : (map FileNodeProperty l.properties ++ (file_events children ++ (FileNodeEnd ∷ file_events later))) ++ x
    ≡ (map FileNodeProperty k.properties ++ (file_events others ++ (FileNodeEnd ∷ file_events next_stage))) ++ y = cc in
    let ps : (l.properties ≡ k.properties)
    × (file_events children ++ (FileNodeEnd ∷ (file_events later ++ x)) ≡ file_events others
    ++ (FileNodeEnd ∷ (file_events next_stage ++ y))) =
    properties_agree l.properties k.properties _ _
    (ended_properties children (file_events later ++ x)) (ended_properties others (file_events next_stage ++ y))
    (sym (append-regroup (map FileNodeProperty l.properties) (file_events children) (FileNodeEnd ∷ file_events later) x)
    ∙ rest
    ∙ append-regroup (map FileNodeProperty k.properties) (file_events others) (FileNodeEnd ∷ file_events next_stage) y) in
    let inner : (children ≡ others) × (FileNodeEnd ∷ (file_events later ++ x) ≡ FileNodeEnd ∷ (file_events next_stage ++ y)) =
    nodes_agree children others (FileNodeEnd ∷ (file_events later ++ x)) (FileNodeEnd ∷ (file_events next_stage ++ y)) tt tt ps.1 in
    let closed : FileNodeEnd ∷ (file_events later ++ x) ≡ FileNodeEnd ∷ (file_events next_stage ++ y) = inner.1 in
    let outer : (later ≡ next_stage) × (x ≡ y) = nodes_agree later next_stage x y end_x end_y cc in
    ((λ i. node (same_name i) (record { place = same_place i; properties = ps.0 i }) (inner.0 i) (outer.0 i)), outer.1)

-- Two trees with the same events are the same.
pub trees_agree : (a b : Root FileNode) → file_events_of a ≡ file_events_of b → a ≡ b
unfolding IsEndOfNodes
trees_agree a b e =
    let same : node [] a.own a.children none ≡ node [] b.own b.children none =
    (nodes_agree (as_nodes a) (as_nodes b) [] [] tt tt (ap (λ l. l ++ []) e)).0 in
    search rules
