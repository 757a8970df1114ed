use Rattle.std.proofs.Common.{◌≡◌, ℕ, ◌<◌, Bool, true, false, List, [], ◌∷◌, ◌++◌, length, set, get_or, refl, sym, ap, subst, ◌∙◌, arith}
use Rattle.std.proofs.Common.{bytes_eq, option_map, slice_get, ◌≤◌, Option, Some, None, Bor, MatchOption}
use Rattle.std.proofs.lemmas.Option.{slice_get_past, slice_get_read}
use Rattle.std.specs.List.{HoldsAt, remove}
use Rattle.bi_blob.specs.Tree.{none, node, Root}
use Rattle.bi_tree.specs.Changes.{with_node, with_new_node, without_node, child_named}
use Rattle.bi_tree.specs.Properties.{TreePropertyModel}
use Rattle.bi_tree.specs.TreeNodes.{TreeNodeModel, below, index_named, names_of_models, nodes_of_models}

-- What a change of one node makes of a list of nodes.

-- Where a name is among nodes.
abbrev pub node_index : List ℕ → List TreeNodeModel → ℕ
node_index name nodes = index_named name (names_of_models nodes)

-- The first node with the name is changed.
abbrev IsChanged : List ℕ → (Root (List TreePropertyModel) → Root (List TreePropertyModel)) → (new other : TreeNodeModel) →
    List TreeNodeModel → Type 0
IsChanged name change new other nodes = node_index name nodes < length nodes →
    new.name ≡ (get_or nodes (node_index name nodes) other).name → below new ≡ change (below (get_or nodes (node_index name nodes) other))
    → nodes_of_models (set nodes (node_index name nodes) new) ≡ with_node name change (nodes_of_models nodes)

change_first : (first : TreeNodeModel) (later : List TreeNodeModel) (name : List ℕ)
    (change : Root (List TreePropertyModel) → Root (List TreePropertyModel)) (new other : TreeNodeModel) →
    IsChanged name change new other later → (b : Bool) → bytes_eq first.name name ≡ b →
    IsChanged name change new other (first ∷ later)
change_first first later name change new other rest true same within named is =
    let name_is = rw same at named in
    let below_is = rw same at is in
    rw same (λ i. node (name_is i) (below_is i).own (below_is i).children (nodes_of_models later))
change_first first later name change new other rest false differs within named is =
    let less = rw differs at within in
    let name_is = rw differs at named in
    let below_is = rw differs at is in
    rw differs (ap (λ l. node first.name first.own first.children l) (rest (omega (arith, less)) name_is below_is))

pub change_first_named : (nodes : List TreeNodeModel) (name : List ℕ) (change : Root (List TreePropertyModel) →
    Root (List TreePropertyModel)) (new other : TreeNodeModel) →
    IsChanged name change new other nodes
change_first_named [] name change new other within named is = absurd (omega (arith, within))
change_first_named (first ∷ later) name change new other within named is =
    change_first first later name change new other (change_first_named later name change new other) (bytes_eq first.name name) refl within
    named is

-- A node with a new name is added.
abbrev new_node : List ℕ → TreeNodeModel
new_node name = record { name = name; own = []; children = none }

abbrev IsAdded : List ℕ → List TreeNodeModel → Type 0
IsAdded name nodes = node_index name nodes ≡ length nodes →
    (nodes_of_models (nodes ++ new_node name ∷ []) ≡ with_new_node [] name (nodes_of_models nodes))
    × (node_index name (nodes ++ new_node name ∷ []) ≡ length nodes)

add_later : (first : TreeNodeModel) (later : List TreeNodeModel) (name : List ℕ) → IsAdded name later → (b : Bool) →
    bytes_eq first.name name ≡ b →
    IsAdded name (first ∷ later)
add_later first later name rest true same new = let no = rw same at new in absurd (omega (arith, no))
add_later first later name rest false differs new =
    let more = rw differs at new in
    let is = rest (omega (arith, more)) in
    (rw differs (ap (λ l. node first.name first.own first.children l) is.0), rw differs (omega (arith, is.1)))

added : (nodes : List TreeNodeModel) (name : List ℕ) → bytes_eq name name ≡ true → IsAdded name nodes
added [] name same new = (refl, rw same refl)
added (first ∷ later) name same new = add_later first later name (added later name same) (bytes_eq first.name name) refl new

-- If a node has the name, none is added.
abbrev IsThere : List ℕ → List TreeNodeModel → Type 0
IsThere name nodes = node_index name nodes < length nodes → nodes_of_models nodes ≡ with_new_node [] name (nodes_of_models nodes)

there_later : (first : TreeNodeModel) (later : List TreeNodeModel) (name : List ℕ) → IsThere name later → (b : Bool) →
    bytes_eq first.name name ≡ b →
    IsThere name (first ∷ later)
there_later first later name rest true same within = rw same refl
there_later first later name rest false differs within =
    let less = rw differs at within in
    rw differs (ap (λ l. node first.name first.own first.children l) (rest (omega (arith, less))))

there : (nodes : List TreeNodeModel) (name : List ℕ) → IsThere name nodes
there [] name within = absurd (omega (arith, within))
there (first ∷ later) name within = there_later first later name (there later name) (bytes_eq first.name name) refl within

-- The first node with a name is removed.
abbrev IsRemoved : List ℕ → List TreeNodeModel → Type 0
IsRemoved name nodes = node_index name nodes < length nodes →
    nodes_of_models (remove nodes (node_index name nodes)) ≡ without_node name (nodes_of_models nodes)

remove_first : (first : TreeNodeModel) (later : List TreeNodeModel) (name : List ℕ) → IsRemoved name later → (b : Bool) →
    bytes_eq first.name name ≡ b → IsRemoved name (first ∷ later)
remove_first first later name rest true same within = rw same refl
remove_first first later name rest false differs within =
    let less = rw differs at within in
    rw differs (ap (λ l. node first.name first.own first.children l) (rest (omega (arith, less))))

removed : (nodes : List TreeNodeModel) (name : List ℕ) → IsRemoved name nodes
removed [] name within = absurd (omega (arith, within))
removed (first ∷ later) name within = remove_first first later name (removed later name) (bytes_eq first.name name) refl within

-- Without a node of the name all stay.
abbrev IsKept : List ℕ → (Root (List TreePropertyModel) → Root (List TreePropertyModel)) → List TreeNodeModel → Type 0
IsKept name change nodes = node_index name nodes ≡ length nodes →
    (nodes_of_models nodes ≡ without_node name (nodes_of_models nodes))
    × (nodes_of_models nodes ≡ with_node name change (nodes_of_models nodes))

keep_first : (first : TreeNodeModel) (later : List TreeNodeModel) (name : List ℕ)
    (change : Root (List TreePropertyModel) → Root (List TreePropertyModel)) →
    IsKept name change later → (b : Bool) → bytes_eq first.name name ≡ b → IsKept name change (first ∷ later)
keep_first first later name change rest true same absent = let no = rw same at absent in absurd (omega (arith, no))
keep_first first later name change rest false differs absent =
    let more = rw differs at absent in
    let both = rest (omega (arith, more)) in (
      rw differs (ap (λ l. node first.name first.own first.children l) both.0),
      rw differs (ap (λ l. node first.name first.own first.children l) both.1),
    )

kept : (nodes : List TreeNodeModel) (name : List ℕ) (change : Root (List TreePropertyModel) → Root (List TreePropertyModel)) →
    IsKept name change nodes
kept [] name change absent = (refl, refl)
kept (first ∷ later) name change absent =
    keep_first first later name change (kept later name change) (bytes_eq first.name name) refl absent

-- The first node with a name is the one at its index, if there is one.
abbrev IsFound : List ℕ → List TreeNodeModel → Type 0
IsFound name nodes = child_named (nodes_of_models nodes) name ≡ option_map below (slice_get nodes (node_index name nodes))

find_first : (first : TreeNodeModel) (later : List TreeNodeModel) (name : List ℕ) → IsFound name later → (b : Bool) →
    bytes_eq first.name name ≡ b →
    IsFound name (first ∷ later)
find_first first later name rest true same = rw same refl
find_first first later name rest false differs = rw differs rest

found : (nodes : List TreeNodeModel) (name : List ℕ) → IsFound name nodes
found [] name = refl
found (first ∷ later) name = find_first first later name (found later name) (bytes_eq first.name name) refl

-- What a slice of nodes gives at an index.
pub read_at : (nodes slice : List TreeNodeModel) (index : ℕ) (result : Option (Bor TreeNodeModel)) → slice ≡ nodes →
    MatchOption result (length slice ≤ index) (λ x. (index < length slice) × HoldsAt (λ y. x.now ≡ y) slice index) →
    option_map (λ top. below top.now) result ≡ option_map below (slice_get nodes index)
read_at nodes slice index None same past =
    ap (option_map below) (sym (slice_get_past slice index past)) ∙ ap (λ list. option_map below (slice_get list index)) same
read_at nodes slice index (Some found) same read =
    ap (option_map below) (sym (slice_get_read slice (length slice) index found.now refl read.0 (read.1 found.now)))
    ∙ ap (λ list. option_map below (slice_get list index)) same

-- The same, by the index that a search of a slice of the nodes gave.
module _ (nodes slice : List TreeNodeModel) (same : slice ≡ nodes) (index : ℕ) (name : List ℕ) (is : index ≡ node_index name slice) where
  at_place : index ≡ node_index name nodes
  at_place = is ∙ ap (λ l. node_index name l) same

  pub node_found_at : child_named (nodes_of_models nodes) name ≡ option_map below (slice_get nodes index)
  node_found_at = found nodes name ∙ ap (λ n. option_map below (slice_get nodes n)) (sym at_place)

  pub added_after : bytes_eq name name ≡ true → (new : TreeNodeModel) → new ≡ new_node name → index ≡ length nodes →
      (nodes_of_models (nodes ++ new ∷ []) ≡ with_new_node [] name (nodes_of_models nodes)) × (index ≡ node_index name (nodes ++ new ∷ []))
  added_after equal new is_new absent =
      let both = added nodes name equal (sym at_place ∙ absent) in (
        ap (λ n. nodes_of_models (nodes ++ n ∷ [])) is_new ∙ both.0,
        absent ∙ sym both.1 ∙ ap (λ n. node_index name (nodes ++ n ∷ [])) (sym is_new),
      )

  pub none_added : index < length nodes → nodes_of_models nodes ≡ with_new_node [] name (nodes_of_models nodes)
  none_added within = there nodes name (subst (λ n. n < length nodes) at_place within)

  pub removed_at : index < length nodes → nodes_of_models (remove nodes index) ≡ without_node name (nodes_of_models nodes)
  removed_at within =
      ap (λ n. nodes_of_models (remove nodes n)) at_place ∙ removed nodes name (subst (λ n. n < length nodes) at_place within)

  pub changed_at : (change : Root (List TreePropertyModel) → Root (List TreePropertyModel)) (new other : TreeNodeModel) →
      index < length nodes →
      new.name ≡ (get_or nodes index other).name → below new ≡ change (below (get_or nodes index other)) →
      nodes_of_models (set nodes index new) ≡ with_node name change (nodes_of_models nodes)
  changed_at change new other within named below_is =
      ap (λ n. nodes_of_models (set nodes n new)) at_place
      ∙ change_first_named nodes name change new other (subst (λ n. n < length nodes) at_place within)
      (named ∙ ap (λ n. (get_or nodes n other).name) at_place)
      (below_is ∙ ap (λ n. change (below (get_or nodes n other))) at_place)

  pub kept_without : index ≡ length nodes → nodes_of_models nodes ≡ without_node name (nodes_of_models nodes)
  kept_without absent = (kept nodes name (λ root. root) (sym at_place ∙ absent)).0

  pub not_changed : (change : Root (List TreePropertyModel) → Root (List TreePropertyModel)) → index ≡ length nodes →
      nodes_of_models nodes ≡ with_node name change (nodes_of_models nodes)
  not_changed change absent = (kept nodes name change (sym at_place ∙ absent)).1
