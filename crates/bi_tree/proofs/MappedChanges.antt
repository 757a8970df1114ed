use Rattle.std.specs.Prelude.{⊤}
use Rattle.std.proofs.Common.{◌≡◌, ℕ, Bool, true, false, List, [], ◌∷◌, Option, Some, None, bytes_eq, option_map, refl, ap, ◌∙◌}
use Rattle.std.specs.Option.{option_and_then}
use Rattle.bi_blob.specs.Tree.{Nodes, none, node, Root, EachOwn, as_nodes, with_each, with_each_node}
use Rattle.bi_tree.specs.Changes.{child_named, node_by_path, named_node, with_node, with_new_node, without_node}
use Rattle.bi_tree.specs.Changes.{with_change_at, with_node_at, without_node_at}

-- A change of a tree in which a function changes what each node has itself.

module _ {A B : Type 0} (each : A → B) where
  -- The node with a name is found.
  abbrev IsFound : List ℕ → Nodes A → Type 0
  IsFound name nodes = child_named (with_each each nodes) name ≡ option_map (with_each_node each) (child_named nodes name)

  first_found : (name other : List ℕ) (own : A) (children later : Nodes A) → IsFound name later → (b : Bool) →
      bytes_eq other name ≡ b → IsFound name (node other own children later)
  first_found name other own children later rest true same = rw same refl
  first_found name other own children later rest false differs = rw differs rest

  child_found : (name : List ℕ) (nodes : Nodes A) → IsFound name nodes
  child_found name none = refl
  child_found name (node other own children later) =
      first_found name other own children later (child_found name later) (bytes_eq other name) refl

  found_below : (later : List (List ℕ)) →
      ((root : Root A) → node_by_path (with_each_node each root) later ≡ option_map (with_each_node each) (node_by_path root later)) →
      (child : Option (Root A)) →
      option_and_then (λ below. node_by_path below later) (option_map (with_each_node each) child)
      ≡ option_map (with_each_node each) (option_and_then (λ below. node_by_path below later) child)
  found_below later rest None = refl
  found_below later rest (Some child) = rest child

  pub node_found : (path : List (List ℕ)) (root : Root A) →
      node_by_path (with_each_node each root) path ≡ option_map (with_each_node each) (node_by_path root path)
  node_found [] root = refl
  node_found (name ∷ later) root =
      ap (λ child. option_and_then (λ below. node_by_path below later) child) (child_found name root.children)
      ∙ found_below later (node_found later) (child_named root.children name)

  -- A node is removed.
  abbrev IsRemoved : List ℕ → Nodes A → Type 0
  IsRemoved name nodes = with_each each (without_node name nodes) ≡ without_node name (with_each each nodes)

  first_removed : (name other : List ℕ) (own : A) (children later : Nodes A) → IsRemoved name later → (b : Bool) →
      bytes_eq other name ≡ b → IsRemoved name (node other own children later)
  first_removed name other own children later rest true same = rw same refl
  first_removed name other own children later rest false differs =
      rw differs (ap (λ l. node other (each own) (with_each each children) l) rest)

  child_removed : (name : List ℕ) (nodes : Nodes A) → IsRemoved name nodes
  child_removed name none = refl
  child_removed name (node other own children later) =
      first_removed name other own children later (child_removed name later) (bytes_eq other name) refl

  -- A node is added.
  abbrev IsAdded : A → List ℕ → Nodes A → Type 0
  IsAdded nothing name nodes =
      with_each each (with_new_node nothing name nodes) ≡ with_new_node (each nothing) name (with_each each nodes)

  first_added : (nothing : A) (name other : List ℕ) (own : A) (children later : Nodes A) → IsAdded nothing name later → (b : Bool) →
      bytes_eq other name ≡ b → IsAdded nothing name (node other own children later)
  first_added nothing name other own children later rest true same = rw same refl
  first_added nothing name other own children later rest false differs =
      rw differs (ap (λ l. node other (each own) (with_each each children) l) rest)

  child_added : (nothing : A) (name : List ℕ) (nodes : Nodes A) → IsAdded nothing name nodes
  child_added nothing name none = refl
  child_added nothing name (node other own children later) =
      first_added nothing name other own children later (child_added nothing name later) (bytes_eq other name) refl

  -- A node is changed, if what each node has itself meets a condition.
  module _ (IsOwn : A → Type 0) where
    abbrev pub AreAlike : (Root A → Root A) → (Root B → Root B) → Type 0
    AreAlike change other =
        (root : Root A) → EachOwn IsOwn (as_nodes root) → with_each_node each (change root) ≡ other (with_each_node each root)

    abbrev IsChanged : List ℕ → (Root A → Root A) → (Root B → Root B) → Nodes A → Type 0
    IsChanged name change other nodes =
        with_each each (with_node name change nodes) ≡ with_node name other (with_each each nodes)

    first_changed : (name found : List ℕ) (change : Root A → Root A) (other : Root B → Root B) (own : A) (children later : Nodes A) →
        with_each_node each (change (record { own = own; children = children }))
        ≡ other (record { own = each own; children = with_each each children }) →
        IsChanged name change other later → (b : Bool) →
        bytes_eq found name ≡ b → IsChanged name change other (node found own children later)
    first_changed name found change other own children later alike rest true same =
        rw same (ap (λ below. named_node found below (with_each each later)) alike)
    first_changed name found change other own children later alike rest false differs =
        rw differs (ap (λ l. node found (each own) (with_each each children) l) rest)

    child_changed : (name : List ℕ) (change : Root A → Root A) (other : Root B → Root B) → AreAlike change other →
        (nodes : Nodes A) → EachOwn IsOwn nodes → IsChanged name change other nodes
    child_changed name change other alike none all = refl
    child_changed name change other alike (node found own children later) all =
        first_changed name found change other own children later
        (alike (record { own = own; children = children }) (all.0, all.1, tt))
        (child_changed name change other alike later all.2) (bytes_eq found name) refl

    pub changed_at : (change : Root A → Root A) (other : Root B → Root B) → AreAlike change other → (path : List (List ℕ)) →
        AreAlike (with_change_at path change) (with_change_at path other)
    changed_at change other alike [] root all = alike root all
    changed_at change other alike (name ∷ later) root all =
        ap (λ nodes. record { own = each root.own; children = nodes })
        (child_changed name (with_change_at later change) (with_change_at later other) (changed_at change other alike later)
        root.children all.1)

  -- Each node has something itself.
  pub each_is : (nodes : Nodes A) → EachOwn (λ _. ⊤) nodes
  each_is none = tt
  each_is (node name own children later) = (tt, each_is children, each_is later)

  pub node_removed : (path : List (List ℕ)) (root : Root A) →
      with_each_node each (without_node_at path root) ≡ without_node_at path (with_each_node each root)
  node_removed [] root = refl
  node_removed (name ∷ []) root =
      ap (λ nodes. record { own = each root.own; children = nodes }) (child_removed name root.children)
  node_removed (name ∷ next ∷ later) root =
      ap (λ nodes. record { own = each root.own; children = nodes })
      (child_changed (λ _. ⊤) name (without_node_at (next ∷ later)) (without_node_at (next ∷ later))
      (λ below _. node_removed (next ∷ later) below) root.children (each_is root.children))

  pub nodes_added : (nothing : A) (path : List (List ℕ)) (root : Root A) →
      with_each_node each (with_node_at nothing path root) ≡ with_node_at (each nothing) path (with_each_node each root)
  nodes_added nothing [] root = refl
  nodes_added nothing (name ∷ later) root =
      ap (λ nodes. record { own = each root.own; children = nodes })
      (child_changed (λ _. ⊤) name (with_node_at nothing later) (with_node_at (each nothing) later)
      (λ below _. nodes_added nothing later below) (with_new_node nothing name root.children)
      (each_is (with_new_node nothing name root.children))
      ∙ ap (λ nodes. with_node name (with_node_at (each nothing) later) nodes) (child_added nothing name root.children))
