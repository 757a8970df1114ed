use Rattle.std.proofs.Common.{◌≡◌, ℕ, Bool, true, false, List, [], ◌∷◌, Option, Some, None, bytes_eq, is_some, option_map, refl, sym, ap}
use Rattle.std.proofs.Common.{subst, ◌∙◌}
use Rattle.std.proofs.Common.{nat_cmp, true≢false}
use Rattle.std.specs.Option.{option_and_then}
use Rattle.std.specs.FinMap.{empty, get, get-empty}
use Rattle.std.specs.Cmp.Lexicographic.{slice_cmp}
use Rattle.bi_base.proofs.EqualBytes.{same_bytes}
use Rattle.bi_blob.specs.Tree.{Nodes, none, node, Root, PropertyMap}
use Rattle.bi_tree.specs.Changes.{child_named, node_by_path, with_change_at, with_new_node, with_node, with_node_at, without_node}
use Rattle.bi_tree.specs.Changes.{without_node_at}
use Rattle.bi_tree.specs.Trees.{value_by_path}
use Rattle.bi_edit.specs.EditLaws.{BeginsPath}

-- A change of a node, and nodes that are added or removed, keep the values of other properties.

both_names : (name other : List ℕ) → bytes_eq name other ≡ false → (third : List ℕ) → bytes_eq third name ≡ true →
    bytes_eq third other ≡ true → ⊥
both_names name other differs third one two =
    true≢false (sym (subst (λ n. bytes_eq n other ≡ true) (same_bytes third name one) two) ∙ differs)

module _ {Own : Type 0} where
  -- ---- children of another name

  abbrev StaysWith : List ℕ → (Root Own → Root Own) → List ℕ → Nodes Own → Type 0
  StaysWith name change other nodes = child_named (with_node name change nodes) other ≡ child_named nodes other

  pub other_child_with : (name : List ℕ) (change : Root Own → Root Own) (other : List ℕ) → bytes_eq name other ≡ false →
      (nodes : Nodes Own) → StaysWith name change other nodes
  other_child_with name change other differs none = refl
  other_child_with name change other differs (node third own children later) =
      by (bytes_eq third name) refl (bytes_eq third other) refl (other_child_with name change other differs later)
    where
      by : (b : Bool) → bytes_eq third name ≡ b → (c : Bool) → bytes_eq third other ≡ c → StaysWith name change other later →
          StaysWith name change other (node third own children later)
      by true one true two rest = absurd (both_names name other differs third one two)
      by true one false two rest = rw one (rw two refl)
      by false one true two rest = rw one (rw two refl)
      by false one false two rest = rw one (rw two rest)

  abbrev ChangesWith : List ℕ → (Root Own → Root Own) → Nodes Own → Type 0
  ChangesWith name change nodes = child_named (with_node name change nodes) name ≡ option_map change (child_named nodes name)

  pub same_child_with : (name : List ℕ) (change : Root Own → Root Own) (nodes : Nodes Own) → ChangesWith name change nodes
  same_child_with name change none = refl
  same_child_with name change (node third own children later) =
      by (bytes_eq third name) refl (same_child_with name change later)
    where
      by : (b : Bool) → bytes_eq third name ≡ b → ChangesWith name change later → ChangesWith name change (node third own children later)
      by true one rest = rw one (rw one refl)
      by false one rest = rw one (rw one rest)

  abbrev StaysWithout : List ℕ → List ℕ → Nodes Own → Type 0
  StaysWithout name other nodes = child_named (without_node name nodes) other ≡ child_named nodes other

  other_child_without : (name other : List ℕ) → bytes_eq name other ≡ false → (nodes : Nodes Own) → StaysWithout name other nodes
  other_child_without name other differs none = refl
  other_child_without name other differs (node third own children later) =
      by (bytes_eq third name) refl (bytes_eq third other) refl (other_child_without name other differs later)
    where
      by : (b : Bool) → bytes_eq third name ≡ b → (c : Bool) → bytes_eq third other ≡ c → StaysWithout name other later →
          StaysWithout name other (node third own children later)
      by true one true two rest = absurd (both_names name other differs third one two)
      by true one false two rest = rw one (rw two refl)
      by false one true two rest = rw one (rw two refl)
      by false one false two rest = rw one (rw two rest)

  -- A child that is added, unless one has its name.
  abbrev child_or : Own → Option (Root Own) → Root Own
  child_or nothing None = record { own = nothing; children = none }
  child_or nothing (Some child) = child

  abbrev AddsTo : Own → List ℕ → Nodes Own → Type 0
  AddsTo nothing name nodes = child_named (with_new_node nothing name nodes) name ≡ Some (child_or nothing (child_named nodes name))

  same_child_new : (nothing : Own) (name : List ℕ) → bytes_eq name name ≡ true → (nodes : Nodes Own) → AddsTo nothing name nodes
  same_child_new nothing name same none = rw same refl
  same_child_new nothing name same (node third own children later) =
      by (bytes_eq third name) refl (same_child_new nothing name same later)
    where
      by : (b : Bool) → bytes_eq third name ≡ b → AddsTo nothing name later → AddsTo nothing name (node third own children later)
      by true one rest = rw one (rw one refl)
      by false one rest = rw one (rw one rest)

  abbrev StaysNew : Own → List ℕ → List ℕ → Nodes Own → Type 0
  StaysNew nothing name other nodes = child_named (with_new_node nothing name nodes) other ≡ child_named nodes other

  other_child_new : (nothing : Own) (name other : List ℕ) → bytes_eq name other ≡ false → (nodes : Nodes Own) →
      StaysNew nothing name other nodes
  other_child_new nothing name other differs none = rw differs refl
  other_child_new nothing name other differs (node third own children later) =
      by (bytes_eq third name) refl (bytes_eq third other) refl (other_child_new nothing name other differs later)
    where
      by : (b : Bool) → bytes_eq third name ≡ b → (c : Bool) → bytes_eq third other ≡ c → StaysNew nothing name other later →
          StaysNew nothing name other (node third own children later)
      by true one c two rest = rw one refl
      by false one true two rest = rw one (rw two refl)
      by false one false two rest = rw one (rw two rest)

-- ---- values

-- The value of a property of the node at a path below a child, if it is there.
abbrev pub value_below : List (List ℕ) → List ℕ → Option (Root PropertyMap) → Option (List ℕ)
value_below path name child =
    option_and_then (λ found. get found.own name) (option_and_then (λ child. node_by_path child path) child)

-- A change of a child keeps what it keeps below it.
pub kept_below : (path : List (List ℕ)) (name : List ℕ) (change : Root PropertyMap → Root PropertyMap) →
    ((child : Root PropertyMap) → value_by_path (change child) path name ≡ value_by_path child path name) →
    (child : Option (Root PropertyMap)) → value_below path name (option_map change child) ≡ value_below path name child
kept_below path name change keeps None = refl
kept_below path name change keeps (Some child) = keeps child

-- A change at a path keeps a property, if it does so at this path and keeps the nodes below.
pub value_kept_at : (at : List (List ℕ)) (change : Root PropertyMap → Root PropertyMap) →
    ((root : Root PropertyMap) → (change root).children ≡ root.children) → (path : List (List ℕ)) (name : List ℕ) →
    (path ≡ at → (root : Root PropertyMap) → get (change root).own name ≡ get root.own name) → (root : Root PropertyMap) →
    value_by_path (with_change_at at change root) path name ≡ value_by_path root path name
value_kept_at [] change children [] name keeps root = keeps refl root
value_kept_at [] change children (next ∷ later) name keeps root =
    ap (λ nodes. value_below later name (child_named nodes next)) (children root)
value_kept_at (first ∷ rest) change children [] name keeps root = refl
value_kept_at (first ∷ rest) change children (next ∷ later) name keeps root =
    by (bytes_eq first next) refl (value_kept_at rest change children later name)
  where
    by : (b : Bool) → bytes_eq first next ≡ b →
        ((later ≡ rest → (root : Root PropertyMap) → get (change root).own name ≡ get root.own name) → (root : Root PropertyMap) →
        value_by_path (with_change_at rest change root) later name ≡ value_by_path root later name) →
        value_by_path (with_change_at (first ∷ rest) change root) (next ∷ later) name ≡ value_by_path root (next ∷ later) name
    by true same below =
        let is = same_bytes first next same in
        subst (λ next. value_below later name (child_named (with_node first (with_change_at rest change) root.children) next)
        ≡ value_below later name (child_named root.children next)) is
        (ap (value_below later name) (same_child_with first (with_change_at rest change) root.children)
        ∙ kept_below later name (with_change_at rest change)
        (below (λ is_rest. keeps (ap (λ l. next ∷ l) is_rest ∙ ap (λ n. n ∷ rest) (sym is)))) (child_named root.children first))
    by false differs below =
        ap (value_below later name) (other_child_with first (with_change_at rest change) next differs root.children)

-- Nodes that are added have no properties.
nothing_below : (path : List (List ℕ)) (name : List ℕ) →
    value_by_path (record { own = empty; children = none }) path name ≡ None
nothing_below [] name = get-empty (slice_cmp nat_cmp) name
nothing_below (next ∷ later) name = refl

kept_in_new : (path : List (List ℕ)) (name : List ℕ) (change : Root PropertyMap → Root PropertyMap) →
    ((child : Root PropertyMap) → value_by_path (change child) path name ≡ value_by_path child path name) →
    (child : Option (Root PropertyMap)) → value_below path name (Some (change (child_or empty child))) ≡ value_below path name child
kept_in_new path name change keeps None = keeps (record { own = empty; children = none }) ∙ nothing_below path name
kept_in_new path name change keeps (Some child) = keeps child

pub value_kept_with : (at path : List (List ℕ)) (name : List ℕ) → ((n : List ℕ) → bytes_eq n n ≡ true) → (root : Root PropertyMap) →
    value_by_path (with_node_at empty at root) path name ≡ value_by_path root path name
value_kept_with [] path name reflexive root = refl
value_kept_with (first ∷ rest) [] name reflexive root = refl
value_kept_with (first ∷ rest) (next ∷ later) name reflexive root =
    by (bytes_eq first next) refl (value_kept_with rest later name reflexive)
  where
    by : (b : Bool) → bytes_eq first next ≡ b →
        ((root : Root PropertyMap) → value_by_path (with_node_at empty rest root) later name ≡ value_by_path root later name) →
        value_by_path (with_node_at empty (first ∷ rest) root) (next ∷ later) name ≡ value_by_path root (next ∷ later) name
    by true same below =
        subst (λ next. value_below later name
        (child_named (with_node first (with_node_at empty rest) (with_new_node empty first root.children)) next)
        ≡ value_below later name (child_named root.children next)) (same_bytes first next same)
        (ap (value_below later name)
        (same_child_with first (with_node_at empty rest) (with_new_node empty first root.children)
        ∙ ap (option_map (with_node_at empty rest)) (same_child_new empty first (reflexive first) root.children))
        ∙ kept_in_new later name (with_node_at empty rest) below (child_named root.children first))
    by false differs below =
        ap (value_below later name)
        (other_child_with first (with_node_at empty rest) next differs (with_new_node empty first root.children)
        ∙ other_child_new empty first next differs root.children)

-- A node that is removed takes only what is at its path and below it.
pub value_kept_without : (at path : List (List ℕ)) (name : List ℕ) → ¬ (BeginsPath at path) → (root : Root PropertyMap) →
    value_by_path (without_node_at at root) path name ≡ value_by_path root path name
value_kept_without [] path name apart root = refl
value_kept_without (first ∷ []) [] name apart root = refl
value_kept_without (first ∷ []) (next ∷ later) name apart root = by (bytes_eq first next) refl where
  by : (b : Bool) → bytes_eq first next ≡ b →
      value_by_path (without_node_at (first ∷ []) root) (next ∷ later) name ≡ value_by_path root (next ∷ later) name
  by true same = absurd (apart (later, ap (λ n. n ∷ later) (sym (same_bytes first next same))))
  by false differs = ap (value_below later name) (other_child_without first next differs root.children)
value_kept_without (first ∷ second ∷ rest) [] name apart root = refl
value_kept_without (first ∷ second ∷ rest) (next ∷ later) name apart root =
    by (bytes_eq first next) refl (value_kept_without (second ∷ rest) later name)
  where
    by : (b : Bool) → bytes_eq first next ≡ b →
        (¬ (BeginsPath (second ∷ rest) later) → (root : Root PropertyMap) →
        value_by_path (without_node_at (second ∷ rest) root) later name ≡ value_by_path root later name) →
        value_by_path (without_node_at (first ∷ second ∷ rest) root) (next ∷ later) name ≡ value_by_path root (next ∷ later) name
    by true same below =
        let is = same_bytes first next same in
        subst (λ next. value_below later name (child_named (with_node first (without_node_at (second ∷ rest)) root.children) next)
        ≡ value_below later name (child_named root.children next)) is
        (ap (value_below later name) (same_child_with first (without_node_at (second ∷ rest)) root.children)
        ∙ kept_below later name (without_node_at (second ∷ rest))
        (below (λ begins. apart (begins.0, ap (λ n. n ∷ later) (sym is) ∙ ap (λ l. first ∷ l) begins.1)))
        (child_named root.children first))
    by false differs below =
        ap (value_below later name) (other_child_with first (without_node_at (second ∷ rest)) next differs root.children)

-- ---- what is found at a path

below_changed : (rest : List (List ℕ)) (change : Root PropertyMap → Root PropertyMap) →
    ((root : Root PropertyMap) → node_by_path (with_change_at rest change root) rest ≡ option_map change (node_by_path root rest)) →
    (child : Option (Root PropertyMap)) →
    option_and_then (λ child. node_by_path child rest) (option_map (with_change_at rest change) child)
    ≡ option_map change (option_and_then (λ child. node_by_path child rest) child)
below_changed rest change below None = refl
below_changed rest change below (Some child) = below child

-- A node that was changed.
pub change_found : (at : List (List ℕ)) (change : Root PropertyMap → Root PropertyMap) (root : Root PropertyMap) →
    node_by_path (with_change_at at change root) at ≡ option_map change (node_by_path root at)
change_found [] change root = refl
change_found (first ∷ rest) change root =
    ap (option_and_then (λ child. node_by_path child rest)) (same_child_with first (with_change_at rest change) root.children)
    ∙ below_changed rest change (change_found rest change) (child_named root.children first)

-- A node that was added, if it was not there.
pub with_found : (at : List (List ℕ)) → ((n : List ℕ) → bytes_eq n n ≡ true) → (root : Root PropertyMap) →
    is_some (node_by_path (with_node_at empty at root) at) ≡ true
with_found [] reflexive root = refl
with_found (first ∷ rest) reflexive root =
    ap (λ child. is_some (option_and_then (λ child. node_by_path child rest) child))
    (same_child_with first (with_node_at empty rest) (with_new_node empty first root.children)
    ∙ ap (option_map (with_node_at empty rest)) (same_child_new empty first (reflexive first) root.children))
    ∙ with_found rest reflexive (child_or empty (child_named root.children first))

-- ---- a change that changes nothing

unchanged_child : (name : List ℕ) (change : Root PropertyMap → Root PropertyMap) (nodes : Nodes PropertyMap) →
    ((child : Root PropertyMap) → child_named nodes name ≡ Some child → change child ≡ child) → with_node name change nodes ≡ nodes
unchanged_child name change none keeps = refl
unchanged_child name change (node third own children later) keeps =
    by (bytes_eq third name) refl (unchanged_child name change later)
  where
    by : (b : Bool) → bytes_eq third name ≡ b →
        (((child : Root PropertyMap) → child_named later name ≡ Some child → change child ≡ child) → with_node name change later ≡ later) →
        with_node name change (node third own children later) ≡ node third own children later
    by true one rest =
        rw one (ap (λ root. node third root.own root.children later) (keeps (record { own = own; children = children }) (rw one refl)))
    by false one rest = rw one (ap (λ l. node third own children l) (rest (λ child is. keeps child (rw one is))))

pub unchanged_at : (at : List (List ℕ)) (change : Root PropertyMap → Root PropertyMap) (root : Root PropertyMap) →
    ((found : Root PropertyMap) → node_by_path root at ≡ Some found → change found ≡ found) → with_change_at at change root ≡ root
unchanged_at [] change root keeps = keeps root refl
unchanged_at (first ∷ rest) change root keeps =
    ap (λ nodes. record { own = root.own; children = nodes })
    (unchanged_child first (with_change_at rest change) root.children (λ child is. unchanged_at rest change child
    (λ found there. keeps found (ap (option_and_then (λ child. node_by_path child rest)) is ∙ there))))
