use Rattle.std.proofs.Common.{◌≡◌, ℕ, Bool, true, false, List, [], ◌∷◌, Option, Some, None, bytes_eq, refl, sym, ap, true≢false}
use Rattle.std.specs.Option.{is_some, option_and_then}
use Rattle.bi_blob.specs.Tree.{Nodes, none, node, Root}
use Rattle.bi_tree.specs.Changes.{child_named, node_by_path, with_new_node, with_node, with_node_at}

-- If the nodes of a path are there, none is added.

-- A child is there, and is as it was after a change.
abbrev IsSame : {Own : Type 0} → (Root Own → Root Own) → Option (Root Own) → Type 0
IsSame change None = ⊥
IsSame change (Some child) = change child ≡ child

module _ {Own : Type 0} (nothing : Own) where
  abbrev StaysSame : List ℕ → (Root Own → Root Own) → Nodes Own → Type 0
  StaysSame name change nodes =
      IsSame change (child_named nodes name) → with_node name change (with_new_node nothing name nodes) ≡ nodes

  same_first : (name other : List ℕ) (change : Root Own → Root Own) (own : Own) (children later : Nodes Own) →
      StaysSame name change later → (b : Bool) → bytes_eq other name ≡ b → StaysSame name change (node other own children later)
  same_first name other change own children later rest true is same =
      let here = rw is at same in rw is (rw is (ap (λ root. node other root.own root.children later) here))
  same_first name other change own children later rest false is same =
      let there = rw is at same in rw is (rw is (ap (λ l. node other own children l) (rest there)))

  child_same : (name : List ℕ) (change : Root Own → Root Own) (nodes : Nodes Own) → StaysSame name change nodes
  child_same name change none same = absurd same
  child_same name change (node other own children later) same =
      same_first name other change own children later (child_same name change later) (bytes_eq other name) refl same

  below_there : (later : List (List ℕ)) →
      ((root : Root Own) → is_some (node_by_path root later) ≡ true → with_node_at nothing later root ≡ root) →
      (child : Option (Root Own)) → is_some (option_and_then (λ below. node_by_path below later) child) ≡ true →
      IsSame (with_node_at nothing later) child
  below_there later rest None there = absurd (true≢false (sym there))
  below_there later rest (Some child) there = rest child there

  pub nodes_there : (path : List (List ℕ)) (root : Root Own) → is_some (node_by_path root path) ≡ true →
      with_node_at nothing path root ≡ root
  nodes_there [] root there = refl
  nodes_there (name ∷ later) root there =
      ap (λ nodes. record { own = root.own; children = nodes })
      (child_same name (with_node_at nothing later) root.children
      (below_there later (nodes_there later) (child_named root.children name) there))

-- What is found and not found.
pub not_found : {A : Type 0} (found : Option A) → is_some found ≡ false → found ≡ None
not_found None is = refl
not_found (Some x) is = absurd (true≢false is)

pub not_none : {A : Type 0} (found : Option A) → is_some found ≡ true → found ≡ None → ⊥
not_none None is absent = true≢false (sym is)
not_none (Some x) is absent = true≢false (ap is_some absent)
