use Rattle.std.proofs.Common.{◌≡◌, ℕ, zero, suc, ◌≤◌, Bool, true, false, List, [], ◌∷◌, length, bytes_eq, refl, sym, subst, arith}
use Rattle.std.specs.FinMap.{empty}
use Rattle.bi_blob.specs.Tree.{Nodes, none, node, Root, PropertyMap, depth}
use Rattle.bi_tree.specs.Changes.{with_change_at, with_new_node, with_node, with_node_at, without_node, without_node_at}

-- How deep trees are after changes at paths.

-- A change that makes a node no deeper than a bound makes none of the nodes deeper.
bound_with_node : (name : List ℕ) (change : Root PropertyMap → Root PropertyMap) (most : ℕ) →
    ((root : Root PropertyMap) → depth root.children ≤ most → depth (change root).children ≤ most) → (nodes : Nodes PropertyMap) →
    depth nodes ≤ suc most → depth (with_node name change nodes) ≤ suc most
bound_with_node name change most keeps none least = least
bound_with_node name change most keeps (node other own children later) least =
    by_name (bytes_eq other name) refl (bound_with_node name change most keeps later (omega (arith, least)))
  where
    by_name : (b : Bool) → bytes_eq other name ≡ b → depth (with_node name change later) ≤ suc most →
        depth (with_node name change (node other own children later)) ≤ suc most
    by_name true is rest =
        let new = keeps (record { own = own; children = children }) (omega (arith, least)) in rw is (omega (arith, new, least))
    by_name false is rest = rw is (omega (arith, rest, least))

-- A node that is added has none below it.
bound_with_new : (name : List ℕ) (most : ℕ) (nodes : Nodes PropertyMap) → depth nodes ≤ suc most →
    depth (with_new_node empty name nodes) ≤ suc most
bound_with_new name most none least = omega arith
bound_with_new name most (node other own children later) least =
    by_name (bytes_eq other name) refl (bound_with_new name most later (omega (arith, least)))
  where
    by_name : (b : Bool) → bytes_eq other name ≡ b → depth (with_new_node empty name later) ≤ suc most →
        depth (with_new_node empty name (node other own children later)) ≤ suc most
    by_name true is rest = rw is least
    by_name false is rest = rw is (omega (arith, rest, least))

bound_without : (name : List ℕ) (most : ℕ) (nodes : Nodes PropertyMap) → depth nodes ≤ most → depth (without_node name nodes) ≤ most
bound_without name most none least = least
bound_without name most (node other own children later) least =
    by_name (bytes_eq other name) refl (bound_without name most later (omega (arith, least)))
  where
    by_name : (b : Bool) → bytes_eq other name ≡ b → depth (without_node name later) ≤ most →
        depth (without_node name (node other own children later)) ≤ most
    by_name true is rest = rw is (omega (arith, least))
    by_name false is rest = rw is (omega (arith, rest, least))

-- Nodes of which none may be deeper than 0 are none, so a change of one of them changes nothing.
none_with_node : (name : List ℕ) (change : Root PropertyMap → Root PropertyMap) (nodes : Nodes PropertyMap) → depth nodes ≤ 0 →
    depth (with_node name change nodes) ≤ 0
none_with_node name change none least = least
none_with_node name change (node other own children later) least = absurd (omega (arith, least))

-- At a path.
pub bound_at : (path : List (List ℕ)) (change : Root PropertyMap → Root PropertyMap) →
    ((root : Root PropertyMap) → (change root).children ≡ root.children) → (most : ℕ) (root : Root PropertyMap) →
    depth root.children ≤ most → depth (with_change_at path change root).children ≤ most
bound_at [] change same most root least = subst (λ nodes. depth nodes ≤ most) (sym (same root)) least
bound_at (name ∷ later) change same zero root least = none_with_node name (with_change_at later change) root.children least
bound_at (name ∷ later) change same (suc most) root least =
    bound_with_node name (with_change_at later change) most (bound_at later change same most) root.children least

pub bound_with : (path : List (List ℕ)) (most : ℕ) → length path ≤ most → (root : Root PropertyMap) →
    depth root.children ≤ most → depth (with_node_at empty path root).children ≤ most
bound_with [] most short root least = least
bound_with (name ∷ later) zero short root least = absurd (omega (arith, short))
bound_with (name ∷ later) (suc most) short root least =
    bound_with_node name (with_node_at empty later) most (bound_with later most (omega (arith, short)))
    (with_new_node empty name root.children) (bound_with_new name most root.children least)

pub bound_without_at : (path : List (List ℕ)) (most : ℕ) (root : Root PropertyMap) → depth root.children ≤ most →
    depth (without_node_at path root).children ≤ most
bound_without_at [] most root least = least
bound_without_at (name ∷ []) most root least = bound_without name most root.children least
bound_without_at (name ∷ next ∷ later) zero root least = none_with_node name (without_node_at (next ∷ later)) root.children least
bound_without_at (name ∷ next ∷ later) (suc most) root least =
    bound_with_node name (without_node_at (next ∷ later)) most (bound_without_at (next ∷ later) most) root.children least
