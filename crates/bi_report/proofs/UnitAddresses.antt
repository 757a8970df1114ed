use Rattle.std.proofs.Common.{◌≡◌, ℕ, Bool, true, false, List, [], ◌∷◌, ◌++◌, bytes_eq, if◌then◌else◌, refl, sym, ap, ap₂, append_assoc}
use Rattle.std.proofs.Common.{append-nil, ◌∙◌}
use Rattle.std.specs.FinMap.{from_entries}
use Rattle.bi_blob.specs.Lookups.{Sibling}
use Rattle.bi_blob.specs.Tree.{Nodes, none, node, FileNode, PropertyMap, properties_of, with_each}
use Rattle.bi_fdt.specs.Content.{root_of}
use Rattle.bi_fit.specs.Content.{FitModel, tree_of}
use Rattle.bi_fit.specs.ImageTree.{with_children_of, without_payloads}
use Rattle.bi_fit.specs.Names.{images_name}
use Rattle.bi_fit.specs.NormalNodes.{alone}
use Rattle.bi_report.specs.SignedTrees.{addresses_below, has_address, unit_addresses}

-- The unit addresses of a file are those of the tree that it means: they are in the names of nodes alone.

-- Nodes whose own parts are changed have the same unit addresses,
addresses_each : {A B : Type 0} (change : A → B) (parent : List (List ℕ)) (nodes : Nodes A) →
    addresses_below parent (with_each change nodes) ≡ addresses_below parent nodes
addresses_each change parent none = refl
addresses_each change parent (node name own children later) =
    ap₂ (λ (a b : List (List (List ℕ))). (if has_address name then (parent ++ name ∷ []) ∷ [] else []) ++ (a ++ b))
    (addresses_each change (parent ++ name ∷ []) children) (addresses_each change parent later)

-- so have image nodes without their payloads,
addresses_without_payloads : (parent : List (List ℕ)) (nodes : Nodes PropertyMap) →
    addresses_below parent (without_payloads nodes) ≡ addresses_below parent nodes
addresses_without_payloads parent none = refl
addresses_without_payloads parent (node name own children later) =
    ap (λ (b : List (List (List ℕ))). (if has_address name then (parent ++ name ∷ []) ∷ [] else [])
    ++ (addresses_below (parent ++ name ∷ []) children ++ b)) (addresses_without_payloads parent later)

-- and nodes one of which has such children.
addresses_of_children : (wanted : List ℕ) (parent : List (List ℕ)) (nodes : Nodes PropertyMap) →
    addresses_below parent (with_children_of wanted without_payloads nodes) ≡ addresses_below parent nodes
addresses_of_children wanted parent none = refl
addresses_of_children wanted parent (node name own children later) =
    by (bytes_eq name wanted) refl (addresses_of_children wanted parent later)
  where
    by : (b : Bool) → bytes_eq name wanted ≡ b →
        addresses_below parent (with_children_of wanted without_payloads later) ≡ addresses_below parent later →
        addresses_below parent (with_children_of wanted without_payloads (node name own children later))
        ≡ addresses_below parent (node name own children later)
    by true is rest = rw is
        (ap (λ (a : List (List (List ℕ))). (if has_address name then (parent ++ name ∷ []) ∷ [] else [])
        ++ (a ++ addresses_below parent later)) (addresses_without_payloads (parent ++ name ∷ []) children))
    by false is rest = rw is
        (ap (λ (b : List (List (List ℕ))). (if has_address name then (parent ++ name ∷ []) ∷ [] else [])
        ++ (addresses_below (parent ++ name ∷ []) children ++ b)) rest)

-- So the unit addresses of a file are those of its tree.
pub addresses_of_tree : (content : FitModel) → unit_addresses (root_of content.blob) ≡ unit_addresses (tree_of content).root
addresses_of_tree content =
    let children = (root_of content.blob).children in
    sym
    (addresses_of_children images_name [] (with_each from_entries (with_each properties_of children))
    ∙ addresses_each from_entries [] (with_each properties_of children)
    ∙ addresses_each properties_of [] children)

-- The unit addresses of a node and of the nodes after it.
pub addresses_first : (parent : List (List ℕ)) (first : Sibling FileNode) →
    addresses_below parent (node first.name first.own first.children first.later)
    ≡ addresses_below parent (alone first) ++ addresses_below parent first.later
addresses_first parent first =
    let own = if has_address first.name then (parent ++ first.name ∷ []) ∷ [] else [] in
    let below = addresses_below (parent ++ first.name ∷ []) first.children in
    let later = addresses_below parent first.later in
    sym (append_assoc own below later)
    ∙ ap (λ (l : List (List (List ℕ))). (own ++ l) ++ later) (sym (append-nil below))

-- Some added to a list, and then the others.
pub added_first : {X : Type 0} (old one later target new : List X) → old ++ (one ++ later) ≡ target → new ≡ old ++ one →
    new ++ later ≡ target
added_first old one later target new all is = ap (λ l. l ++ later) is ∙ append_assoc old one later ∙ all

-- The unit addresses of a node: its own, and those below it.
pub node_added : (old one two : List (List (List ℕ))) (parent names : List (List ℕ)) (first : Sibling FileNode) →
    names ≡ parent ++ first.name ∷ [] →
    one ≡ old ++ (if has_address first.name then names ∷ [] else []) →
    two ≡ one ++ addresses_below names first.children →
    two ≡ old ++ addresses_below parent (alone first)
node_added old one two parent names first is is_one is_two =
    let own = if has_address first.name then names ∷ [] else [] in
    is_two
    ∙ ap (λ l. l ++ addresses_below names first.children) is_one
    ∙ append_assoc old own (addresses_below names first.children)
    ∙ ap (λ (l : List (List (List ℕ))). old ++ (own ++ l)) (sym (append-nil (addresses_below names first.children)))
    ∙ ap (λ names. old ++ ((if has_address first.name then names ∷ [] else []) ++ (addresses_below names first.children ++ []))) is
