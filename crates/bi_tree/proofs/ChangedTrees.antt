use Rattle.std.proofs.Common.{◌≡◌, ℕ, Bool, true, false, List, [], ◌∷◌, ◌≤◌, ◌-◌, length}
use Rattle.std.proofs.Common.{take, drop, get_or, refl, sym, ap, arith, true≢false, Bor, ◌==◌}
use Rattle.std.proofs.lemmas.List.{take_all}
use Rattle.std.proofs.Common.{bytes_eq}
use Rattle.bi_blob.specs.Tree.{Nodes, none, node, Root}
use Rattle.bi_tree.specs.Changes.{with_node, with_new_node, with_change_at, with_node_at, without_node_at}
use Rattle.bi_tree.specs.Properties.{TreePropertyModel, with_own_property, with_property_at}
use Rattle.bi_base.specs.Slices.{bytes_of}

-- Changes of trees, one after the other.

-- Two changes of the node with a name are one.
abbrev AreOne : {Own : Type 0} → List ℕ → (change first_change : Root Own → Root Own) → Nodes Own → Type 0
AreOne name change first_change nodes =
    with_node name change (with_node name first_change nodes) ≡ with_node name (λ root. change (first_change root)) nodes

one_first : {Own : Type 0} (name other : List ℕ) (change first_change : Root Own → Root Own) (own : Own) (children later : Nodes Own) →
    AreOne name change first_change later → (b : Bool) → bytes_eq other name ≡ b →
    AreOne name change first_change (node other own children later)
one_first name other change first_change own children later rest true same = rw same (rw same refl)
one_first name other change first_change own children later rest false differs =
    rw differs (rw differs (ap (λ l. node other own children l) rest))

pub are_one : {Own : Type 0} (name : List ℕ) (change first_change : Root Own → Root Own) (nodes : Nodes Own) →
    AreOne name change first_change nodes
are_one name change first_change none = refl
are_one name change first_change (node other own children later) =
    one_first name other change first_change own children later (are_one name change first_change later) (bytes_eq other name) refl

-- A property is set in a node below another one by adding the node that leads to it and setting it there.
pub set_below : (name : List ℕ) (path : List (List ℕ)) (new : TreePropertyModel) (root : Root (List TreePropertyModel)) →
    with_property_at (name ∷ path) new root
    ≡ record { own = root.own; children = with_node name (with_property_at path new) (with_new_node [] name root.children) }
set_below name path new root =
    ap (λ nodes. record { own = root.own; children = nodes })
    (are_one name (with_change_at path (with_own_property new)) (with_node_at [] path)
    (with_new_node [] name root.children))

-- A node below a child is removed in the child.
pub removed_below : {Own : Type 0} (name : List ℕ) (later : List (List ℕ)) (root : Root Own) → 1 ≤ length later →
    without_node_at (name ∷ later) root ≡ record { own = root.own; children = with_node name (without_node_at later) root.children }
removed_below name [] root some = absurd (omega (arith, some))
removed_below name (next ∷ later) root some = refl

-- A list that is not empty has a name.
pub some_names : (names : List (Bor (List ℕ))) → (length names == 0) ≡ false → 1 ≤ length (bytes_of names)
some_names [] some = absurd (true≢false some)
some_names (name ∷ later) some = omega arith

-- The first name of a path, as the code reads it.
abbrev pub first_name : List (Bor (List ℕ)) → List ℕ
first_name path = (get_or path 0 (record { ref_ptr = (0, 0); now = [] })).now

-- A path that has a name is its first name and the others.
pub path_is : (path : List (Bor (List ℕ))) → 1 ≤ length path →
    bytes_of path ≡ first_name path ∷ bytes_of (take (length path - 1) (drop 1 path))
path_is [] some = absurd (omega (arith, some))
path_is (first ∷ rest) some = ap (λ names. first.now ∷ bytes_of names) (sym (take_all (length (first ∷ rest) - 1) rest (omega arith)))
