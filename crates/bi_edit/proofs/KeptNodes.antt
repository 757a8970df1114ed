use Rattle.std.proofs.Common.{◌≡◌, ◌≢◌, ℕ, Bool, true, false, cond, List, [], ◌∷◌, Some, None, bytes_eq, refl, sym, ap, subst, ◌∙◌, nat_cmp}
use Rattle.std.specs.Cmp.Lexicographic.{slice_cmp}
use Rattle.std.specs.FinMap.{empty, get, get-remove, remove}
use Rattle.std.specs.Ordering.{eq_by_cmp}
use Rattle.std.proofs.lemmas.Cmp.{nat_list_cmp_total}
use Rattle.bi_base.proofs.EqualBytes.{other_bytes}
use Rattle.bi_blob.specs.Tree.{Nodes, none, node, Root, PropertyMap, AreNodes, IsNew, names}
use Rattle.bi_fit.specs.ImageTree.{ArePropertiesByName, HaveByteNames, IsProperty}
use Rattle.bi_fit.proofs.TreeContents.{properties-empty}
use Rattle.bi_tree.specs.Changes.{with_change_at, with_new_node, with_node, with_node_at, without_node, without_node_at}
use Rattle.bi_edit.specs.Places.{AreChildNames, IsChildNameOfBytes}

-- Changes at paths keep what a tree must be so that a blob can hold it.

-- What a node must be, with all nodes below it, without its own name.
pub record IsGood (root : Root PropertyMap) : Type 0 where
  pub own : ArePropertiesByName root.own
  pub nodes : AreNodes ArePropertiesByName root.children
  pub bytes : HaveByteNames root.children

abbrev pub KeepsGood : (Root PropertyMap → Root PropertyMap) → Type 0
KeepsGood change = (root : Root PropertyMap) → IsGood root → IsGood (change root)

abbrev AreGood : Nodes PropertyMap → Type 0
AreGood nodes = AreNodes ArePropertiesByName nodes × HaveByteNames nodes

-- ---- a change of a node

pub names_with_node : {Own : Type 0} (name : List ℕ) (change : Root Own → Root Own) (nodes : Nodes Own) →
    names (with_node name change nodes) ≡ names nodes
names_with_node name change none = refl
names_with_node {Own = Own} name change (node other own children later) =
    by_name (bytes_eq other name) refl (names_with_node name change later)
  where
    by_name : (b : Bool) → bytes_eq other name ≡ b → names (with_node name change later) ≡ names later →
        names (with_node name change (node other own children later)) ≡ other ∷ names later
    by_name true is rest = rw is refl
    by_name false is rest = rw is (ap (λ l. other ∷ l) rest)

good_with_node : (name : List ℕ) (change : Root PropertyMap → Root PropertyMap) → KeepsGood change → (nodes : Nodes PropertyMap) →
    AreGood nodes → AreGood (with_node name change nodes)
good_with_node name change keeps none good = good
good_with_node name change keeps (node other own children later) good =
    by_name (bytes_eq other name) refl (good_with_node name change keeps later (good.0.2, good.1.2))
  where
    by_name : (b : Bool) → bytes_eq other name ≡ b → AreGood (with_node name change later) →
        AreGood (with_node name change (node other own children later))
    by_name true is rest =
        let new = keeps (record { own = own; children = children })
        (record { own = good.0.0.is_own; nodes = good.0.1; bytes = good.1.1 }) in
        rw is (
          (record { is_name = good.0.0.is_name; is_own = new.own; is_new = good.0.0.is_new }, new.nodes, good.0.2),
          (good.1.0, new.bytes, good.1.2),
        )
    by_name false is rest =
        rw is (
          (
            record {
              is_name = good.0.0.is_name;
              is_own = good.0.0.is_own;
              is_new = subst (IsNew other) (sym (names_with_node name change later)) good.0.0.is_new;
            },
            good.0.1,
            rest.0,
          ),
          (good.1.0, good.1.1, rest.1),
        )

-- ---- a node that is added

new_stays : (name wanted : List ℕ) → name ≢ wanted → (nodes : Nodes PropertyMap) → IsNew name (names nodes) →
    IsNew name (names (with_new_node empty wanted nodes))
new_stays name wanted differs none new = ((λ is. differs (sym is)), tt)
new_stays name wanted differs (node other own children later) new =
    by_name (bytes_eq other wanted) refl (new_stays name wanted differs later new.1)
  where
    by_name : (b : Bool) → bytes_eq other wanted ≡ b → IsNew name (names (with_new_node empty wanted later)) →
        IsNew name (names (with_new_node empty wanted (node other own children later)))
    by_name true is rest = rw is new
    by_name false is rest = rw is (new.0, rest)

good_with_new : (name : List ℕ) → IsChildNameOfBytes name → (nodes : Nodes PropertyMap) → AreGood nodes →
    AreGood (with_new_node empty name nodes)
good_with_new name is_name none good = (
  (record { is_name = is_name.is_name; is_own = properties-empty; is_new = tt }, tt, tt),
  (is_name.bytes, tt, tt),
)
good_with_new name is_name (node other own children later) good =
    by_name (bytes_eq other name) refl (good_with_new name is_name later (good.0.2, good.1.2))
  where
    by_name : (b : Bool) → bytes_eq other name ≡ b → AreGood (with_new_node empty name later) →
        AreGood (with_new_node empty name (node other own children later))
    by_name true is rest = rw is good
    by_name false is rest =
        rw is (
          (
            record {
              is_name = good.0.0.is_name;
              is_own = good.0.0.is_own;
              is_new = new_stays other name (other_bytes other name is) later good.0.0.is_new;
            },
            good.0.1,
            rest.0,
          ),
          (good.1.0, good.1.1, rest.1),
        )

-- ---- a node that is removed

new_without : (name wanted : List ℕ) (nodes : Nodes PropertyMap) → IsNew name (names nodes) →
    IsNew name (names (without_node wanted nodes))
new_without name wanted none new = tt
new_without name wanted (node other own children later) new =
    by_name (bytes_eq other wanted) refl (new_without name wanted later new.1)
  where
    by_name : (b : Bool) → bytes_eq other wanted ≡ b → IsNew name (names (without_node wanted later)) →
        IsNew name (names (without_node wanted (node other own children later)))
    by_name true is rest = rw is new.1
    by_name false is rest = rw is (new.0, rest)

good_without : (name : List ℕ) (nodes : Nodes PropertyMap) → AreGood nodes → AreGood (without_node name nodes)
good_without name none good = good
good_without name (node other own children later) good =
    by_name (bytes_eq other name) refl (good_without name later (good.0.2, good.1.2))
  where
    by_name : (b : Bool) → bytes_eq other name ≡ b → AreGood (without_node name later) →
        AreGood (without_node name (node other own children later))
    by_name true is rest = rw is (good.0.2, good.1.2)
    by_name false is rest =
        rw is (
          (
            record {
              is_name = good.0.0.is_name;
              is_own = good.0.0.is_own;
              is_new = new_without other name later good.0.0.is_new;
            },
            good.0.1,
            rest.0,
          ),
          (good.1.0, good.1.1, rest.1),
        )

-- ---- at a path

with_children : (root : Root PropertyMap) → IsGood root → (nodes : Nodes PropertyMap) → AreGood nodes →
    IsGood (record { own = root.own; children = nodes })
with_children root good nodes are = record { own = good.own; nodes = are.0; bytes = are.1 }

pub good_at_path : (path : List (List ℕ)) (change : Root PropertyMap → Root PropertyMap) → KeepsGood change →
    KeepsGood (with_change_at path change)
good_at_path [] change keeps root good = keeps root good
good_at_path (name ∷ later) change keeps root good =
    with_children root good _
    (good_with_node name (with_change_at later change) (good_at_path later change keeps) root.children (good.nodes, good.bytes))

pub good_with_path : (path : List (List ℕ)) → AreChildNames path → KeepsGood (with_node_at empty path)
good_with_path [] are root good = good
good_with_path (name ∷ later) are root good =
    with_children root good _
    (good_with_node name (with_node_at empty later) (good_with_path later are.1) (with_new_node empty name root.children)
    (good_with_new name are.0 root.children (good.nodes, good.bytes)))

pub good_without_path : (path : List (List ℕ)) → KeepsGood (without_node_at path)
good_without_path [] root good = good
good_without_path (name ∷ []) root good = with_children root good _ (good_without name root.children (good.nodes, good.bytes))
good_without_path (name ∷ next ∷ later) root good =
    with_children root good _
    (good_with_node name (without_node_at (next ∷ later)) (good_without_path (next ∷ later)) root.children (good.nodes, good.bytes))

-- ---- properties

pub properties-remove : (properties : PropertyMap) (name : List ℕ) → ArePropertiesByName properties →
    ArePropertiesByName (remove properties name)
properties-remove properties name are found value there =
    by_same (eq_by_cmp (slice_cmp nat_cmp) found name) (sym (get-remove nat_list_cmp_total properties name found) ∙ there)
  where
    by_same : (b : Bool) → cond b None (get properties found) ≡ Some value → IsProperty found value
    by_same true is = absurd cc
    by_same false is = are found value is
