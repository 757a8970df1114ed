use Rattle.std.proofs.Common.{◌≡◌, ◌≢◌, ℕ, zero, suc, Bool, true, false, List, [], ◌∷◌, ◌++◌, bytes_eq, refl, sym, subst}
use Rattle.std.specs.List.{AllByRecursion}
use Rattle.bi_base.proofs.EqualBytes.{same_bytes, other_bytes}
use Rattle.bi_blob.specs.Tree.{Nodes, none, node, Root, AreDistinct, IsNew, EachOwn, as_nodes}
use Rattle.bi_fdt.specs.Numbers.{BeginsWith, IsNumberOf}
use Rattle.bi_tree.specs.Changes.{with_node, with_new_node, without_node, with_change_at, with_node_at, without_node_at}
use Rattle.bi_tree.specs.Properties.{TreePropertyModel, own_property_names, with_property_in, without_property_in}
use Rattle.bi_tree.specs.Properties.{with_own_property, without_own_property}
use Rattle.bi_tree.specs.Laws.{NumbersStayInTrees}
use Rattle.bi_tree.specs.Trees.{AreNumberedAmong, IsNumberedTree}

-- A condition on what each node has itself holds after changes that keep it.

module _ {Own : Type 0} (IsOwn : Own → Type 0) where
  -- A change keeps the condition.
  abbrev pub IsKeptBy : (Root Own → Root Own) → Type 0
  IsKeptBy change = (root : Root Own) → EachOwn IsOwn (as_nodes root) → EachOwn IsOwn (as_nodes (change root))

  removed_first : (name other : List ℕ) (own : Own) (children later : Nodes Own) → EachOwn IsOwn (node other own children later) →
      EachOwn IsOwn (without_node name later) → (b : Bool) → bytes_eq other name ≡ b →
      EachOwn IsOwn (without_node name (node other own children later))
  removed_first name other own children later all rest true same = rw same all.2
  removed_first name other own children later all rest false differs = rw differs (all.0, all.1, rest)

  child_removed : (name : List ℕ) (nodes : Nodes Own) → EachOwn IsOwn nodes → EachOwn IsOwn (without_node name nodes)
  child_removed name none all = tt
  child_removed name (node other own children later) all =
      removed_first name other own children later all (child_removed name later all.2) (bytes_eq other name) refl

  added_first : (nothing : Own) (name other : List ℕ) (own : Own) (children later : Nodes Own) →
      EachOwn IsOwn (node other own children later) → EachOwn IsOwn (with_new_node nothing name later) → (b : Bool) →
      bytes_eq other name ≡ b → EachOwn IsOwn (with_new_node nothing name (node other own children later))
  added_first nothing name other own children later all rest true same = rw same all
  added_first nothing name other own children later all rest false differs = rw differs (all.0, all.1, rest)

  child_added : (nothing : Own) → IsOwn nothing → (name : List ℕ) (nodes : Nodes Own) → EachOwn IsOwn nodes →
      EachOwn IsOwn (with_new_node nothing name nodes)
  child_added nothing is name none all = (is, tt, tt)
  child_added nothing is name (node other own children later) all =
      added_first nothing name other own children later all (child_added nothing is name later all.2) (bytes_eq other name) refl

  changed_first : (name other : List ℕ) (change : Root Own → Root Own) (own : Own) (children later : Nodes Own) →
      EachOwn IsOwn (node other own children later) → EachOwn IsOwn (as_nodes (change (record { own = own; children = children }))) →
      EachOwn IsOwn (with_node name change later) → (b : Bool) → bytes_eq other name ≡ b →
      EachOwn IsOwn (with_node name change (node other own children later))
  changed_first name other change own children later all changed rest true same = rw same (changed.0, changed.1, all.2)
  changed_first name other change own children later all changed rest false differs = rw differs (all.0, all.1, rest)

  child_changed : (name : List ℕ) (change : Root Own → Root Own) → IsKeptBy change → (nodes : Nodes Own) → EachOwn IsOwn nodes →
      EachOwn IsOwn (with_node name change nodes)
  child_changed name change kept none all = tt
  child_changed name change kept (node other own children later) all =
      changed_first name other change own children later all (kept (record { own = own; children = children }) (all.0, all.1, tt))
      (child_changed name change kept later all.2) (bytes_eq other name) refl

  pub kept_at : (change : Root Own → Root Own) → IsKeptBy change → (path : List (List ℕ)) → IsKeptBy (with_change_at path change)
  kept_at change kept [] root all = kept root all
  kept_at change kept (name ∷ later) root all =
      (all.0, child_changed name (with_change_at later change) (kept_at change kept later) root.children all.1, tt)

  pub kept_without_node : (path : List (List ℕ)) → IsKeptBy (without_node_at path)
  kept_without_node [] root all = all
  kept_without_node (name ∷ []) root all = (all.0, child_removed name root.children all.1, tt)
  kept_without_node (name ∷ next ∷ later) root all =
      (all.0, child_changed name (without_node_at (next ∷ later)) (kept_without_node (next ∷ later)) root.children all.1, tt)

  pub kept_with : (nothing : Own) → IsOwn nothing → (path : List (List ℕ)) → IsKeptBy (with_node_at nothing path)
  kept_with nothing is [] root all = all
  kept_with nothing is (name ∷ later) root all = (
    all.0,
    child_changed name (with_node_at nothing later) (kept_with nothing is later) (with_new_node nothing name root.children)
        (child_added nothing is name root.children all.1),
    tt,
  )

-- A name that is new stays so.
new_with_first : (new_one : TreePropertyModel) (other : List ℕ) (first : TreePropertyModel) (later : List TreePropertyModel) →
    new_one.name ≢ other → first.name ≢ other →
    IsNew other (own_property_names later) → IsNew other (own_property_names (with_property_in new_one later)) → (b : Bool) →
    bytes_eq first.name new_one.name ≡ b →
    IsNew other (own_property_names (with_property_in new_one (first ∷ later)))
new_with_first new_one other first later differs is_other new rest true same = rw same (differs, new)
new_with_first new_one other first later differs is_other new rest false apart = rw apart (is_other, rest)

new_with : (new_one : TreePropertyModel) (other : List ℕ) → new_one.name ≢ other → (properties : List TreePropertyModel) →
    IsNew other (own_property_names properties) →
    IsNew other (own_property_names (with_property_in new_one properties))
new_with new_one other differs [] new = (differs, tt)
new_with new_one other differs (first ∷ later) new =
    new_with_first new_one other first later differs new.0 new.1 (new_with new_one other differs later new.1)
    (bytes_eq first.name new_one.name) refl

new_without_first : (name other : List ℕ) (first : TreePropertyModel) (later : List TreePropertyModel) → first.name ≢ other →
    IsNew other (own_property_names later) → IsNew other (own_property_names (without_property_in name later)) → (b : Bool) →
    bytes_eq first.name name ≡ b →
    IsNew other (own_property_names (without_property_in name (first ∷ later)))
new_without_first name other first later is_other new rest true same = rw same new
new_without_first name other first later is_other new rest false apart = rw apart (is_other, rest)

new_without : (name other : List ℕ) → (properties : List TreePropertyModel) → IsNew other (own_property_names properties) →
    IsNew other (own_property_names (without_property_in name properties))
new_without name other [] new = tt
new_without name other (first ∷ later) new =
    new_without_first name other first later new.0 new.1 (new_without name other later new.1) (bytes_eq first.name name) refl

-- Names that are distinct stay so.
distinct_with_first : (new_one : TreePropertyModel) (first : TreePropertyModel) (later : List TreePropertyModel) →
    IsNew first.name (own_property_names later) →
    AreDistinct (own_property_names later) → AreDistinct (own_property_names (with_property_in new_one later)) → (b : Bool) →
    bytes_eq first.name new_one.name ≡ b →
    AreDistinct (own_property_names (with_property_in new_one (first ∷ later)))
distinct_with_first new_one first later new distinct rest true same =
    rw same (subst (λ other. IsNew other (own_property_names later)) (same_bytes first.name new_one.name same) new, distinct)
distinct_with_first new_one first later new distinct rest false apart =
    rw apart (new_with new_one first.name (λ is. other_bytes first.name new_one.name apart (sym is)) later new, rest)

distinct_with : (new_one : TreePropertyModel) (properties : List TreePropertyModel) → AreDistinct (own_property_names properties) →
    AreDistinct (own_property_names (with_property_in new_one properties))
distinct_with new_one [] distinct = (tt, tt)
distinct_with new_one (first ∷ later) distinct =
    distinct_with_first new_one first later distinct.0 distinct.1 (distinct_with new_one later distinct.1)
    (bytes_eq first.name new_one.name) refl

distinct_without_first : (name : List ℕ) (first : TreePropertyModel) (later : List TreePropertyModel) →
    IsNew first.name (own_property_names later) →
    AreDistinct (own_property_names later) → AreDistinct (own_property_names (without_property_in name later)) → (b : Bool) →
    bytes_eq first.name name ≡ b →
    AreDistinct (own_property_names (without_property_in name (first ∷ later)))
distinct_without_first name first later new distinct rest true same = rw same distinct
distinct_without_first name first later new distinct rest false apart = rw apart (new_without name first.name later new, rest)

distinct_without : (name : List ℕ) (properties : List TreePropertyModel) → AreDistinct (own_property_names properties) →
    AreDistinct (own_property_names (without_property_in name properties))
distinct_without name [] distinct = tt
distinct_without name (first ∷ later) distinct =
    distinct_without_first name first later distinct.0 distinct.1 (distinct_without name later distinct.1) (bytes_eq first.name name) refl

-- Numbers stay those of names.
module _ (names : List (List ℕ)) where
  abbrev HasNumber : TreePropertyModel → Type 0
  HasNumber property = IsNumberOf names property.name property.number

  numbered_with_first : (new : TreePropertyModel) → HasNumber new → (first : TreePropertyModel) (later : List TreePropertyModel) →
      AllByRecursion HasNumber (first ∷ later) → AllByRecursion HasNumber (with_property_in new later) → (b : Bool) →
      bytes_eq first.name new.name ≡ b → AllByRecursion HasNumber (with_property_in new (first ∷ later))
  numbered_with_first new is first later all rest true same = rw same (is, all.1)
  numbered_with_first new is first later all rest false differs = rw differs (all.0, rest)

  numbered_with : (new : TreePropertyModel) → HasNumber new → (properties : List TreePropertyModel) →
      AllByRecursion HasNumber properties → AllByRecursion HasNumber (with_property_in new properties)
  numbered_with new is [] all = (is, tt)
  numbered_with new is (first ∷ later) all =
      numbered_with_first new is first later all (numbered_with new is later all.1) (bytes_eq first.name new.name) refl

  numbered_without_first : (name : List ℕ) (first : TreePropertyModel) (later : List TreePropertyModel) →
      AllByRecursion HasNumber (first ∷ later) → AllByRecursion HasNumber (without_property_in name later) → (b : Bool) →
      bytes_eq first.name name ≡ b → AllByRecursion HasNumber (without_property_in name (first ∷ later))
  numbered_without_first name first later all rest true same = rw same all.1
  numbered_without_first name first later all rest false differs = rw differs (all.0, rest)

  numbered_without : (name : List ℕ) (properties : List TreePropertyModel) → AllByRecursion HasNumber properties →
      AllByRecursion HasNumber (without_property_in name properties)
  numbered_without name [] all = tt
  numbered_without name (first ∷ later) all =
      numbered_without_first name first later all (numbered_without name later all.1) (bytes_eq first.name name) refl

  -- What a node has itself stays so.
  own_with : (new : TreePropertyModel) → HasNumber new → (own : List TreePropertyModel) → AreNumberedAmong names own →
      AreNumberedAmong names (with_property_in new own)
  own_with new is own all = record { distinct = distinct_with new own all.distinct; numbered = numbered_with new is own all.numbered }

  own_without : (name : List ℕ) (own : List TreePropertyModel) → AreNumberedAmong names own →
      AreNumberedAmong names (without_property_in name own)
  own_without name own all = record { distinct = distinct_without name own all.distinct; numbered = numbered_without name own all.numbered }

  nothing_numbered : AreNumberedAmong names []
  nothing_numbered = record { distinct = tt; numbered = tt }

  pub numbered_with_nodes : (path : List (List ℕ)) (root : Root (List TreePropertyModel)) → IsNumberedTree names root →
      IsNumberedTree names (with_node_at [] path root)
  numbered_with_nodes path root all = kept_with (AreNumberedAmong names) [] nothing_numbered path root all

-- A name keeps its number when names are added.
number_kept : (names rest : List (List ℕ)) (name : List ℕ) (number : ℕ) → IsNumberOf names name number →
    IsNumberOf (names ++ rest) name number
number_kept [] rest name number is = absurd cc
number_kept (first ∷ names) rest name zero is = is
number_kept (first ∷ names) rest name (suc number) is = number_kept names rest name number is

module _ (names more : List (List ℕ)) (begin : BeginsWith more names) where
  pub number_among_more : (name : List ℕ) (number : ℕ) → IsNumberOf names name number → IsNumberOf more name number
  number_among_more name number is =
      subst (λ all. IsNumberOf all name number) (sym begin.1) (number_kept names begin.0 name number is)

  numbered_among_more : (own : List TreePropertyModel) → AllByRecursion (λ property. IsNumberOf names property.name property.number) own →
      AllByRecursion (λ property. IsNumberOf more property.name property.number) own
  numbered_among_more [] all = tt
  numbered_among_more (first ∷ later) all = (number_among_more first.name first.number all.0, numbered_among_more later all.1)

  pub nodes_among_more : (nodes : Nodes (List TreePropertyModel)) → EachOwn (AreNumberedAmong names) nodes →
      EachOwn (AreNumberedAmong more) nodes
  nodes_among_more none all = tt
  nodes_among_more (node name own children later) all = (
    record { distinct = all.0.distinct; numbered = numbered_among_more own all.0.numbered },
    nodes_among_more children all.1,
    nodes_among_more later all.2,
  )

pub numbers_stay : NumbersStayInTrees
numbers_stay names root numbered = record {
  more = λ more begin. nodes_among_more names more begin (as_nodes root) numbered;
  removal = λ path. kept_without_node (AreNumberedAmong names) path root numbered;
  value = λ path new is.
      kept_at (AreNumberedAmong names) (with_own_property new)
      (λ old all. (own_with names new is old.own all.0, all.1, tt)) path (with_node_at [] path root)
      (numbered_with_nodes names path root numbered);
  property = λ path name.
      kept_at (AreNumberedAmong names) (without_own_property name)
      (λ old all. (own_without names name old.own all.0, all.1, tt)) path root numbered;
}
