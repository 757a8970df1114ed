use Rattle.std.proofs.Common.{◌≡◌, ℕ, zero, suc, Bool, true, false, List, [], ◌∷◌, map, Option, Some, bytes_eq, refl, sym, ap, subst}
use Rattle.std.proofs.Common.{◌∙◌, arith, rules}
use Rattle.std.specs.List.{slice_get}
use Rattle.std.specs.Map.{lookup}
use Rattle.std.proofs.lemmas.Slice.Eq.{bytes_eq-Decides}
use Rattle.bi_blob.specs.Tree.{Nodes, none, node, FileProperty, FileNode, names, with_each, IsNew, AreDistinct}
use Rattle.bi_blob.specs.Lookups.{Sibling, siblings, siblings_from, node_at}
use Rattle.bi_blob.specs.BlobLaws.{NodesAreFound, PropertiesAreFound}

-- Nodes and properties with distinct names are found by their names.

module _ {X : Type 0} (name_of : X → List ℕ) where
  -- The things of a list by their names.
  abbrev by_name : List X → List (List ℕ × X)
  by_name things = map (λ thing. (name_of thing, thing)) things

  -- What is at an index of a list, and has a name that is new among the names of the list, is not there.
  not_new : (name : List ℕ) (things : List X) (index : ℕ) (thing : X) → slice_get things index ≡ Some thing → name_of thing ≡ name →
      IsNew name (map name_of things) → ⊥
  not_new name [] index thing there is_name is_new = absurd cc
  not_new name (first ∷ later) zero thing there is_name is_new = search rules
  not_new name (first ∷ later) (suc index) thing there is_name is_new = not_new name later index thing there is_name is_new.1

  -- What is at an index is found by its name.
  found_at : (things : List X) (index : ℕ) (thing : X) → AreDistinct (map name_of things) → slice_get things index ≡ Some thing →
      lookup (λ other. bytes_eq other (name_of thing)) (by_name things) ≡ Some thing
  found_at [] index thing distinct there = absurd cc
  found_at (first ∷ later) zero thing distinct there = search (rules, bytes_eq-Decides)
  found_at (first ∷ later) (suc index) thing distinct there =
      where_first (bytes_eq (name_of first) (name_of thing)) refl (found_at later index thing distinct.1 there)
    where
      where_first : (b : Bool) → bytes_eq (name_of first) (name_of thing) ≡ b →
          lookup (λ other. bytes_eq other (name_of thing)) (by_name later) ≡ Some thing →
          lookup (λ other. bytes_eq other (name_of thing)) (by_name (first ∷ later)) ≡ Some thing
      where_first true is rest =
          absurd (not_new (name_of first) later index thing there
          (sym ((bytes_eq-Decides (name_of first) (name_of thing)).0 is)) distinct.0)
      where_first false is rest = rw is rest

  -- What is found by a name has the name, and is at an index.
  at_found : (things : List X) (name : List ℕ) (thing : X) → lookup (λ other. bytes_eq other name) (by_name things) ≡ Some thing →
      (name_of thing ≡ name) × (index : ℕ) × (slice_get things index ≡ Some thing)
  at_found [] name thing found = absurd cc
  at_found (first ∷ later) name thing found =
      where_first (bytes_eq (name_of first) name) refl found (λ found. at_found later name thing found)
    where
      where_first : (b : Bool) → bytes_eq (name_of first) name ≡ b →
          lookup (λ other. bytes_eq other name) (by_name (first ∷ later)) ≡ Some thing →
          (lookup (λ other. bytes_eq other name) (by_name later) ≡ Some thing →
          (name_of thing ≡ name) × (index : ℕ) × (slice_get later index ≡ Some thing)) →
          (name_of thing ≡ name) × (index : ℕ) × (slice_get (first ∷ later) index ≡ Some thing)
      where_first true is found rest =
          let is_first : Some first ≡ Some thing = rw is at found in
          let same : first ≡ thing = cc in
          (ap name_of (sym same) ∙ (bytes_eq-Decides (name_of first) name).0 is, 0, is_first)
      where_first false is found rest =
          let there = rest (rw is at found) in
          (there.0, suc there.1, there.2)

-- The names of nodes are those of the nodes with their later siblings.
pub names-siblings : {Own : Type 0} (nodes : Nodes Own) → map (λ (s : Sibling Own). s.name) (siblings nodes) ≡ names nodes
names-siblings none = refl
names-siblings (node name own children later) = ap (λ l. name ∷ l) (names-siblings later)

-- What nodes have themselves makes no difference to their names.
pub names-with_each : {A B : Type 0} (change : A → B) (nodes : Nodes A) → names (with_each change nodes) ≡ names nodes
names-with_each change none = refl
names-with_each change (node name own children later) = ap (λ l. name ∷ l) (names-with_each change later)

-- From the first of some nodes on, there are all of them.
pub siblings_from-first : {Own : Type 0} (nodes : Nodes Own) → siblings_from (node_at nodes 0) ≡ siblings nodes
siblings_from-first none = refl
siblings_from-first (node name own children later) = refl

-- From a node on, there are the node and those from the next one on.
pub siblings_from-next : {Own : Type 0} (next after : Option (Sibling Own)) (first : Sibling Own) → next ≡ Some first →
    after ≡ node_at first.later 0 → siblings_from next ≡ first ∷ siblings_from after
siblings_from-next next after first is after_is = search (rules, siblings_from-first)

-- After a node comes the first of its later siblings.
next_node : {Own : Type 0} (nodes : Nodes Own) (index : ℕ) (sibling : Sibling Own) → node_at nodes index ≡ Some sibling →
    node_at sibling.later 0 ≡ node_at nodes (suc index)
next_node none index sibling there = absurd cc
next_node {Own = Own} (node name own children later) zero sibling there = search rules
next_node (node name own children later) (suc index) sibling there = next_node later index sibling there

-- Nodes with distinct names are found.
pub nodes_are_found : NodesAreFound
nodes_are_found nodes distinct = record {
  at_index = λ index sibling there.
      found_at (λ (s : Sibling FileNode). s.name) (siblings nodes) index sibling
      (subst AreDistinct (sym (names-siblings nodes)) distinct) there;
  by_name = search (rules, at_found);
  next = λ index sibling there. next_node nodes index sibling there ∙ ap (node_at nodes) (omega arith);
}

-- Properties with distinct names are found.
pub properties_are_found : PropertiesAreFound
properties_are_found properties distinct = record {
  at_index = λ index property there. found_at (λ (p : FileProperty). p.name) properties index property distinct there;
  by_name = search (rules, at_found);
}
