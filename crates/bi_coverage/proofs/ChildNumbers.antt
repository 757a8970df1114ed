use Rattle.std.proofs.Common.{◌≡◌, ℕ, zero, suc, ◌+◌, ◌<◌, List, [], ◌∷◌, ◌++◌, Bool, true, false, cond, map, length, drop, get_or}
use Rattle.std.proofs.Common.{Option, Some, None, slice_get, bytes_eq, refl, sym, ap, subst, ◌∙◌, arith, length-append}
use Rattle.std.proofs.lemmas.List.{drop-map, drop_more, drop_all, length-map}
use Rattle.std.proofs.lemmas.Option.{same_Some}
use Rattle.std.proofs.lemmas.Map.Text.{is_eq-slice_cmp}
use Rattle.std.specs.BTreeMap.{Updates, IsEmpty}
use Rattle.std.specs.Map.{lookup}
use Rattle.std.specs.Ordering.{is_eq, nat_cmp}
use Rattle.std.specs.Cmp.Lexicographic.{slice_cmp}
use denote.Ref.{Bor}
use Rattle.bi_blob.specs.Lookups.{Sibling, siblings, node_named}
use Rattle.bi_blob.specs.Tree.{Nodes, none, node, FileNode}
use Rattle.bi_blob.proofs.NameSets.{name_cmp}
use Rattle.bi_fdt.specs.declared.node.NodeRef.{NodeRef}
use Rattle.bi_fdt.specs.Views.{node_of}
use Rattle.bi_coverage.specs.ChildNumbers.{Children, child_number, first_index, HasNumbersFrom}
use Rattle.bi_coverage.specs.NodeIndices.{HasChildren}

-- The numbers of the children of nodes.

-- A map has the numbers from a node on after that of the node is inserted.
pub number_inserted : (index : ℕ) (sibling : Sibling FileNode) (later : List (Sibling FileNode)) (name : Bor (List ℕ))
    (old new : Children) → name.now ≡ sibling.name → Updates name_cmp old new name (Some index) →
    HasNumbersFrom (index + 1) later old → HasNumbersFrom index (sibling ∷ later) new
number_inserted index sibling later name old new named updates has = record { each = λ wanted. at wanted }
  where
    at : (wanted : List ℕ) → child_number new wanted ≡ first_index index wanted (sibling ∷ later)
    at wanted =
        let key : Bor (List ℕ) = record { ref_ptr = (0, 0); now = wanted } in
        updates.0 key
        ∙ ap (λ b. cond b (Some index) (child_number old wanted)) (is_eq-slice_cmp name.now wanted)
        ∙ ap (λ n. cond (bytes_eq n wanted) (Some index) (child_number old wanted)) named
        ∙ ap (cond (bytes_eq sibling.name wanted) (Some index)) (has.each wanted)

-- What is at a number among nodes that follow others.
abbrev at_number : List (Sibling FileNode) → ℕ → (found : Option (Sibling FileNode)) → Type 0
at_number nodes index found = (slice_get nodes index ≡ found) × (index < length nodes)

-- What is at an index of a list is there in a longer one, after as many more.
get_after : {X : Type 0} (front later : List X) (k : ℕ) → slice_get (front ++ later) (length front + k) ≡ slice_get later k
get_after [] later k = let e : 0 + k ≡ k = omega arith in ap (slice_get later) e
get_after (x ∷ front) later k =
    let e : suc (length front) + k ≡ suc (length front + k) = omega arith in
    ap (slice_get (x ∷ (front ++ later))) e ∙ get_after front later k

-- The numbers of the children of a node, after those of other nodes.
numbers_from : (index : ℕ) (nodes : Nodes FileNode) (name : List ℕ) (number : ℕ) →
    first_index index name (siblings nodes) ≡ Some number →
    (k : ℕ) × (number ≡ index + k) × (slice_get (siblings nodes) k ≡ node_named nodes name) × (k < length (siblings nodes))
numbers_from index none name number is = absurd cc
numbers_from index (node first own children later) name number is =
    by (bytes_eq first name) refl is (λ is. numbers_from (index + 1) later name number is)
  where
    Found : ℕ → Nodes FileNode → Type 0
    Found index nodes =
        (k : ℕ) × (number ≡ index + k) × (slice_get (siblings nodes) k ≡ node_named nodes name) × (k < length (siblings nodes))

    by : (b : Bool) → bytes_eq first name ≡ b → first_index index name (siblings (node first own children later)) ≡ Some number →
        (first_index (index + 1) name (siblings later) ≡ Some number → Found (index + 1) later) →
        Found index (node first own children later)
    by true same is rest =
        let here : Some index ≡ Some number = rw same at is in
        let at : index ≡ number = same_Some index number here in
        (0, omega arith, rw same refl, omega arith)
    by false same is rest =
        let found = rest (rw same at is) in
        let at : number ≡ index + 1 + found.0 = found.1 in
        let within : found.0 < length (siblings later) = found.3 in
        (suc found.0, omega arith, rw same found.2, omega arith)

no_number : (index : ℕ) (nodes : Nodes FileNode) (name : List ℕ) → first_index index name (siblings nodes) ≡ None →
    node_named nodes name ≡ None
no_number index none name is = refl
no_number index (node first own children later) name is =
    by (bytes_eq first name) refl is (λ is. no_number (index + 1) later name is)
  where
    by : (b : Bool) → bytes_eq first name ≡ b → first_index index name (siblings (node first own children later)) ≡ None →
        (first_index (index + 1) name (siblings later) ≡ None → node_named later name ≡ None) →
        node_named (node first own children later) name ≡ None
    by true same is rest = absurd (let e : Some index ≡ None = rw same at is in cc)
    by false same is rest = rw same (rest (rw same at is))

-- The children of a node have these numbers where they follow other nodes.
pub children_numbered : (front : List (Sibling FileNode)) (parent : Sibling FileNode) (children : Children) →
    HasNumbersFrom (length front) (siblings parent.children) children → HasChildren (front ++ siblings parent.children) parent children
children_numbered front parent children has = record {
  absent = λ name is. no_number (length front) parent.children name (sym (has.each name) ∙ is);
  there = λ name index is. at name index (numbers_from (length front) parent.children name index (sym (has.each name) ∙ is));
}
  where
    at : (name : List ℕ) (index : ℕ) →
        (k : ℕ) × (index ≡ length front + k) × (slice_get (siblings parent.children) k ≡ node_named parent.children name)
        × (k < length (siblings parent.children)) →
        (slice_get (front ++ siblings parent.children) index ≡ node_named parent.children name)
        × (index < length (front ++ siblings parent.children))
    at name index found =
        let is : index ≡ length front + found.0 = found.1 in
        let within : found.0 < length (siblings parent.children) = found.3 in (
          ap (slice_get (front ++ siblings parent.children)) is ∙ get_after front (siblings parent.children) found.0 ∙ found.2,
          omega (arith, length-append front (siblings parent.children)),
        )

-- What is at an index stays there in a longer list.
pub get_front : {X : Type 0} (front later : List X) (index : ℕ) → index < length front →
    slice_get (front ++ later) index ≡ slice_get front index
get_front [] later index within = absurd (omega arith)
get_front (x ∷ front) later zero within = refl
get_front (x ∷ front) later (suc index) within = get_front front later index (omega arith)

-- So children keep their numbers where nodes are added.
pub children_stay : (nodes more : List (Sibling FileNode)) (parent : Sibling FileNode) (children : Children) →
    HasChildren nodes parent children → HasChildren (nodes ++ more) parent children
children_stay nodes more parent children has = record {
  absent = has.absent;
  there = λ name index is.
      let there = has.there name index is in
      let within : index < length nodes = there.1 in
      (get_front nodes more index there.1 ∙ there.0, omega (arith, length-append nodes more));
}

-- One more name is inserted, from the end of nodes on.
pub child_numbered : (nodes : List NodeRef) (index next : ℕ) (default : NodeRef) (name : Bor (List ℕ)) (old new : Children) →
    next ≡ index + 1 → index < length nodes → name.now ≡ (node_of (get_or nodes index default)).name →
    Updates name_cmp old new name (Some index) → HasNumbersFrom next (drop next (map node_of nodes)) old →
    HasNumbersFrom index (drop index (map node_of nodes)) new
child_numbered nodes index next default name old new is_next within named updates has =
    let first : drop index (map node_of nodes) ≡ node_of (get_or nodes index default) ∷ drop (index + 1) (map node_of nodes) =
    drop-map node_of index nodes ∙ ap (map node_of) (drop_more nodes index default within)
    ∙ ap (λ l. node_of (get_or nodes index default) ∷ l) (sym (drop-map node_of (index + 1) nodes)) in
    subst (λ l. HasNumbersFrom index l new) (sym first)
    (number_inserted index (node_of (get_or nodes index default)) (drop (index + 1) (map node_of nodes)) name old new named updates
    (subst (λ n. HasNumbersFrom n (drop n (map node_of nodes)) old) is_next has))

-- No name is inserted at first.
pub none_numbered : (nodes : List NodeRef) (numbers : Children) → IsEmpty numbers →
    HasNumbersFrom (length nodes) (drop (length nodes) (map node_of nodes)) numbers
none_numbered nodes numbers empty = record {
  each = λ name.
      ap (λ entries. lookup (λ (other : Bor (List ℕ)). is_eq (slice_cmp nat_cmp name other.now)) entries) empty
      ∙ ap (first_index (length nodes) name) (sym (drop_all (length nodes) (map node_of nodes) (simp length-map (omega arith))));
}
