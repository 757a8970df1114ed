use Rattle.std.proofs.Common.{◌≡◌, ◌≢◌, ℕ, suc, zero, ◌<◌, List, [], ◌∷◌, Bool, true, false, max, map, filter, length, Some}
use Rattle.std.proofs.Common.{None, slice_get}
use Rattle.std.proofs.Common.{bytes_eq, get_or, ◌==◌, refl, sym, ap, subst, ◌∙◌, arith}
use Rattle.std.specs.List.{AllZip}
use Rattle.std.proofs.lemmas.Bool.{eqb-true, true≢false}
use Rattle.std.proofs.lemmas.Slice.Zip.{AllZip-long}
use Rattle.std.proofs.lemmas.Option.{same_Some}
use Rattle.std.proofs.lemmas.Slice.Eq.{bytes_eq-Decides}
use Rattle.bi_blob.specs.Lookups.{Sibling, root_node, node_named}
use Rattle.bi_blob.specs.Tree.{Nodes, none, node, FileNode, Root, AreNodes, AreProperties, IsTree, IsNew, properties_of}
use Rattle.bi_blob.specs.Tree.{tree_without_places, with_each}
use Rattle.bi_blob.proofs.Blobs.Lookups.{names-with_each}
use Rattle.bi_coverage.specs.ChildNumbers.{Children, child_number}
use Rattle.bi_coverage.specs.Coverage.{names_end}
use Rattle.bi_coverage.specs.NodeIndices.{HasChildren, IsNodeIndex, path_end}
use Rattle.bi_coverage.specs.Numbers.{greatest}
use Rattle.bi_coverage.specs.PathParts.{BeginsWithNode, BeginsWithNoSlash}
use Rattle.bi_coverage.specs.Paths.{LocatedNode, path_text, nodes_below}
use Rattle.bi_coverage.proofs.NodePaths.{owns_with, owns_found, owns_located, owns_by_name, owns_elsewhere}

-- The node of a path is found name by name.

-- The properties of a node may be those of one.
abbrev pub IsOwn : FileNode → Type 0
IsOwn own = AreProperties (properties_of own)

-- Nodes of a file are nodes of a tree.
nodes_are : (nodes : Nodes FileNode) → AreNodes AreProperties (with_each properties_of nodes) → AreNodes IsOwn nodes
nodes_are none are = tt
nodes_are (node name own children later) are = (
  record { is_name = are.0.is_name; is_own = are.0.is_own; is_new = subst (IsNew name) (names-with_each properties_of later) are.0.is_new },
  nodes_are children are.1,
  nodes_are later are.2,
)

pub root_is : (root : Root FileNode) → IsTree AreProperties (tree_without_places root) → AreNodes IsOwn root.children
root_is root is = nodes_are root.children is.children

-- So are the children of one that is found by its name.
pub found_are : (nodes : Nodes FileNode) (name : List ℕ) (found : Sibling FileNode) → AreNodes IsOwn nodes →
    node_named nodes name ≡ Some found → AreNodes IsOwn found.children
found_are none name found are is = absurd cc
found_are (node first own children later) name found are is =
    by (bytes_eq first name) refl is (λ is. found_are later name found are.2 is)
  where
    by : (b : Bool) → bytes_eq first name ≡ b → node_named (node first own children later) name ≡ Some found →
        (node_named later name ≡ Some found → AreNodes IsOwn found.children) → AreNodes IsOwn found.children
    by true same is rest =
        let here : Some (record { name = first; own = own; children = children; later = later }) ≡ Some found = rw same at is in
        subst (λ (sibling : Sibling FileNode). AreNodes IsOwn sibling.children) (same_Some _ _ here) are.1
    by false same is rest = rest (rw same at is)

-- No node has an empty name.
no_empty_name : (nodes : Nodes FileNode) → AreNodes IsOwn nodes → node_named nodes [] ≡ None
no_empty_name none are = refl
no_empty_name (node [] own children later) are = absurd (are.0.is_name.some refl)
no_empty_name (node (byte ∷ name) own children later) are = no_empty_name later are.2

-- What is within a list is there.
there_within : {X : Type 0} (things : List X) (index : ℕ) → index < length things → (thing : X) × (slice_get things index ≡ Some thing)
there_within [] index within = absurd (omega arith)
there_within (thing ∷ later) zero within = (thing, refl)
there_within (thing ∷ later) (suc index) within = there_within later index (omega arith)

-- What is at an index is within.
pub within_from_get : {X : Type 0} (things : List X) (index : ℕ) (thing : X) → slice_get things index ≡ Some thing → index < length things
within_from_get [] index thing is = absurd cc
within_from_get (first ∷ later) zero thing is = omega arith
within_from_get (first ∷ later) (suc index) thing is =
    let rest = within_from_get later index thing is in omega (arith, rest)

-- The thing that is read at an index is there.
pub got_at : {X : Type 0} (things : List X) (index : ℕ) (thing : X) → index < length things → thing ≡ get_or things index thing →
    slice_get things index ≡ Some thing
got_at {X = X} things index thing within is = there things index within ∙ ap (λ thing. Some thing) (sym is)
  where
    there : (things : List X) (index : ℕ) → index < length things → slice_get things index ≡ Some (get_or things index thing)
    there [] index within = absurd (omega arith)
    there (first ∷ later) zero within = refl
    there (first ∷ later) (suc index) within = there later index (omega arith)

-- A path may be empty.
pub no_node_at_path : (path : List ℕ) → (length path == 0) ≡ true → path ≡ []
no_node_at_path [] is = refl
no_node_at_path (byte ∷ path) is = absurd (let e = eqb-true (length (byte ∷ path)) 0 is in omega (arith, e))

pub some_path : (path : List ℕ) → (length path == 0) ≡ false → path ≢ []
some_path [] is empty = true≢false is
some_path (byte ∷ path) is empty = absurd cc

-- What holds of two lists holds at an index.
zipped_at : {X Y : Type 0} (R : X → Y → Type 0) (things : List X) (others : List Y) (index : ℕ) (thing : X) (other : Y) →
    AllZip R things others → slice_get things index ≡ Some thing → slice_get others index ≡ Some other → R thing other
zipped_at R [] others index thing other all there is = absurd cc
zipped_at R (first ∷ things) [] index thing other all there is = absurd all
zipped_at R (first ∷ things) (second ∷ others) zero thing other all there is =
    subst (R thing) (same_Some second other is) (subst (λ thing. R thing second) (same_Some first thing there) all.0)
zipped_at R (first ∷ things) (second ∷ others) (suc index) thing other all there is =
    zipped_at R things others index thing other all.1 there is

-- What is at an index of a mapped list.
mapped_at : {X Y : Type 0} (f : X → Y) (things : List X) (index : ℕ) (thing : X) → slice_get things index ≡ Some thing →
    slice_get (map f things) index ≡ Some (f thing)
mapped_at f [] index thing there = absurd cc
mapped_at f (first ∷ things) zero thing there = ap (λ thing. Some (f thing)) (same_Some first thing there)
mapped_at f (first ∷ things) (suc index) thing there = mapped_at f things index thing there

-- A search has come to the node with this number, and this rest of the path is left.
pub record IsAtNode (file : List ℕ) (root : Root FileNode) (children : List Children) (ends : List ℕ) (path : List ℕ) (number : ℕ)
    (rest : List ℕ) : Type 0 where
  pub index : IsNodeIndex file root children ends
  pub sibling : Sibling FileNode
  pub there : slice_get index.nodes number ≡ Some sibling
  pub are : AreNodes IsOwn sibling.children
  pub owns : owns_with [] root.children path ≡ owns_found (Some sibling) rest

-- It begins at the root.
pub at_root : (file : List ℕ) (root : Root FileNode) (children : List Children) (ends path : List ℕ) →
    IsNodeIndex file root children ends → IsTree AreProperties (tree_without_places root) → path ≢ [] →
    IsAtNode file root children ends path 0 path
at_root file root children ends [] index is some = absurd (some refl)
at_root file root children ends (byte ∷ path) index is some = record {
  index = index;
  sibling = root_node root;
  there = index.is_root;
  are = root_is root is;
  owns = refl;
}

module _ (file : List ℕ) (root : Root FileNode) (children : List Children) (ends path : List ℕ) (number : ℕ) (rest : List ℕ)
    (at : IsAtNode file root children ends path number rest) where
  -- What the nodes with the path have, if the rest begins with a name.
  owns_rest : (name later : List ℕ) → BeginsWithNode rest name later →
      owns_with [] root.children path ≡ owns_found (node_named at.sibling.children name) later
  owns_rest name later begins =
      at.owns ∙ ap (owns_found (Some at.sibling)) begins.is
      ∙ owns_by_name IsOwn at.sibling.children name later at.are begins.no_slash begins.is_rest

  -- The children of the node.
  its_children : (numbers : Children) → slice_get children number ≡ Some numbers → HasChildren at.index.nodes at.sibling numbers
  its_children numbers is =
      zipped_at (HasChildren at.index.nodes) at.index.nodes children number at.sibling numbers at.index.have_children at.there is

  -- A child has the name.
  pub at_child : (numbers : Children) (name later : List ℕ) (child : ℕ) → slice_get children number ≡ Some numbers →
      BeginsWithNode rest name later → child_number numbers name ≡ Some child → IsAtNode file root children ends path child later
  at_child numbers name later child is begins found =
      let has = (its_children numbers is).there name child found in
      let next = there_within at.index.nodes child has.1 in
      let named : node_named at.sibling.children name ≡ Some next.0 = sym has.0 ∙ next.1 in
      record {
        index = at.index;
        sibling = next.0;
        there = next.1;
        are = found_are at.sibling.children name next.0 at.are named;
        owns = owns_rest name later begins ∙ ap (λ found. owns_found found later) named;
      }

  -- No child has the name.
  pub at_no_child : (numbers : Children) (name later : List ℕ) → slice_get children number ≡ Some numbers →
      BeginsWithNode rest name later → child_number numbers name ≡ None → owns_with [] root.children path ≡ []
  at_no_child numbers name later is begins none_there =
      owns_rest name later begins ∙ ap (λ found. owns_found found later) ((its_children numbers is).absent name none_there)

  -- No name is left.
  pub at_end : rest ≡ [] → owns_with [] root.children path ≡ at.sibling.own ∷ []
  at_end is = at.owns ∙ ap (owns_found (Some at.sibling)) is

  -- The end of the names of the node.
  pub end_there : slice_get ends number ≡ Some (names_end file at.sibling.own)
  end_there =
      ap (λ l. slice_get l number) at.index.have_ends
      ∙ mapped_at (λ (sibling : Sibling FileNode). names_end file sibling.own) at.index.nodes number at.sibling at.there

  -- The rest is not a path.
  pub at_no_path : BeginsWithNoSlash rest → rest ≢ [] → owns_with [] root.children path ≡ []
  at_no_path plain some = at.owns ∙ by rest refl
    where
      by : (left : List ℕ) → rest ≡ left → owns_found (Some at.sibling) rest ≡ []
      by [] is = absurd (some is)
      by (byte ∷ later) is =
          ap (owns_found (Some at.sibling)) is
          ∙ owns_elsewhere [] at.sibling.children (byte ∷ later) (λ names same. plain names (is ∙ same))

  -- The number is among the children and the ends.
  pub within_children : number < length children
  within_children =
      let within = within_from_get at.index.nodes number at.sibling at.there in
      let long = AllZip-long _ at.index.nodes children at.index.have_children in
      omega (arith, within, long)

  pub within_ends : number < length ends
  within_ends =
      let within = within_from_get ends number (names_end file at.sibling.own) end_there in
      omega (arith, within)

-- The numbers of what nodes have.
ends_of_owns : (file : List ℕ) (nodes : List (LocatedNode FileNode)) →
    map (λ (located : LocatedNode FileNode). names_end file located.own) nodes
    ≡ map (names_end file) (map (λ (located : LocatedNode FileNode). located.own) nodes)
ends_of_owns file [] = refl
ends_of_owns file (located ∷ later) = ap (λ l. names_end file located.own ∷ l) (ends_of_owns file later)

-- The end at a path, without the root.
end_below : (file : List ℕ) (root : Root FileNode) (path : List ℕ) →
    greatest (map (λ (located : LocatedNode FileNode). names_end file located.own)
    (filter (λ located. bytes_eq path (path_text located.names)) (nodes_below [] root.children)))
    ≡ greatest (map (names_end file) (owns_with [] root.children path))
end_below file root path =
    ap greatest (ends_of_owns file (filter (λ located. bytes_eq path (path_text located.names)) (nodes_below [] root.children))
    ∙ ap (map (names_end file)) (owns_located [] root.children path))

-- The end at a path other than that of the root.
pub end_elsewhere : (file : List ℕ) (root : Root FileNode) (path : List ℕ) → bytes_eq path (47 ∷ []) ≡ false →
    path_end file root path ≡ greatest (map (names_end file) (owns_with [] root.children path))
end_elsewhere file root path other = rw other (end_below file root path)

-- The end at the path of the root.
pub end_root : (file : List ℕ) (root : Root FileNode) → IsTree AreProperties (tree_without_places root) →
    path_end file root (47 ∷ []) ≡ names_end file root.own
end_root file root is =
    let lost : owns_with [] root.children (47 ∷ []) ≡ [] =
    owns_by_name IsOwn root.children [] [] (root_is root is) tt tt
    ∙ ap (λ found. owns_found found []) (no_empty_name root.children (root_is root is)) in
    ap (max (names_end file root.own)) (end_below file root (47 ∷ []) ∙ ap (λ owns. greatest (map (names_end file) owns)) lost)
    ∙ max_zero (names_end file root.own)
  where
    max_zero : (n : ℕ) → max n 0 ≡ n
    max_zero n = omega arith

-- No node has a path.
pub lost_end : (file : List ℕ) (root : Root FileNode) (path : List ℕ) → bytes_eq path (47 ∷ []) ≡ false →
    owns_with [] root.children path ≡ [] → 0 ≡ path_end file root path
lost_end file root path other none_there =
    sym (end_elsewhere file root path other ∙ ap (λ owns. greatest (map (names_end file) owns)) none_there)

-- No node has the empty path.
pub empty_end : (file : List ℕ) (root : Root FileNode) (path : List ℕ) → bytes_eq path (47 ∷ []) ≡ false → path ≡ [] →
    0 ≡ path_end file root path
empty_end file root path other empty =
    lost_end file root path other
    (ap (owns_with [] root.children) empty ∙ owns_elsewhere [] root.children [] (λ rest same. absurd cc))

-- The end at the path of the root that was read.
pub root_end : (file : List ℕ) (root : Root FileNode) (children : List Children) (ends path : List ℕ) →
    IsNodeIndex file root children ends → IsTree AreProperties (tree_without_places root) → bytes_eq path (47 ∷ []) ≡ true → (end : ℕ) →
    end ≡ get_or ends 0 end → end ≡ path_end file root path
unfolding at_root
root_end file root children ends path index is same end is_end =
    let at = at_root file root children ends (47 ∷ []) index is (λ empty. absurd cc) in
    let there = end_there file root children ends (47 ∷ []) 0 (47 ∷ []) at in
    let within = within_ends file root children ends (47 ∷ []) 0 (47 ∷ []) at in
    let is_path : path ≡ 47 ∷ [] = (bytes_eq-Decides path (47 ∷ [])).0 same in
    same_Some _ _ (sym (got_at ends 0 end within is_end) ∙ there) ∙ sym (end_root file root is) ∙ ap (path_end file root) (sym is_path)

-- The end at another path that was read.
pub found_end : (file : List ℕ) (root : Root FileNode) (children : List Children) (ends path : List ℕ) (number : ℕ) (rest : List ℕ) →
    IsAtNode file root children ends path number rest → rest ≡ [] → bytes_eq path (47 ∷ []) ≡ false → (end : ℕ) →
    end ≡ get_or ends number end → end ≡ path_end file root path
found_end file root children ends path number rest at none_left other end is_end =
    let there = end_there file root children ends path number rest at in
    let within = within_ends file root children ends path number rest at in
    let whole : path_end file root path ≡ max (names_end file at.sibling.own) 0 =
    end_elsewhere file root path other
    ∙ ap (λ owns. greatest (map (names_end file) owns)) (at_end file root children ends path number rest at none_left) in
    let read : end ≡ names_end file at.sibling.own = same_Some _ _ (sym (got_at ends number end within is_end) ∙ there) in
    omega (arith, whole, read)
