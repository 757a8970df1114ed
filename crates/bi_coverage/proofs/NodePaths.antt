use Rattle.std.proofs.Common.{◌≡◌, ◌≢◌, ℕ, List, [], ◌∷◌, ◌++◌, Bool, true, false, map, filter, flat_map, Option, Some, None}
use Rattle.std.proofs.Common.{bytes_eq, refl, sym, ap, subst, ◌∙◌, append_assoc, append-nil, if◌then◌else◌, ◌&&◌, nat_eq, arith}
use Rattle.std.specs.List.{AllByRecursion}
use Rattle.std.proofs.lemmas.Bool.{false≢true}
use Rattle.std.proofs.lemmas.Bool.Decides.{nat_tests}
use Rattle.std.proofs.lemmas.List.{map-append}
use Rattle.std.proofs.lemmas.List.Concat.{flat_map-append}
use Rattle.std.proofs.lemmas.List.Elements.{filter-append}
use Rattle.std.proofs.lemmas.Slice.Eq.{bytes_eq-Decides}
use Rattle.bi_blob.specs.Tree.{Nodes, none, node, AreNodes, IsNew, names}
use Rattle.bi_blob.specs.Lookups.{Sibling, node_named}
use Rattle.bi_coverage.specs.PathParts.{IsRestOfPath}
use Rattle.bi_coverage.specs.Paths.{LocatedNode, path_text, nodes_below}

-- A path has the node that is found name by name.

-- The bytes of names, each after a slash.
abbrev pub joined_path : List (List ℕ) → List ℕ
joined_path names = flat_map (λ name. 47 ∷ name) names

-- The path of a child.
path_text-child : (parent : List (List ℕ)) (name : List ℕ) → path_text (parent ++ name ∷ []) ≡ joined_path parent ++ 47 ∷ name
path_text-child [] name = ap (λ l. 47 ∷ l) (append-nil name)
path_text-child (first ∷ later) name =
    flat_map-append (λ (name : List ℕ). 47 ∷ name) (first ∷ later) (name ∷ [])
    ∙ ap (λ l. joined_path (first ∷ later) ++ 47 ∷ l) (append-nil name)

-- Two paths begin with the same name.
pub same_first_name : (name other later rest : List ℕ) → AllByRecursion (λ byte. byte ≢ 47) name →
    AllByRecursion (λ byte. byte ≢ 47) other → IsRestOfPath later → IsRestOfPath rest →
    name ++ later ≡ other ++ rest → (name ≡ other) × (later ≡ rest)
same_first_name [] [] later rest plain other_plain is_later is_rest same = (refl, same)
same_first_name [] (byte ∷ other) [] rest plain other_plain is_later is_rest same = absurd cc
same_first_name [] (byte ∷ other) (first ∷ later) rest plain other_plain is_later is_rest same =
    let e : first ≡ byte = cc in absurd (other_plain.0 (sym e ∙ is_later))
same_first_name (byte ∷ name) [] later [] plain other_plain is_later is_rest same = absurd cc
same_first_name (byte ∷ name) [] later (first ∷ rest) plain other_plain is_later is_rest same =
    let e : byte ≡ first = cc in absurd (plain.0 (e ∙ is_rest))
same_first_name (byte ∷ name) (other_byte ∷ other) later rest plain other_plain is_later is_rest same =
    let first : byte ≡ other_byte = cc in
    let below = same_first_name name other later rest plain.1 other_plain.1 is_later is_rest cc in
    (cc (first, below.0), below.1)

-- The same bytes before two paths make no difference.
bytes_eq-after : (front path other : List ℕ) → bytes_eq (front ++ path) (front ++ other) ≡ bytes_eq path other
bytes_eq-after [] path other = refl
bytes_eq-after (byte ∷ front) path other = rw (bytes_eq-after front path other) (ap (λ b. b && bytes_eq path other) (nat_eq_self byte))
  where
    nat_eq_self : (n : ℕ) → nat_eq n n ≡ true
    nat_eq_self n = grind (arith, nat_tests)

module _ {Own : Type 0} where
  -- What the nodes with a path have, if this is the path of their parent, or empty for the root.
  abbrev pub owns_with : List ℕ → Nodes Own → List ℕ → List Own
  owns_with above none path = []
  owns_with above (node name own children later) path =
      (if bytes_eq path (above ++ 47 ∷ name) then own ∷ [] else [])
      ++ (owns_with (above ++ 47 ∷ name) children path ++ owns_with above later path)

  -- It is what the located nodes with this path have.
  pub owns_located : (parent : List (List ℕ)) (nodes : Nodes Own) (path : List ℕ) →
      map (λ located. located.own) (filter (λ located. bytes_eq path (path_text located.names)) (nodes_below parent nodes))
      ≡ owns_with (joined_path parent) nodes path
  owns_located parent none path = refl
  owns_located parent (node name own children later) path =
      by (bytes_eq path (path_text (parent ++ name ∷ []))) refl
      (owns_located (parent ++ name ∷ []) children path) (owns_located parent later path)
    where
      has : LocatedNode Own → Bool
      has located = bytes_eq path (path_text located.names)

      owns : List (LocatedNode Own) → List Own
      owns nodes = map (λ located. located.own) (filter (λ located. bytes_eq path (path_text located.names)) nodes)

      below : List (LocatedNode Own)
      below = nodes_below (parent ++ name ∷ []) children

      joined_child : joined_path (parent ++ name ∷ []) ≡ joined_path parent ++ 47 ∷ name
      joined_child =
          flat_map-append (λ (name : List ℕ). 47 ∷ name) parent (name ∷ []) ∙ ap (λ l. joined_path parent ++ 47 ∷ l) (append-nil name)

      both : owns below ≡ owns_with (joined_path (parent ++ name ∷ [])) children path →
          owns (nodes_below parent later) ≡ owns_with (joined_path parent) later path →
          owns (below ++ nodes_below parent later) ≡
          owns_with (joined_path parent ++ 47 ∷ name) children path ++ owns_with (joined_path parent) later path
      both inside after =
          ap (map (λ located. located.own)) (filter-append has below (nodes_below parent later))
          ∙ map-append (λ (located : LocatedNode Own). located.own) (filter has below) (filter has (nodes_below parent later))
          ∙ ap (λ l. l ++ owns (nodes_below parent later)) (inside ∙ ap (λ above. owns_with above children path) joined_child)
          ∙ ap (λ l. owns_with (joined_path parent ++ 47 ∷ name) children path ++ l) after

      by : (b : Bool) → bytes_eq path (path_text (parent ++ name ∷ [])) ≡ b →
          owns below ≡ owns_with (joined_path (parent ++ name ∷ [])) children path →
          owns (nodes_below parent later) ≡ owns_with (joined_path parent) later path →
          owns (nodes_below parent (node name own children later)) ≡ owns_with (joined_path parent) (node name own children later) path
      by true is inside after =
          let here : bytes_eq path (joined_path parent ++ 47 ∷ name) ≡ true = ap (bytes_eq path) (sym (path_text-child parent name)) ∙ is in
          rw (is, here) (ap (λ l. own ∷ l) (both inside after))
      by false is inside after =
          let here : bytes_eq path (joined_path parent ++ 47 ∷ name) ≡ false =
          ap (bytes_eq path) (sym (path_text-child parent name)) ∙ is in
          rw (is, here) (both inside after)

  -- No node has a path that does not go on with a slash after that of its parent.
  pub owns_elsewhere : (above : List ℕ) (nodes : Nodes Own) (path : List ℕ) →
      ((rest : List ℕ) → path ≡ above ++ 47 ∷ rest → ⊥) → owns_with above nodes path ≡ []
  owns_elsewhere above none path other = refl
  owns_elsewhere above (node name own children later) path other =
      let first : bytes_eq path (above ++ 47 ∷ name) ≡ false = by (bytes_eq path (above ++ 47 ∷ name)) refl in
      let below = owns_elsewhere (above ++ 47 ∷ name) children path
      (λ rest is. other (name ++ 47 ∷ rest) (is ∙ append_assoc above (47 ∷ name) (47 ∷ rest))) in
      rw (first, below, owns_elsewhere above later path other) refl
    where
      by : (b : Bool) → bytes_eq path (above ++ 47 ∷ name) ≡ b → bytes_eq path (above ++ 47 ∷ name) ≡ false
      by true is = absurd (other name ((bytes_eq-Decides path (above ++ 47 ∷ name)).0 is))
      by false is = is

  -- The same bytes before the path of the parent and before the path make no difference.
  pub owns_after : (front above : List ℕ) (nodes : Nodes Own) (path : List ℕ) →
      owns_with (front ++ above) nodes (front ++ path) ≡ owns_with above nodes path
  owns_after front above none path = refl
  owns_after front above (node name own children later) path =
      let longer = append_assoc front above (47 ∷ name) in
      let first : bytes_eq (front ++ path) ((front ++ above) ++ 47 ∷ name) ≡ bytes_eq path (above ++ 47 ∷ name) =
      ap (bytes_eq (front ++ path)) longer ∙ bytes_eq-after front path (above ++ 47 ∷ name) in
      let below : owns_with ((front ++ above) ++ 47 ∷ name) children (front ++ path) ≡ owns_with (above ++ 47 ∷ name) children path =
      ap (λ l. owns_with l children (front ++ path)) longer ∙ owns_after front (above ++ 47 ∷ name) children path in
      rw (first, below, owns_after front above later path) refl

  -- No node has a name that is new.
  not_named : (nodes : Nodes Own) (name : List ℕ) → IsNew name (names nodes) → node_named nodes name ≡ None
  not_named none name is_new = refl
  not_named (node first own children later) name is_new = by (bytes_eq first name) refl (not_named later name is_new.1)
    where
      by : (b : Bool) → bytes_eq first name ≡ b → node_named later name ≡ None → node_named (node first own children later) name ≡ None
      by true is rest = absurd (is_new.0 ((bytes_eq-Decides first name).0 is))
      by false is rest = rw is rest

  -- What is found for the rest of a path.
  abbrev pub owns_found : Option (Sibling Own) → (rest : List ℕ) → List Own
  owns_found None rest = []
  owns_found (Some sibling) [] = sibling.own ∷ []
  owns_found (Some sibling) (byte ∷ later) = owns_with [] sibling.children (byte ∷ later)

  -- The node of a path is below the node that has its first name.
  pub owns_by_name : (IsOwn : Own → Type 0) (nodes : Nodes Own) (name later : List ℕ) → AreNodes IsOwn nodes →
      AllByRecursion (λ byte. byte ≢ 47) name →
      IsRestOfPath later → owns_with [] nodes (47 ∷ (name ++ later)) ≡ owns_found (node_named nodes name) later
  owns_by_name IsOwn none name later are plain is_rest = refl
  owns_by_name IsOwn (node first own children others) name later are plain is_rest =
      by (bytes_eq first name) refl (owns_by_name IsOwn others name later are.2 plain is_rest)
    where
      path : List ℕ
      path = 47 ∷ (name ++ later)

      -- Nothing has a path that begins with another name.
      elsewhere : bytes_eq first name ≡ false → (rest : List ℕ) → IsRestOfPath rest → path ≡ 47 ∷ (first ++ rest) → ⊥
      elsewhere differ rest rest_is same =
          let e : name ++ later ≡ first ++ rest = cc in
          let names = same_first_name name first later rest plain are.0.is_name.no_slash is_rest rest_is e in
          false≢true (sym differ ∙ (bytes_eq-Decides first name).1 (sym names.0))

      -- Below the node of the name is what has the rest of the path.
      at_name : (rest : List ℕ) → IsRestOfPath rest → bytes_eq first name ≡ true →
          (if bytes_eq (47 ∷ (name ++ rest)) (47 ∷ first) then own ∷ [] else []) ++
          (owns_with (47 ∷ first) children (47 ∷ (name ++ rest)) ++ []) ≡
          owns_found (Some (record { name = first; own = own; children = children; later = others })) rest
      at_name [] rest_is is =
          let same : first ≡ name = (bytes_eq-Decides first name).0 is in
          let here : bytes_eq (47 ∷ (name ++ [])) (47 ∷ first) ≡ true =
          (bytes_eq-Decides (47 ∷ (name ++ [])) (47 ∷ first)).1 (ap (λ l. 47 ∷ l) (append-nil name ∙ sym same)) in
          let below : owns_with (47 ∷ first) children (47 ∷ (name ++ [])) ≡ [] =
          owns_elsewhere (47 ∷ first) children (47 ∷ (name ++ []))
          (λ rest e. let after : name ++ [] ≡ first ++ 47 ∷ rest = cc in
          let parts = same_first_name name first [] (47 ∷ rest) plain are.0.is_name.no_slash tt refl after in absurd (cc parts.1)) in
          rw (here, below) refl
      at_name (byte ∷ rest) rest_is is =
          let same : first ≡ name = (bytes_eq-Decides first name).0 is in
          let path = 47 ∷ (name ++ byte ∷ rest) in
          let here : bytes_eq path (47 ∷ first) ≡ false = not_here (bytes_eq path (47 ∷ first)) refl in
          let below : owns_with (47 ∷ first) children path ≡ owns_with [] children (byte ∷ rest) =
          ap (λ name. owns_with (47 ∷ first) children (47 ∷ (name ++ byte ∷ rest))) (sym same)
          ∙ ap (λ above. owns_with above children ((47 ∷ first) ++ byte ∷ rest)) (sym (append-nil (47 ∷ first)))
          ∙ owns_after (47 ∷ first) [] children (byte ∷ rest) in
          rw (here, below) (append-nil (owns_with [] children (byte ∷ rest)))
        where
          not_here : (b : Bool) → bytes_eq (47 ∷ (name ++ byte ∷ rest)) (47 ∷ first) ≡ b →
              bytes_eq (47 ∷ (name ++ byte ∷ rest)) (47 ∷ first) ≡ false
          not_here false is = is
          not_here true is =
              let e : 47 ∷ (name ++ byte ∷ rest) ≡ 47 ∷ first = (bytes_eq-Decides (47 ∷ (name ++ byte ∷ rest)) (47 ∷ first)).0 is in
              let after : name ++ byte ∷ rest ≡ first ++ [] = (cc e) ∙ sym (append-nil first) in
              let parts = same_first_name name first (byte ∷ rest) [] plain are.0.is_name.no_slash rest_is tt after in
              absurd (cc parts.1)

      by : (b : Bool) → bytes_eq first name ≡ b → owns_with [] others path ≡ owns_found (node_named others name) later →
          owns_with [] (node first own children others) path ≡ owns_found (node_named (node first own children others) name) later
      by false differ rest =
          let here : bytes_eq path (47 ∷ first) ≡ false = not_here (bytes_eq path (47 ∷ first)) refl in
          let below : owns_with (47 ∷ first) children path ≡ [] =
          owns_elsewhere (47 ∷ first) children path (λ rest same. elsewhere differ (47 ∷ rest) refl same) in
          rw (here, below, differ) rest
        where
          not_here : (b : Bool) → bytes_eq path (47 ∷ first) ≡ b → bytes_eq path (47 ∷ first) ≡ false
          not_here false is = is
          not_here true is =
              absurd (elsewhere differ [] tt ((bytes_eq-Decides path (47 ∷ first)).0 is ∙ sym (append-nil (47 ∷ first))))
      by true is rest =
          let same : first ≡ name = (bytes_eq-Decides first name).0 is in
          let lost : node_named others name ≡ None =
          not_named others name (subst (λ name. IsNew name (names others)) same are.0.is_new) in
          let none_there : owns_with [] others path ≡ [] = rest ∙ ap (λ found. owns_found found later) lost in
          rw (none_there, is) (at_name later is_rest is)
