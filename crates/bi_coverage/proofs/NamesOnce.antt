use Rattle.std.proofs.Common.{◌≡◌, ℕ, List, [], ◌∷◌, ◌++◌, Bool, true, false, ◌<◌, ◌+◌, length, map, flat_map, take, get_or, bytes_eq}
use Rattle.std.proofs.Common.{append-nil, refl, sym, ap, subst, ◌∙◌}
use Rattle.std.specs.Prelude.{◌||◌}
use Rattle.std.proofs.lemmas.List.{map-append, take_more}
use Rattle.std.proofs.lemmas.List.Concat.{flat_map-append}
use Rattle.std.proofs.lemmas.List.Folds.{list_any-append}
use Rattle.std.proofs.lemmas.Slice.Eq.{bytes_eq-Decides}
use Rattle.bi_blob.specs.Layout.{is_among}
use Rattle.bi_coverage.specs.Paths.{with_new, with_all_new, each_once}

-- Names, each once.

-- A name that is not among others comes at their end.
pub new_at_end : (names : List (List ℕ)) (name : List ℕ) → is_among name names ≡ false → names ++ name ∷ [] ≡ with_new names name
new_at_end names name is = rw is refl

-- One that is among them changes nothing.
pub known_stays : (names : List (List ℕ)) (name : List ℕ) → is_among name names ≡ true → names ≡ with_new names name
known_stays names name is = rw is refl

-- Names of two lists are added one after the other.
pub with_all_new-append : (held names later : List (List ℕ)) →
    with_all_new held (names ++ later) ≡ with_all_new (with_all_new held names) later
with_all_new-append held [] later = refl
with_all_new-append held (name ∷ names) later = with_all_new-append (with_new held name) names later

-- What is among names and one more.
pub among_new : (held : List (List ℕ)) (name path : List ℕ) →
    is_among path (with_new held name) ≡ (is_among path held || bytes_eq name path)
among_new held name path = by (is_among name held) (bytes_eq name path) refl refl
  where
    or_true : (b : Bool) → (b || true) ≡ true
    or_true true = refl
    or_true false = refl

    or_false : (b : Bool) → (b || false) ≡ b
    or_false true = refl
    or_false false = refl

    by : (a b : Bool) → is_among name held ≡ a → bytes_eq name path ≡ b →
        is_among path (with_new held name) ≡ (is_among path held || bytes_eq name path)
    by false b is same =
        rw is (list_any-append (λ other. bytes_eq other path) held (name ∷ [])
        ∙ ap (λ c. is_among path held || c) (or_false (bytes_eq name path)))
    by true true is same =
        let there : is_among path held ≡ true = subst (λ name. is_among name held ≡ true) ((bytes_eq-Decides name path).0 same) is in
        rw (is, same) (there ∙ sym (or_true (is_among path held)))
    by true false is same = rw (is, same) (sym (or_false (is_among path held)))

-- What is among names and those of a list.
among_all_new : (held names : List (List ℕ)) (path : List ℕ) →
    is_among path (with_all_new held names) ≡ (is_among path held || is_among path names)
among_all_new held [] path = or_false (is_among path held)
  where
    or_false : (b : Bool) → b ≡ (b || false)
    or_false true = refl
    or_false false = refl
among_all_new held (name ∷ names) path =
    among_all_new (with_new held name) names path
    ∙ ap (λ b. b || is_among path names) (among_new held name path)
    ∙ or_assoc (is_among path held) (bytes_eq name path) (is_among path names)
  where
    or_assoc : (a b c : Bool) → ((a || b) || c) ≡ (a || (b || c))
    or_assoc true b c = refl
    or_assoc false b c = refl

-- A path is among names if and only if it is among them with each once.
pub among_once : (names : List (List ℕ)) (path : List ℕ) → is_among path (each_once names) ≡ is_among path names
among_once names path = among_all_new [] names path

-- One more name is added, in the order of a list.
pub taken_new : {X : Type 0} (f : X → List ℕ) (held : List (List ℕ)) (things : List X) (index : ℕ) (thing : X) → index < length things →
    thing ≡ get_or things index thing →
    with_new (with_all_new held (map f (take index things))) (f thing) ≡ with_all_new held (map f (take (index + 1) things))
taken_new f held things index thing within is =
    sym (with_all_new-append held (map f (take index things)) (f thing ∷ []))
    ∙ ap (with_all_new held) (sym (ap (map f) (take_more things index thing within)
    ∙ map-append f (take index things) (get_or things index thing ∷ [])
    ∙ ap (λ thing. map f (take index things) ++ f thing ∷ []) (sym is)))

-- The names of one more thing are.
pub taken_all_new : {X : Type 0} (f : X → List (List ℕ)) (held : List (List ℕ)) (things : List X) (index : ℕ) (thing : X) →
    index < length things → thing ≡ get_or things index thing →
    with_all_new (with_all_new held (flat_map f (take index things))) (f thing) ≡ with_all_new held (flat_map f (take (index + 1) things))
taken_all_new f held things index thing within is =
    sym (with_all_new-append held (flat_map f (take index things)) (f thing))
    ∙ ap (with_all_new held) (sym (ap (flat_map f) (take_more things index thing within)
    ∙ flat_map-append f (take index things) (get_or things index thing ∷ [])
    ∙ ap (λ l. flat_map f (take index things) ++ l) (append-nil (f (get_or things index thing)) ∙ ap f (sym is))))
