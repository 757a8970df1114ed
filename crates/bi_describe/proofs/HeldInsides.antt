use Rattle.std.proofs.Common.{◌≡◌, ℕ, zero, suc, ◌+◌, ◌<◌, Bool, true, false, List, [], ◌∷◌, Option, None, Some}
use Rattle.std.proofs.Common.{arith, get_or, length, take, inl, inr, option_map, refl, set, sym, ap, subst, ◌∙◌, ◌⊎◌, true≢false}
use Rattle.std.specs.Prelude.{◌==◌, ◌||◌, Err, Ok, OnOk, Result, slice_get}
use Rattle.std.proofs.lemmas.List.{take_more}
use Rattle.bi_base.proofs.ListMembers.{each-append}
use Rattle.std.proofs.lemmas.Bool.Decides.{eqb_tells}
use Rattle.std.specs.Borrow.{Bor}
use Rattle.std.specs.List.{AllByRecursion}
use Rattle.bi_fit.proofs.Meanings.{same_in_some}
use Rattle.bi_describe.specs.declared.describe.inside.InsideTree.{InsideTree}
use Rattle.bi_describe.specs.declared.describe.insides.Insides.{Insides as MadeInsides}
use Rattle.bi_describe.specs.declared.ignored.PayloadPlace.{PayloadPlace as MadePlace}
use Rattle.bi_blob.specs.Tree.{with_each_node}
use Rattle.bi_describe.specs.ComparedNodes.{plain_compared}
use Rattle.bi_describe.specs.DeepDescriptions.{whole_devicetree}
use Rattle.bi_describe.specs.Devicetrees.{Devicetree, Insides}
use Rattle.bi_describe.specs.IgnoredWords.{payload_path}
use Rattle.bi_describe.specs.Ignoring.{Ignored, PayloadPlace}
use Rattle.bi_describe.specs.MadeInsides.{HoldInsides, HoldsAt, HoldsInside, is_one_of_places, made_tree_at, payload_index_in}
use Rattle.bi_describe.specs.MadeInsides.{tree_or_none}
use Rattle.bi_describe.specs.MadeInsides.{tree_with_index, whole_devicetrees, with_tree_at}
use Rattle.bi_describe.specs.MadeWords.{place_of_payload}
use Rattle.bi_describe.specs.OpenedPayloads.{is_same_payload, tree_at_without, tree_without, words_inside}
use Rattle.bi_describe.specs.ReducedMeanings.{ReducedTree, kept_root}
use Rattle.bi_describe.proofs.OneInside.{place_found, same_place}
use Rattle.bi_describe.proofs.ReadInsides.{index_at_place}

-- What is inside payloads, as the code has it.

-- ---- one place

-- If the code has no devicetree at a place, there is none.
pub whole_none : (place : PayloadPlace) (found : Option Devicetree) (made : Option InsideTree) → made ≡ None →
    HoldsAt place (option_map whole_devicetree found) made → found ≡ None
whole_none place None made is holds = refl
whole_none place (Some found) made is holds =
    let own : HoldsAt place (Some (whole_devicetree found)) None = rw is at holds in absurd own

-- ---- a tree that changes

get-set_same : {X : Type 0} (xs : List X) (index : ℕ) (x y : X) → slice_get xs index ≡ Some x → slice_get (set xs index y) index ≡ Some y
get-set_same [] index x y is = absurd cc
get-set_same (first ∷ xs) zero x y is = refl
get-set_same (first ∷ xs) (suc index) x y is = get-set_same xs index x y is

get-set_other : {X : Type 0} (xs : List X) (index other : ℕ) (y : X) → ((other ≡ index) → ⊥) →
    slice_get (set xs index y) other ≡ slice_get xs other
get-set_other [] index other y differs = refl
get-set_other (first ∷ xs) zero zero y differs = absurd (differs refl)
get-set_other (first ∷ xs) zero (suc other) y differs = refl
get-set_other (first ∷ xs) (suc index) zero y differs = refl
get-set_other (first ∷ xs) (suc index) (suc other) y differs = get-set_other xs index other y (λ same. differs (ap suc same))

-- Another tree with an index.
pub record IsReplaced (made new : MadeInsides) (number : ℕ) (old tree : Option InsideTree) : Type 0 where
  pub same_index : new.index ≡ made.index
  pub there : slice_get made.trees.items number ≡ Some old
  pub trees : new.trees.items ≡ set made.trees.items number tree

-- The tree with this index, and those with others.
replaced_here : (made new : MadeInsides) (number : ℕ) (old tree : Option InsideTree) → IsReplaced made new number old tree →
    tree_with_index new.trees.items (Some number) ≡ tree
replaced_here made new number old tree is =
    ap (λ trees. tree_or_none (slice_get trees number)) is.trees
    ∙ ap tree_or_none (get-set_same made.trees.items number old tree is.there)

replaced_other : (made new : MadeInsides) (number other : ℕ) (old tree : Option InsideTree) → IsReplaced made new number old tree →
    ((other ≡ number) → ⊥) → tree_with_index new.trees.items (Some other) ≡ tree_with_index made.trees.items (Some other)
replaced_other made new number other old tree is differs =
    ap (λ trees. tree_or_none (slice_get trees other)) is.trees
    ∙ ap tree_or_none (get-set_other made.trees.items number other tree differs)

made_at : (made : MadeInsides) (place : PayloadPlace) (found : Option ℕ) → payload_index_in made.index place ≡ found →
    made_tree_at made place ≡ tree_with_index made.trees.items found
made_at made place found is = ap (tree_with_index made.trees.items) is

new_at : (made new : MadeInsides) (place : PayloadPlace) (found : Option ℕ) → new.index ≡ made.index →
    payload_index_in made.index place ≡ found → made_tree_at new place ≡ tree_with_index new.trees.items found
new_at made new place found same at = ap (tree_with_index new.trees.items) (ap (λ index. payload_index_in index place) same ∙ at)

-- The trees at all places, if that with one index is replaced by one that is held there.
pub replaced_held : (trees others : PayloadPlace → Option ReducedTree) (made new : MadeInsides) (number : ℕ)
    (old tree : Option InsideTree) → IsReplaced made new number old tree →
    ((place : PayloadPlace) → payload_index_in made.index place ≡ Some number → HoldsAt place (trees place) old →
    HoldsAt place (others place) tree) →
    ((place : PayloadPlace) → ((payload_index_in made.index place ≡ Some number) → ⊥) → others place ≡ trees place) →
    HoldInsides trees made → HoldInsides others new
replaced_held trees others made new number old tree is here elsewhere held place = by (payload_index_in made.index place) refl
  where
    stays : (found : Option ℕ) → payload_index_in made.index place ≡ found → ((found ≡ Some number) → ⊥) →
        tree_with_index new.trees.items found ≡ tree_with_index made.trees.items found →
        HoldsAt place (others place) (made_tree_at new place)
    stays found at differs same =
        subst (λ tree. HoldsAt place tree (made_tree_at new place)) (sym (elsewhere place (λ is. differs (sym at ∙ is))))
        (subst (HoldsAt place (trees place))
        (made_at made place found at ∙ sym same ∙ sym (new_at made new place found is.same_index at)) (held place))

    at_number : (other : ℕ) → payload_index_in made.index place ≡ Some other →
        (((other == number) ≡ true) × (other ≡ number)) ⊎ (((other == number) ≡ false) × ((other ≡ number) → ⊥)) →
        HoldsAt place (others place) (made_tree_at new place)
    at_number other at (inl (equal, same)) =
        let at_this : payload_index_in made.index place ≡ Some number = at ∙ ap Some same in
        let old_there : made_tree_at made place ≡ old = made_at made place (Some number) at_this ∙ ap tree_or_none is.there in
        subst (HoldsAt place (others place))
        (sym (new_at made new place (Some number) is.same_index at_this ∙ replaced_here made new number old tree is))
        (here place at_this (subst (HoldsAt place (trees place)) old_there (held place)))
    at_number other at (inr (unequal, differs)) =
        stays (Some other) at (λ same. differs (same_in_some other number same)) (replaced_other made new number other old tree is differs)

    by : (found : Option ℕ) → payload_index_in made.index place ≡ found → HoldsAt place (others place) (made_tree_at new place)
    by None at = stays None at (λ same. absurd cc) refl
    by (Some other) at = at_number other at (eqb_tells other number)

-- The tree at a place is replaced.
same_at : (place : PayloadPlace) (tree : Option ReducedTree) (trees : PayloadPlace → Option ReducedTree) (other : PayloadPlace) (b : Bool) →
    is_same_payload place other ≡ b → ((place ≡ other) → ⊥) → with_tree_at place tree trees other ≡ trees other
same_at place tree trees other true is differs = absurd (differs (same_place place other is))
same_at place tree trees other false is differs = rw is refl

here_at : (place : PayloadPlace) (tree : Option ReducedTree) (trees : PayloadPlace → Option ReducedTree) (other : PayloadPlace) →
    place ≡ other → with_tree_at place tree trees other ≡ tree
here_at place tree trees other same = rw (place_found place other same) refl

one_place : (made : MadeInsides) (place other : PayloadPlace) (number : ℕ) → payload_index_in made.index place ≡ Some number →
    payload_index_in made.index other ≡ Some number → place ≡ other
one_place made place other number is also =
    sym (index_at_place made.index place number is) ∙ index_at_place made.index other number also

pub left_out_held : (words : List Ignored) (insides : Insides) (trees : PayloadPlace → Option ReducedTree) (place : PayloadPlace)
    (made new : MadeInsides) (number : ℕ) (old tree : Option InsideTree) → trees place ≡ whole_devicetrees insides place →
    payload_index_in made.index place ≡ Some number → IsReplaced made new number old tree →
    ((found : Option Devicetree) → HoldsAt place (option_map whole_devicetree found) old →
    HoldsAt place (option_map (tree_without words place) found) tree) →
    HoldInsides trees made → HoldInsides (with_tree_at place (tree_at_without words insides place) trees) new
left_out_held words insides trees place made new number old tree whole is replaced less held =
    replaced_held trees _ made new number old tree replaced here elsewhere held
  where
    here : (other : PayloadPlace) → payload_index_in made.index other ≡ Some number → HoldsAt other (trees other) old →
        HoldsAt other (with_tree_at place (tree_at_without words insides place) trees other) tree
    here other at holds =
        let same : place ≡ other = one_place made place other number is at in
        subst (λ found. HoldsAt other found tree) (sym (here_at place (tree_at_without words insides place) trees other same))
        (subst (λ other. HoldsAt other (tree_at_without words insides place) tree) same
        (less (insides place) (subst (λ found. HoldsAt place found old) whole
        (subst (λ other. HoldsAt other (trees other) old) (sym same) holds))))

    elsewhere : (other : PayloadPlace) → ((payload_index_in made.index other ≡ Some number) → ⊥) →
        with_tree_at place (tree_at_without words insides place) trees other ≡ trees other
    elsewhere other differs =
        same_at place (tree_at_without words insides place) trees other (is_same_payload place other) refl
        (λ same. differs (subst (λ other. payload_index_in made.index other ≡ Some number) same is))

-- If there is none, nothing changes.
pub none_held : (words : List Ignored) (insides : Insides) (trees : PayloadPlace → Option ReducedTree) (place : PayloadPlace)
    (made : MadeInsides) → trees place ≡ whole_devicetrees insides place → made_tree_at made place ≡ None → HoldInsides trees made →
    HoldInsides (with_tree_at place (tree_at_without words insides place) trees) made
none_held words insides trees place made whole none held other = by (is_same_payload place other) refl
  where
    nothing : insides place ≡ None
    nothing = whole_none place (insides place) (made_tree_at made place) none
        (subst (λ found. HoldsAt place found (made_tree_at made place)) whole (held place))

    here : place ≡ other → HoldsAt other (tree_at_without words insides place) (made_tree_at made other)
    here same = subst (λ other. HoldsAt other (tree_at_without words insides place) (made_tree_at made other)) same
        (rw (nothing, none) tt)

    by : (b : Bool) → is_same_payload place other ≡ b →
        HoldsAt other (with_tree_at place (tree_at_without words insides place) trees other) (made_tree_at made other)
    by true is = rw is (here (same_place place other is))
    by false is = rw is (held other)

-- ---- several places

-- What holds of each of these places.
pub each_place : (P : PayloadPlace → Type 0) (places : List (Bor MadePlace)) →
    AllByRecursion (λ (place : Bor MadePlace). P (place_of_payload place.now)) places → (place : PayloadPlace) →
    is_one_of_places places place ≡ true → P place
each_place P [] each place is = absurd (true≢false (sym is))
each_place P (first ∷ later) each place is = by (is_same_payload place (place_of_payload first.now)) refl
    (λ is. each_place P later each.1 place is)
  where
    by : (b : Bool) → is_same_payload place (place_of_payload first.now) ≡ b → (is_one_of_places later place ≡ true → P place) → P place
    by true same rest = subst P (sym (same_place place (place_of_payload first.now) same)) each.0
    by false same rest = rest (rw same at is)

-- One more of them.
pub each_more : (P : Bor MadePlace → Type 0) (places : List (Bor MadePlace)) (index : ℕ) (place : Bor MadePlace) →
    place ≡ get_or places index place → index < length places → AllByRecursion P (take index places) → P place →
    AllByRecursion P (take (index + 1) places)
each_more P places index place is within each here =
    subst (AllByRecursion P) (sym (take_more places index place within))
    (each-append P (take index places) (get_or places index place ∷ []) each (subst P is here, tt))

-- Each of them is one.
same_again : (place : PayloadPlace) → is_same_payload place place ≡ true
same_again place = place_found place place refl

pub is_one : (places : List (Bor MadePlace)) (index : ℕ) (place : Bor MadePlace) → place ≡ get_or places index place →
    index < length places → is_one_of_places places (place_of_payload place.now) ≡ true
is_one [] index place is within = absurd (omega (arith, within))
is_one (first ∷ later) zero place is within =
    ap (λ b. b || is_one_of_places later (place_of_payload place.now))
    (ap (λ (other : Bor MadePlace). is_same_payload (place_of_payload place.now) (place_of_payload other.now)) (sym is)
    ∙ same_again (place_of_payload place.now))
is_one (first ∷ later) (suc index) place is within =
    by (is_same_payload (place_of_payload place.now) (place_of_payload first.now)) (is_one later index place is (omega (arith, within)))
  where
    by : (b : Bool) → is_one_of_places later (place_of_payload place.now) ≡ true →
        (b || is_one_of_places later (place_of_payload place.now)) ≡ true
    by true rest = refl
    by false rest = rest

-- What words leave out of one tree.
pub left_out_of_one : (words inner : List Ignored) (place : PayloadPlace) (found : Option Devicetree) (old tree : InsideTree) →
    inner ≡ words_inside place words →
    ((payload : List ℕ) (own : Devicetree) → HoldsInside payload (whole_devicetree own) old → HoldsInside payload (record {
      cpu = own.cpu;
      reservations = own.reservations;
      root = kept_root inner (with_each_node plain_compared own.root);
    }) tree) → HoldsAt place (option_map whole_devicetree found) (Some old) →
    HoldsAt place (option_map (tree_without words place) found) (Some tree)
left_out_of_one words inner place None old tree are less held = absurd held
left_out_of_one words inner place (Some own) old tree are less held =
    subst (λ inner. HoldsInside (payload_path place) (record {
      cpu = own.cpu;
      reservations = own.reservations;
      root = kept_root inner (with_each_node plain_compared own.root);
    }) tree) are (less (payload_path place) own held)

-- What holds after a call that succeeds has what follows from it.
pub on_ok : {T E P Q : Type 0} (result : Result T E) → (P → Q) → OnOk result P → OnOk result Q
on_ok (Ok value) follows is = follows is
on_ok (Err error) follows is = tt
