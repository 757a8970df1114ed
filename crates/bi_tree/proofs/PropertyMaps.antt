use Rattle.std.proofs.Common.{◌≡◌, ◌≢◌, ℕ, Bool, true, false, cond, List, [], ◌∷◌, Option, Some, None, bytes_eq, refl, sym, ap, subst, ◌∙◌}
use Rattle.std.specs.FinMap.{find, insert, remove, same_map, get-from_entries, get-insert, get-remove}
use Rattle.std.specs.Ordering.{eq_by_cmp, nat_cmp}
use Rattle.std.specs.Cmp.Lexicographic.{slice_cmp}
use Rattle.std.proofs.lemmas.Cmp.{nat_list_cmp_total}
use Rattle.std.proofs.lemmas.Map.Text.{is_eq-slice_cmp}
use Rattle.std.proofs.lemmas.Slice.Eq.{bytes_eq-Decides}
use Rattle.bi_base.proofs.EqualBytes.{same_bytes, other_bytes}
use Rattle.bi_blob.specs.Tree.{AreDistinct, IsNew}
use Rattle.bi_blob.proofs.Texts.PropertyOrder.{order_tells}
use Rattle.bi_tree.specs.Properties.{TreePropertyModel, own_property_names, with_property_in, without_numbers, without_property_in}
use Rattle.bi_tree.specs.Trees.{by_name, first_value}

-- What setting and removing a property makes of the properties without their order.

-- The value of a property.
abbrev found : List ℕ → List TreePropertyModel → Option (List ℕ)
found name properties = find (slice_cmp nat_cmp) name (without_numbers properties)

-- Whether two names are the same.
abbrev is_same : List ℕ → List ℕ → Bool
is_same name other = eq_by_cmp (slice_cmp nat_cmp) name other

names_same : (name other : List ℕ) → is_same name other ≡ true → name ≡ other
names_same name other same = same_bytes name other (sym (is_eq-slice_cmp name other) ∙ same)

-- A test that is made twice.
twice : {A : Type 0} (b : Bool) (x y z : A) → cond b x z ≡ cond b x (cond b y z)
twice true x y z = refl
twice false x y z = refl

-- Two tests of which one at most holds.
either_first : {A : Type 0} (a b : Bool) (x y z : A) → (a ≡ true → b ≡ true → ⊥) → cond a x (cond b y z) ≡ cond b y (cond a x z)
either_first true true x y z apart = absurd (apart refl refl)
either_first true false x y z apart = refl
either_first false b x y z apart = refl

-- A name is not two others that differ.
apart : (name first second : List ℕ) → bytes_eq first second ≡ false → is_same name first ≡ true → is_same name second ≡ true → ⊥
apart name first second differs one other =
    other_bytes first second differs (sym (names_same name first one) ∙ names_same name second other)

-- Two names that differ are not the same.
new_first : (name other : List ℕ) → other ≢ name → (b : Bool) → is_same name other ≡ b → is_same name other ≡ false
new_first name other differs true same = absurd (differs (sym (names_same name other same)))
new_first name other differs false same = same

-- A value is found in the first property with its name.
pub no_value_found : (name : List ℕ) → first_value [] name ≡ None
no_value_found name = get-from_entries nat_list_cmp_total [] name

pub first_value_found : (name : List ℕ) (first : TreePropertyModel) (later : List TreePropertyModel) → first.name ≡ name →
    first_value (first ∷ later) name ≡ Some first.value
first_value_found name first later is =
    get-from_entries nat_list_cmp_total (without_numbers (first ∷ later)) name
    ∙ subst (λ other. cond (is_same name other) (Some first.value) (found name later) ≡ Some first.value) (sym is)
    (rw (is_eq-slice_cmp name name ∙ (bytes_eq-Decides name name).1 refl) refl)

pub other_value_found : (name : List ℕ) (first : TreePropertyModel) (later : List TreePropertyModel) → first.name ≢ name →
    first_value (first ∷ later) name ≡ first_value later name
other_value_found name first later other =
    get-from_entries nat_list_cmp_total (without_numbers (first ∷ later)) name
    ∙ ap (λ b. cond b (Some first.value) (found name later)) (new_first name first.name other (is_same name first.name) refl)
    ∙ sym (get-from_entries nat_list_cmp_total (without_numbers later) name)

-- A value that was set is found.
abbrev IsSetIn : TreePropertyModel → (wanted : List ℕ) → List TreePropertyModel → Type 0
IsSetIn new wanted properties =
    found wanted (with_property_in new properties) ≡ cond (is_same wanted new.name) (Some new.value) (found wanted properties)

set_in_first : (new : TreePropertyModel) (wanted : List ℕ) (first : TreePropertyModel) (later : List TreePropertyModel) →
    IsSetIn new wanted later → (b : Bool) → bytes_eq first.name new.name ≡ b → IsSetIn new wanted (first ∷ later)
set_in_first new wanted first later rest true same =
    rw same (subst (λ other. cond (is_same wanted new.name) (Some new.value) (found wanted later)
    ≡ cond (is_same wanted new.name) (Some new.value) (cond (is_same wanted other) (Some first.value) (found wanted later)))
    (sym (same_bytes first.name new.name same))
    (twice (is_same wanted new.name) (Some new.value) (Some first.value) (found wanted later)))
set_in_first new wanted first later rest false differs =
    rw differs (ap (λ o. cond (is_same wanted first.name) (Some first.value) o) rest
    ∙ either_first (is_same wanted first.name) (is_same wanted new.name) (Some first.value) (Some new.value) (found wanted later)
    (apart wanted first.name new.name differs))

set_in : (new : TreePropertyModel) (wanted : List ℕ) (properties : List TreePropertyModel) → IsSetIn new wanted properties
set_in new wanted [] = refl
set_in new wanted (first ∷ later) =
    set_in_first new wanted first later (set_in new wanted later) (bytes_eq first.name new.name) refl

pub set_without_order : (new : TreePropertyModel) (properties : List TreePropertyModel) →
    by_name (with_property_in new properties) ≡ insert (by_name properties) new.name new.value
set_without_order new properties =
    same_map nat_list_cmp_total order_tells _ _ (λ wanted.
    get-from_entries nat_list_cmp_total (without_numbers (with_property_in new properties)) wanted
    ∙ set_in new wanted properties
    ∙ sym (get-insert nat_list_cmp_total (by_name properties) new.name new.value wanted
    ∙ ap (λ o. cond (is_same wanted new.name) (Some new.value) o)
    (get-from_entries nat_list_cmp_total (without_numbers properties) wanted)))

-- A name that is new is not found.
new_not_found : (name : List ℕ) (properties : List TreePropertyModel) → IsNew name (own_property_names properties) →
    found name properties ≡ None
new_not_found name [] new = refl
new_not_found name (first ∷ later) new =
    rw (new_first name first.name new.0 (is_same name first.name) refl) (new_not_found name later new.1)

-- A value that was removed is not found.
abbrev IsRemovedIn : (name : List ℕ) → (wanted : List ℕ) → List TreePropertyModel → Type 0
IsRemovedIn name wanted properties =
    found wanted (without_property_in name properties) ≡ cond (is_same wanted name) None (found wanted properties)

cond_same : (b : Bool) (value : Option (List ℕ)) → value ≡ cond b value value
cond_same true value = refl
cond_same false value = refl

removed_once : (name wanted : List ℕ) (value : List ℕ) (later : List TreePropertyModel) → IsNew name (own_property_names later) →
    (b : Bool) → is_same wanted name ≡ b →
    found wanted later ≡ cond b None (cond b (Some value) (found wanted later))
removed_once name wanted value later new true same =
    subst (λ other. found other later ≡ None) (sym (names_same wanted name same)) (new_not_found name later new)
removed_once name wanted value later new false differs = refl

removed_in_first : (name wanted : List ℕ) (first : TreePropertyModel) (later : List TreePropertyModel) →
    IsNew first.name (own_property_names later) → IsRemovedIn name wanted later → (b : Bool) →
    bytes_eq first.name name ≡ b → IsRemovedIn name wanted (first ∷ later)
removed_in_first name wanted first later new rest true same =
    rw same (subst (λ other. found wanted later
    ≡ cond (is_same wanted other) None (cond (is_same wanted first.name) (Some first.value) (found wanted later)))
    (same_bytes first.name name same)
    (removed_once first.name wanted first.value later new (is_same wanted first.name) refl))
removed_in_first name wanted first later new rest false differs =
    rw differs (ap (λ o. cond (is_same wanted first.name) (Some first.value) o) rest
    ∙ either_first (is_same wanted first.name) (is_same wanted name) (Some first.value) None (found wanted later)
    (apart wanted first.name name differs))

removed_in : (name wanted : List ℕ) (properties : List TreePropertyModel) → AreDistinct (own_property_names properties) →
    IsRemovedIn name wanted properties
removed_in name wanted [] distinct = cond_same (is_same wanted name) None
removed_in name wanted (first ∷ later) distinct =
    removed_in_first name wanted first later distinct.0 (removed_in name wanted later distinct.1) (bytes_eq first.name name) refl

pub removed_without_order : (name : List ℕ) (properties : List TreePropertyModel) → AreDistinct (own_property_names properties) →
    by_name (without_property_in name properties) ≡ remove (by_name properties) name
removed_without_order name properties distinct =
    same_map nat_list_cmp_total order_tells _ _ (λ wanted.
    get-from_entries nat_list_cmp_total (without_numbers (without_property_in name properties)) wanted
    ∙ removed_in name wanted properties distinct
    ∙ sym (get-remove nat_list_cmp_total (by_name properties) name wanted
    ∙ ap (λ o. cond (is_same wanted name) None o) (get-from_entries nat_list_cmp_total (without_numbers properties) wanted)))
