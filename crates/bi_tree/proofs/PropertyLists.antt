use Rattle.std.proofs.Common.{◌≡◌, ℕ, ◌<◌, Bool, true, false, List, [], ◌∷◌, ◌++◌, map, length, set, refl, sym, ap, subst, ◌∙◌, arith}
use Rattle.std.proofs.Common.{bytes_eq, option_map, slice_get, ◌≤◌, Option, Some, None, Bor, MatchOption}
use Rattle.std.proofs.lemmas.Option.{slice_get_past, slice_get_read}
use Rattle.bi_base.proofs.EqualBytes.{same_bytes, other_bytes}
use Rattle.std.specs.Cow.{cow_slice_items}
use Rattle.std.specs.List.{HoldsAt, remove}
use Rattle.bi_tree.specs.Properties.{tree_property, tree_properties, with_property_in, without_property_in}
use Rattle.bi_tree.specs.TreeNodes.{index_named}
use Rattle.bi_tree.specs.Trees.{first_value}
use Rattle.bi_tree.specs.declared.properties.TreeProperty.{TreeProperty}
use Rattle.bi_tree.proofs.PropertyMaps.{no_value_found, first_value_found, other_value_found}

-- What setting and removing a property makes of a list of them.

-- The names of properties.
abbrev pub tree_property_names : List TreeProperty → List (List ℕ)
tree_property_names properties = map (λ property. property.name.now) properties

-- Where a name is among properties.
abbrev pub property_index : TreeProperty → List TreeProperty → ℕ
property_index new items = index_named new.name.now (tree_property_names items)

-- The first property with the name is set.
abbrev IsSet : TreeProperty → List TreeProperty → Type 0
IsSet new items = property_index new items < length items →
    tree_properties (set items (property_index new items) new) ≡ with_property_in (tree_property new) (tree_properties items)

set_first : (first : TreeProperty) (later : List TreeProperty) (new : TreeProperty) → IsSet new later → (b : Bool) →
    bytes_eq first.name.now new.name.now ≡ b → IsSet new (first ∷ later)
set_first first later new rest true same within = rw same refl
set_first first later new rest false other within =
    let less = rw other at within in rw other (ap (λ l. tree_property first ∷ l) (rest (omega (arith, less))))

set_known : (items : List TreeProperty) (new : TreeProperty) → IsSet new items
set_known [] new within = absurd (omega (arith, within))
set_known (first ∷ later) new within =
    set_first first later new (set_known later new) (bytes_eq first.name.now new.name.now) refl within

-- A property with a new name is added.
abbrev IsAdded : TreeProperty → List TreeProperty → Type 0
IsAdded new items = property_index new items ≡ length items →
    tree_properties (items ++ new ∷ []) ≡ with_property_in (tree_property new) (tree_properties items)

add_later : (first : TreeProperty) (later : List TreeProperty) (new : TreeProperty) → IsAdded new later → (b : Bool) →
    bytes_eq first.name.now new.name.now ≡ b → IsAdded new (first ∷ later)
add_later first later new rest true same none = let no = rw same at none in absurd (omega (arith, no))
add_later first later new rest false other none =
    let more = rw other at none in rw other (ap (λ l. tree_property first ∷ l) (rest (omega (arith, more))))

set_new : (items : List TreeProperty) (new : TreeProperty) → IsAdded new items
set_new [] new none = refl
set_new (first ∷ later) new none =
    add_later first later new (set_new later new) (bytes_eq first.name.now new.name.now) refl none

-- The first property with a name is removed.
abbrev IsRemoved : List ℕ → List TreeProperty → Type 0
IsRemoved name items = index_named name (tree_property_names items) < length items →
    tree_properties (remove items (index_named name (tree_property_names items))) ≡ without_property_in name (tree_properties items)

remove_first : (first : TreeProperty) (later : List TreeProperty) (name : List ℕ) → IsRemoved name later → (b : Bool) →
    bytes_eq first.name.now name ≡ b → IsRemoved name (first ∷ later)
remove_first first later name rest true same within = rw same refl
remove_first first later name rest false other within =
    let less = rw other at within in rw other (ap (λ l. tree_property first ∷ l) (rest (omega (arith, less))))

removed : (items : List TreeProperty) (name : List ℕ) → IsRemoved name items
removed [] name within = absurd (omega (arith, within))
removed (first ∷ later) name within =
    remove_first first later name (removed later name) (bytes_eq first.name.now name) refl within

-- Without a property of the name all stay.
abbrev IsKept : List ℕ → List TreeProperty → Type 0
IsKept name items = index_named name (tree_property_names items) ≡ length items →
    tree_properties items ≡ without_property_in name (tree_properties items)

keep_first : (first : TreeProperty) (later : List TreeProperty) (name : List ℕ) → IsKept name later → (b : Bool) →
    bytes_eq first.name.now name ≡ b → IsKept name (first ∷ later)
keep_first first later name rest true same none = let no = rw same at none in absurd (omega (arith, no))
keep_first first later name rest false other none =
    let more = rw other at none in rw other (ap (λ l. tree_property first ∷ l) (rest (omega (arith, more))))

kept : (items : List TreeProperty) (name : List ℕ) → IsKept name items
kept [] name none = refl
kept (first ∷ later) name none = keep_first first later name (kept later name) (bytes_eq first.name.now name) refl none

-- The value of the first property with a name is that of the one at its index, if there is one.
abbrev IsRead : List ℕ → List TreeProperty → Type 0
IsRead name items =
    first_value (tree_properties items) name
    ≡ option_map (λ property. cow_slice_items property.value) (slice_get items (index_named name (tree_property_names items)))

read_first : (first : TreeProperty) (later : List TreeProperty) (name : List ℕ) → IsRead name later → (b : Bool) →
    bytes_eq first.name.now name ≡ b → IsRead name (first ∷ later)
read_first first later name rest true same =
    rw same (first_value_found name (tree_property first) (tree_properties later) (same_bytes first.name.now name same))
read_first first later name rest false other =
    rw other (other_value_found name (tree_property first) (tree_properties later) (other_bytes first.name.now name other) ∙ rest)

read : (items : List TreeProperty) (name : List ℕ) → IsRead name items
read [] name = no_value_found name
read (first ∷ later) name = read_first first later name (read later name) (bytes_eq first.name.now name) refl

-- What a slice of properties gives at the index of a name.
pub property_value_at : (items : List TreeProperty) (name : List ℕ) (index : ℕ) (result : Option (Bor TreeProperty)) →
    index ≡ index_named name (tree_property_names items) →
    MatchOption result (length items ≤ index) (λ x. (index < length items) × HoldsAt (λ y. x.now ≡ y) items index) →
    option_map (λ property. cow_slice_items property.now.value) result ≡ first_value (tree_properties items) name
property_value_at items name index None is past =
    ap (option_map (λ property. cow_slice_items property.value))
    (sym (slice_get_past items index past) ∙ ap (λ n. slice_get items n) is) ∙ sym (read items name)
property_value_at items name index (Some found) is there =
    ap (option_map (λ property. cow_slice_items property.value))
    (sym (slice_get_read items (length items) index found.now refl there.0 (there.1 found.now)) ∙ ap (λ n. slice_get items n) is)
    ∙ sym (read items name)

-- The same, by the index that a search of a slice of the properties gave.
module _ (items slice : List TreeProperty) (same : slice ≡ items) (index : ℕ) where
  at_place : (name : List ℕ) → index ≡ index_named name (tree_property_names slice) → index ≡ index_named name (tree_property_names items)
  at_place name is = is ∙ ap (λ l. index_named name (tree_property_names l)) same

  pub set_at : (new : TreeProperty) → index ≡ property_index new slice → index < length items →
      tree_properties (set items index new) ≡ with_property_in (tree_property new) (tree_properties items)
  set_at new is within =
      let at : index ≡ property_index new items = at_place new.name.now is in
      ap (λ n. tree_properties (set items n new)) at ∙ set_known items new (subst (λ n. n < length items) at within)

  pub property_added_after : (new : TreeProperty) → index ≡ property_index new slice → index ≡ length items →
      tree_properties (items ++ new ∷ []) ≡ with_property_in (tree_property new) (tree_properties items)
  property_added_after new is none = set_new items new (sym (at_place new.name.now is) ∙ none)

  pub property_removed_at : (name : List ℕ) → index ≡ index_named name (tree_property_names slice) → index < length items →
      tree_properties (remove items index) ≡ without_property_in name (tree_properties items)
  property_removed_at name is within =
      let at : index ≡ index_named name (tree_property_names items) = at_place name is in
      ap (λ n. tree_properties (remove items n)) at ∙ removed items name (subst (λ n. n < length items) at within)

  pub property_kept_without : (name : List ℕ) → index ≡ index_named name (tree_property_names slice) → index ≡ length items →
      tree_properties items ≡ without_property_in name (tree_properties items)
  property_kept_without name is none = kept items name (sym (at_place name is) ∙ none)
