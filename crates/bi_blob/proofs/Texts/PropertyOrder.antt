use Rattle.std.proofs.Common.{◌≡◌, ◌≢◌, ℕ, Bool, true, false, T, List, [], ◌∷◌, map, Some, None, Ordering, Less, Equal, Greater, is_lt}
use Rattle.std.proofs.Common.{refl, sym, subst, ◌∙◌, nat_cmp, rules}
use Rattle.std.specs.Prelude.{◌&&◌}
use Rattle.std.specs.List.{AllByRecursion}
use Rattle.std.specs.Cmp.Lexicographic.{slice_cmp}
use Rattle.std.specs.FinMap.{get, entries, from_entries, find, is_sorted, entries_sorted, get-entries, get-from_entries}
use Rattle.std.specs.FinMap.{slice_cmp-IsAntisymmetric, nat_cmp-IsAntisymmetric, IsAntisymmetric}
use Rattle.std.specs.FinMap.Entries.{below_all}
use Rattle.std.proofs.lemmas.Cmp.{nat_list_cmp_total, tied_itself}
use Rattle.bi_blob.specs.Tree.{Property, PropertyMap, IsNew, AreDistinct, IsPropertyName, AreProperties}

-- Properties in the order of their names have distinct names, and what holds of each that is found by its name holds of each.

-- Names that are in no order are the same.
pub order_tells : IsAntisymmetric (slice_cmp nat_cmp)
order_tells = slice_cmp-IsAntisymmetric nat_cmp-IsAntisymmetric

-- Both of two tests pass where they do together.
pub both_pass : (a b : Bool) → T (a && b) → T a × T b
both_pass true b passes = (tt, passes)
both_pass false b passes = absurd passes

-- A name that is below another is another.
pub below_other : (name other : List ℕ) → T (is_lt (slice_cmp nat_cmp name other)) → other ≢ name
below_other name other below same = search (rules, is_lt, tied_itself, nat_list_cmp_total)

-- A name that is below all names of properties is new among them.
below_new : (name : List ℕ) (properties : List Property) → T (below_all (slice_cmp nat_cmp) name properties) →
    IsNew name (map (λ property. property.0) properties)
below_new name [] below = tt
below_new name (property ∷ later) below =
    let both = both_pass (is_lt (slice_cmp nat_cmp name property.0)) (below_all (slice_cmp nat_cmp) name later) below in
    (below_other name property.0 both.0, below_new name later both.1)

-- Properties in order have distinct names.
pub ordered_distinct : (properties : List Property) → T (is_sorted (slice_cmp nat_cmp) properties) →
    AreDistinct (map (λ property. property.0) properties)
ordered_distinct [] sorted = tt
ordered_distinct (property ∷ later) sorted =
    let both = both_pass (below_all (slice_cmp nat_cmp) property.0 later) (is_sorted (slice_cmp nat_cmp) later) sorted in
    (below_new property.0 later both.0, ordered_distinct later both.1)

-- No property is found under a name that is below all of theirs.
pub below_none : (name : List ℕ) (properties : List Property) → T (below_all (slice_cmp nat_cmp) name properties) →
    find (slice_cmp nat_cmp) name properties ≡ None
below_none name [] below = refl
below_none name (property ∷ later) below =
    let both = both_pass (is_lt (slice_cmp nat_cmp name property.0)) (below_all (slice_cmp nat_cmp) name later) below in
    where_first (slice_cmp nat_cmp name property.0) refl both.0 (below_none name later both.1)
  where
    where_first : (o : Ordering) → slice_cmp nat_cmp name property.0 ≡ o → T (is_lt o) → find (slice_cmp nat_cmp) name later ≡ None →
        find (slice_cmp nat_cmp) name (property ∷ later) ≡ None
    where_first Less is lower rest = rw is rest
    where_first Equal is lower rest = absurd lower
    where_first Greater is lower rest = absurd lower

-- What holds of each property that is found by its name holds of each, where they are in order.
pub each-found : (P : Property → Type 0) (properties : List Property) → T (is_sorted (slice_cmp nat_cmp) properties) →
    ((name value : List ℕ) → find (slice_cmp nat_cmp) name properties ≡ Some value → P (name, value)) → AllByRecursion P properties
each-found P [] sorted found = tt
each-found P (property ∷ later) sorted found =
    let both = both_pass (below_all (slice_cmp nat_cmp) property.0 later) (is_sorted (slice_cmp nat_cmp) later) sorted in (
      found property.0 property.1 (rw (tied_itself nat_list_cmp_total property.0) refl),
      each-found P later both.1 (λ name value there. where_first name value both.0 there (slice_cmp nat_cmp name property.0) refl),
    )
  where
    where_first : (name value : List ℕ) → T (below_all (slice_cmp nat_cmp) property.0 later) →
        find (slice_cmp nat_cmp) name later ≡ Some value → (o : Ordering) → slice_cmp nat_cmp name property.0 ≡ o → P (name, value)
    where_first name value below there Less is = found name value (rw is there)
    where_first name value below there Equal is =
        let none = below_none property.0 later below in
        let other : find (slice_cmp nat_cmp) property.0 later
        ≡ Some value = subst (λ name. find (slice_cmp nat_cmp) name later ≡ Some value) (order_tells name property.0 is) there in
        absurd cc
    where_first name value below there Greater is = found name value (rw is there)

-- What holds of each property holds of each that is found by its name.
pub found-each : (P : Property → Type 0) (properties : List Property) → AllByRecursion P properties → (name value : List ℕ) →
    find (slice_cmp nat_cmp) name properties ≡ Some value → P (name, value)
found-each P [] each name value there = absurd cc
found-each P (property ∷ later) each name value there =
    where_first (slice_cmp nat_cmp name property.0) refl there (found-each P later each.1 name value)
  where
    where_first : (o : Ordering) → slice_cmp nat_cmp name property.0 ≡ o → find (slice_cmp nat_cmp) name (property ∷ later) ≡ Some value →
        (find (slice_cmp nat_cmp) name later ≡ Some value → P (name, value)) → P (name, value)
    where_first Less is there rest = rest (rw is at there)
    where_first Equal is there rest =
        let same_name : property.0 ≡ name = sym (order_tells name property.0 is) in
        let same : Some property.1 ≡ Some value = rw is at there in
        let same_value : property.1 ≡ value = cc in
        subst P (λ i. (same_name i, same_value i)) each.0
    where_first Greater is there rest = rest (rw is at there)

-- What holds of each pair of properties by name holds of each of them in order.
pub each-entries : (P : Property → Type 0) (properties : PropertyMap) →
    ((name value : List ℕ) → get properties name ≡ Some value → P (name, value)) → AllByRecursion P (entries properties)
each-entries P properties found =
    each-found P (entries properties) (entries_sorted properties)
    (λ name value there. found name value (get-entries properties name ∙ there))

-- What holds of each property holds of each of them taken by name and put in order.
pub each-in_byte_order : (P : Property → Type 0) (properties : List Property) → AllByRecursion P properties →
    AllByRecursion P (entries (from_entries {R = slice_cmp nat_cmp} properties))
each-in_byte_order P properties each =
    each-entries P (from_entries {R = slice_cmp nat_cmp} properties)
    (λ name value there. found-each P properties each name value (sym (get-from_entries nat_list_cmp_total properties name) ∙ there))

-- Properties taken by name and put in order are properties.
pub AreProperties-in_byte_order : (properties : List Property) → AreProperties properties →
    AreProperties (entries (from_entries {R = slice_cmp nat_cmp} properties))
AreProperties-in_byte_order properties are = record {
  named = each-in_byte_order (λ property. IsPropertyName property.0) properties are.named;
  distinct = ordered_distinct (entries (from_entries {R = slice_cmp nat_cmp} properties))
      (entries_sorted (from_entries {R = slice_cmp nat_cmp} properties));
}
