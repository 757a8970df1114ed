use Rattle.std.proofs.Common.{◌≡◌, ℕ, true, false, cond, List, [], ◌∷◌, ◌++◌, Contains, refl}
use Rattle.std.proofs.Common.{sym, append-nil, true≢false, rules}
use Rattle.std.proofs.lemmas.Slice.Eq.{bytes_eq-Decides}
use Rattle.std.proofs.lemmas.List.Concat.{flat_map-append}
use Rattle.std.proofs.lemmas.List.Elements.{filter-append}
use Rattle.bi_base.proofs.ListMembers.{Contains-none, Contains-cases, Contains-first, Contains-others}
use Rattle.bi_blob.specs.Tree.{Property}
use Rattle.bi_blob.specs.Events.{Event, NodeProperty}
use Rattle.bi_blob.specs.Layout.{is_among, event_names, used_names, distinct_names}
use Rattle.bi_blob.specs.TextLaws.{StringsGrowByUse}

-- The strings block has names in the order of their first use.

-- A name that is among names is found there.
pub found_among : (names : List (List ℕ)) (name : List ℕ) → Contains names name → is_among name names ≡ true
found_among [] name has = absurd (Contains-none name has)
found_among (first ∷ others) name has = search (rules, Contains-cases, bytes_eq-Decides, found_among others name)

-- A name that is found among names is among them.
pub among_found : (names : List (List ℕ)) (name : List ℕ) → is_among name names ≡ true → Contains names name
among_found [] name found = absurd (true≢false (sym found))
among_found (first ∷ others) name found = search (rules, bytes_eq-Decides, Contains-first, Contains-others, among_found others name)

-- One more name is one more of the first ones, if it was not there.
pub distinct_names-push : (names : List (List ℕ)) (name : List ℕ) →
    distinct_names (names ++ name ∷ []) ≡ cond (is_among name names) (distinct_names names) (distinct_names names ++ name ∷ [])
distinct_names-push [] name = refl
distinct_names-push (first ∷ others) name = search (rules, filter-append, append-nil, distinct_names-push others name)

-- The first ones stay where the name was there.
pub distinct_names-known : (names : List (List ℕ)) (name : List ℕ) → Contains names name →
    distinct_names (names ++ name ∷ []) ≡ distinct_names names
distinct_names-known names name has = search (rules, distinct_names-push, found_among)

-- It is added at their end where it was not there.
pub distinct_names-new : (names : List (List ℕ)) (name : List ℕ) → (Contains names name → ⊥) →
    distinct_names (names ++ name ∷ []) ≡ distinct_names names ++ name ∷ []
distinct_names-new names name lacks = search (rules, distinct_names-push, among_found)

-- The names that events use, with one more property.
pub used_names-push : (events : List Event) (property : Property) →
    used_names (events ++ NodeProperty property ∷ []) ≡ used_names events ++ property.0 ∷ []
used_names-push events property = flat_map-append event_names events (NodeProperty property ∷ [])

-- The strings block grows in the order of use.
pub strings_grow_by_use : StringsGrowByUse
strings_grow_by_use events = search (rules, flat_map-append, append-nil, used_names-push, distinct_names-known, distinct_names-new)
