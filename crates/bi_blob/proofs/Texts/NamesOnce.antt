use Rattle.std.proofs.Common.{◌≡◌, ◌⊎◌, ℕ, ◌+◌, Bool, true, false, not, List, [], ◌∷◌, ◌++◌, length, drop, Contains, filter, bytes_eq}
use Rattle.std.proofs.Common.{inl, inr, refl, ap, ◌∙◌, sym, append_assoc, drop-drop, rules}
use Rattle.std.proofs.lemmas.List.{drop_at, length_push}
use Rattle.bi_base.proofs.EqualBytes.{same_bytes, other_bytes}
use Rattle.bi_base.proofs.ListMembers.{Contains-none, Contains-cases, Contains-first, Contains-others, Contains-filter}
use Rattle.bi_base.proofs.ListMembers.{Contains-from_filter, each-filter}
use Rattle.bi_blob.specs.Tree.{IsNew, AreDistinct}
use Rattle.bi_blob.specs.Layout.{used_names, distinct_names, strings_of, offset_in}
use Rattle.bi_blob.specs.TextLaws.{EachNameIsThereOnce, EachNameIsFound}

-- The strings block has each name that is used once, and a name is at its offset, with a zero byte after it.

-- The name, and a zero byte after it, are at its offset among names.
pub found_at_offset : (names : List (List ℕ)) (name : List ℕ) → Contains names name →
    (trailing : List ℕ) × (drop (offset_in names name) (strings_of names) ≡ name ++ 0 ∷ trailing)
found_at_offset [] name has = absurd (Contains-none name has)
found_at_offset (first ∷ others) name has =
    where_first (bytes_eq first name) refl (Contains-cases first others name has) (λ has. found_at_offset others name has)
  where
    where_first : (b : Bool) → bytes_eq first name ≡ b → (first ≡ name) ⊎ Contains others name →
        (Contains others name → (trailing : List ℕ) × (drop (offset_in others name) (strings_of others) ≡ name ++ 0 ∷ trailing)) →
        (trailing : List ℕ) × (drop (offset_in (first ∷ others) name) (strings_of (first ∷ others)) ≡ name ++ 0 ∷ trailing)
    where_first true is has is_at =
        rw is (
          strings_of others,
          append_assoc first (0 ∷ []) (strings_of others)
              ∙ ap (λ l. l ++ 0 ∷ strings_of others) (same_bytes first name is),
        )
    where_first false is (inl same) is_at = absurd (other_bytes first name is same)
    where_first false is (inr has) is_at =
        let there = is_at has in
        rw is (
          there.0,
          sym (drop-drop (offset_in others name) (length first + 1) (strings_of (first ∷ others)))
              ∙ ap (drop (offset_in others name)) (drop_at (first ++ 0 ∷ []) (strings_of others) (length first + 1) (length_push first 0))
              ∙ there.1,
        )

-- Each of some names is among the first ones.
pub distinct_names-all : (names : List (List ℕ)) (name : List ℕ) → Contains names name → Contains (distinct_names names) name
distinct_names-all [] name has = has
distinct_names-all (first ∷ others) name has =
    where_first (bytes_eq first name) refl (Contains-cases first others name has) (λ has. distinct_names-all others name has)
  where
    where_first : (b : Bool) → bytes_eq first name ≡ b → (first ≡ name) ⊎ Contains others name →
        (Contains others name → Contains (distinct_names others) name) → Contains (distinct_names (first ∷ others)) name
    where_first true is has among = rw (← same_bytes first name is) (Contains-first first _)
    where_first false is (inl same) among = absurd (other_bytes first name is same)
    where_first false is (inr has) among =
        Contains-others first _ name (Contains-filter (λ other. not (bytes_eq first other))
        (distinct_names others) name (ap not is) (among has))

-- The first ones are among the names.
pub distinct_names-only : (names : List (List ℕ)) (name : List ℕ) → Contains (distinct_names names) name → Contains names name
distinct_names-only [] name has = has
distinct_names-only (first ∷ others) name has =
    where_first (Contains-cases first _ name has) (λ has. distinct_names-only others name has)
  where
    where_first : (first ≡ name) ⊎ Contains (filter (λ other. not (bytes_eq first other)) (distinct_names others)) name →
        (Contains (distinct_names others) name → Contains others name) → Contains (first ∷ others) name
    where_first (inl same) among = rw (← same) (Contains-first first others)
    where_first (inr has) among =
        Contains-others first others name
        (among (Contains-from_filter (λ other. not (bytes_eq first other)) (distinct_names others) name has))

-- Distinct names stay so where some are left out.
distinct-filter : (test : List ℕ → Bool) (names : List (List ℕ)) → AreDistinct names → AreDistinct (filter test names)
distinct-filter test [] distinct = distinct
distinct-filter test (first ∷ others) distinct = search (rules, each-filter, distinct-filter test others distinct.1)

-- A name is new among those that the test finds different from it.
new-filter : (name : List ℕ) (others : List (List ℕ)) → IsNew name (filter (λ other. not (bytes_eq name other)) others)
new-filter name [] = tt
new-filter name (other ∷ later) = search (rules, other_bytes, new-filter name later)

-- The first ones are distinct.
pub distinct_names-distinct : (names : List (List ℕ)) → AreDistinct (distinct_names names)
distinct_names-distinct [] = tt
distinct_names-distinct (first ∷ others) = search (rules, new-filter, distinct-filter, distinct_names-distinct others)

-- Marks have the names that they use in their strings block, each once.
pub has_names_once : EachNameIsThereOnce
has_names_once events = search (rules, distinct_names-only, distinct_names-all, distinct_names-distinct)

-- A name that events use is at its offset.
pub name_is_found : EachNameIsFound
name_is_found events name has no_zero =
    let there = found_at_offset (distinct_names (used_names events)) name (distinct_names-all (used_names events) name has) in
    record { no_zero = no_zero; trailing = there.0; is_at = there.1 }
