use Rattle.std.specs.Prelude.{⊤}
use Rattle.std.proofs.Common.{ℕ, ◌+◌, ◌^◌, ◌<◌, ◌≤◌, List, [], ◌∷◌, length, map, flat_map, Contains}
use Rattle.std.proofs.Common.{refl, sym, ap, subst, arith, length-append, rules}
use Rattle.std.specs.List.{AllByRecursion}
use Rattle.bi_base.proofs.ListMembers.{Contains-first, Contains-others}
use Rattle.bi_blob.specs.Tokens.{Prop, IsToken, IsNameAt}
use Rattle.bi_blob.specs.Events.{Event, NodeStart, NodeProperty, NodeEnd, EncodeEvents}
use Rattle.bi_blob.specs.Layout.{used_names, strings_of, offset_in, encoding, token_of, event_width}
use Rattle.bi_blob.proofs.Texts.NamesOnce.{found_at_offset}
use Rattle.bi_blob.proofs.Texts.EventNames.{NameEndsAtZero}
use Rattle.bi_blob.proofs.Texts.TextTokens.{width-token}
use Rattle.bi_blob.proofs.Texts.Places.{placed_from}
use Rattle.bi_blob.proofs.Blobs.TreeTokens.{length-Prop}

-- The tokens of a text are tokens, and encode its events.

-- The name of a property is in these strings where it is one of these names.
abbrev pub IsNamedIn : List ℕ → List (List ℕ) → Event → Type 0
IsNamedIn strings names (NodeStart name) = ⊤
IsNamedIn strings names (NodeProperty property) = IsNameAt strings (offset_in names property.0) property.0
IsNamedIn strings names NodeEnd = ⊤

-- The names that events use are found among any names that have them.
pub named_in : (names : List (List ℕ)) (events : List Event) → ((name : List ℕ) → Contains (used_names events) name → Contains names name) →
    AllByRecursion NameEndsAtZero events → AllByRecursion (IsNamedIn (strings_of names) names) events
named_in names [] among good = tt
named_in names (NodeStart name ∷ later) among good = (tt, named_in names later among good.1)
named_in names (NodeProperty property ∷ later) among good = (
  record {
    no_zero = good.0;
    trailing = (found_at_offset names property.0 (among property.0 (Contains-first property.0 (used_names later)))).0;
    is_at = (found_at_offset names property.0 (among property.0 (Contains-first property.0 (used_names later)))).1;
  },
  named_in names later (λ name has. among name (Contains-others property.0 (used_names later) name has)) good.1,
)
named_in names (NodeEnd ∷ later) among good = (tt, named_in names later among good.1)

-- The tokens of events whose names are in the strings encode these events, at their places.
pub encodes_events : (strings : List ℕ) (names : List (List ℕ)) (at : ℕ) (events : List Event) →
    AllByRecursion (IsNamedIn strings names) events → EncodeEvents strings at (map (token_of names) events) (placed_from at events)
encodes_events strings names at [] named = tt
encodes_events strings names at (NodeStart name ∷ later) named =
    search (rules, encodes_events strings names (at + event_width (NodeStart name)) later named.1)
encodes_events strings names at (NodeProperty property ∷ later) named = (
  record { name = named.0; value = refl; place = refl },
  subst (λ place. EncodeEvents strings place (map (token_of names) later) (placed_from (at + event_width (NodeProperty property)) later))
      (ap (λ n. at + n) (sym (width-token names (NodeProperty property))))
      (encodes_events strings names (at + event_width (NodeProperty property)) later named.1),
)
encodes_events strings names at (NodeEnd ∷ later) named = encodes_events strings names (at + event_width NodeEnd) later named.1

-- An offset is within the strings.
pub offset_in-le : (names : List (List ℕ)) (name : List ℕ) → offset_in names name ≤ length (strings_of names)
offset_in-le [] name = omega arith
offset_in-le (first ∷ others) name = search (rules, length-append, offset_in-le others name)

-- A value is no longer than its token.
pub value-le : (name_offset : ℕ) (value : List ℕ) → length value ≤ length (encoding (Prop name_offset value))
value-le name_offset value = search (rules, length-append, length-Prop)

-- The tokens of events are tokens, where the blocks are short enough.
pub are_tokens : (names : List (List ℕ)) (events : List Event) → AllByRecursion NameEndsAtZero events → length (strings_of names) < 2 ^ 32 →
    length (flat_map encoding (map (token_of names) events)) < 2 ^ 32 → AllByRecursion IsToken (map (token_of names) events)
are_tokens names [] good strings_fit structure_fits = tt
are_tokens names (event ∷ later) good strings_fit structure_fits = (
  where_event event good.0 (omega (
    arith,
    length-append (encoding (token_of names event)) (flat_map encoding (map (token_of names) later)),
  )),
  are_tokens names later good.1 strings_fit
      (omega (arith, length-append (encoding (token_of names event)) (flat_map encoding (map (token_of names) later)))),
)
  where
    where_event : (event : Event) → NameEndsAtZero event → length (encoding (token_of names event)) < 2 ^ 32 →
        IsToken (token_of names event)
    where_event (NodeStart name) good fits = good
    where_event (NodeProperty property) good fits = (
      omega (arith, offset_in-le names property.0),
      omega (arith, value-le (offset_in names property.0) property.1),
    )
    where_event NodeEnd good fits = tt
