use Rattle.std.proofs.Common.{ℕ, List, [], ◌∷◌, length, map, flat_map, rules}
use Rattle.std.specs.List.{AllByRecursion}
use Rattle.bi_base.specs.Cells.{AreBytes}
use Rattle.bi_blob.specs.Tokens.{Token, token_bytes, end_node_number}
use Rattle.bi_blob.specs.Tree.{Root, Property}
use Rattle.bi_blob.specs.Events.{Event, NodeStart, NodeProperty, NodeEnd}
use Rattle.bi_blob.specs.Blob.{Reservation, pair_bytes, end_pair, reservation_block}
use Rattle.bi_blob.specs.Layout.{used_names, distinct_names, strings_of, padding_to, encoding, token_of, structure_block}
use Rattle.bi_blob.specs.Layout.{strings_block, blob_header, text_of_blocks, text_of_events, text_of_tree}
use Rattle.bi_blob.specs.Layout.{AreEventBytes, IsContent}
use Rattle.bi_base.proofs.ByteLists.{AreBytes-none, AreBytes-append, AreBytes-zeros, AreBytes-cell, AreBytes-cell8, AreBytes-flat_map}
use Rattle.bi_base.proofs.ListMembers.{each-append, each-filter}

-- A text is bytes, where its names and values are.

-- The header is.
pub AreBytes-header : (cpu total reserved structure strings : ℕ) → AreBytes (blob_header cpu total reserved structure strings)
AreBytes-header cpu total reserved structure strings = search (rules, AreBytes-cell, AreBytes-append)

-- A pair of the memory reservation block is.
pub AreBytes-reservation : (reservation : Reservation) → AreBytes (pair_bytes reservation)
AreBytes-reservation reservation = AreBytes-append _ _ (AreBytes-cell8 reservation.address) (AreBytes-cell8 reservation.size)

-- The memory reservation block is.
pub AreBytes-reserved : (reservations : List Reservation) → AreBytes (reservation_block reservations)
AreBytes-reserved reservations = AreBytes-append (flat_map pair_bytes reservations) (pair_bytes end_pair)
    (AreBytes-flat_map pair_bytes reservations (each reservations)) (AreBytes-reservation end_pair)
  where
    each : (reservations : List Reservation) → AllByRecursion (λ reservation. AreBytes (pair_bytes reservation)) reservations
    each [] = tt
    each (reservation ∷ later) = (AreBytes-reservation reservation, each later)

-- The bytes of an event's token without its padding.
pub AreBytes-token_bytes : (names : List (List ℕ)) (event : Event) → AreEventBytes event → AreBytes (token_bytes (token_of names event))
AreBytes-token_bytes names (NodeStart name) bytes = search (rules, AreBytes-append, AreBytes-cell, AreBytes-zeros)
AreBytes-token_bytes names (NodeProperty property) bytes = search (rules, AreBytes-append, AreBytes-cell)
AreBytes-token_bytes names NodeEnd bytes = AreBytes-cell end_node_number

-- A token with zeros as its padding is, where it is without its padding.
pub AreBytes-encoding : (token : Token) → AreBytes (token_bytes token) → AreBytes (encoding token)
AreBytes-encoding token bytes = AreBytes-append (token_bytes token) (padding_to 4 (length (token_bytes token))) bytes (AreBytes-zeros _)

-- The structure block is.
pub AreBytes-structure : (events : List Event) → AllByRecursion AreEventBytes events → AreBytes (structure_block events)
AreBytes-structure events bytes = AreBytes-flat_map encoding _ (search (rules, each-append, each, AreBytes-encoding, AreBytes-cell))
  where
    each : (names : List (List ℕ)) (events : List Event) → AllByRecursion AreEventBytes events →
        AllByRecursion (λ token. AreBytes (encoding token)) (map (token_of names) events)
    each names [] bytes = tt
    each names (event ∷ later) bytes =
        (AreBytes-encoding (token_of names event) (AreBytes-token_bytes names event bytes.0), each names later bytes.1)

-- The names that events use.
pub AreBytes-used_names : (events : List Event) → AllByRecursion AreEventBytes events → AllByRecursion AreBytes (used_names events)
AreBytes-used_names [] bytes = tt
AreBytes-used_names (NodeStart name ∷ later) bytes = AreBytes-used_names later bytes.1
AreBytes-used_names (NodeProperty property ∷ later) bytes = (bytes.0.0, AreBytes-used_names later bytes.1)
AreBytes-used_names (NodeEnd ∷ later) bytes = AreBytes-used_names later bytes.1

-- What holds of each name holds of each of the first ones.
pub each-distinct_names : (P : List ℕ → Type 0) (names : List (List ℕ)) → AllByRecursion P names → AllByRecursion P (distinct_names names)
each-distinct_names P [] each = each
each-distinct_names P (first ∷ others) each = search (rules, each-filter, each-distinct_names P others each.1)

-- Names that are bytes, with a zero byte after each.
pub AreBytes-strings_of : (names : List (List ℕ)) → AllByRecursion AreBytes names → AreBytes (strings_of names)
AreBytes-strings_of [] bytes = AreBytes-none
AreBytes-strings_of (name ∷ later) bytes = search (rules, AreBytes-append, AreBytes-zeros, AreBytes-strings_of later bytes.1)

-- The strings block is.
pub AreBytes-strings : (events : List Event) → AllByRecursion AreEventBytes events → AreBytes (strings_block events)
AreBytes-strings events bytes = search (rules, AreBytes-strings_of, each-distinct_names, AreBytes-used_names)

-- A text of three blocks is, where they are.
pub AreBytes-text_of_blocks : (align cpu : ℕ) (reserved structure strings : List ℕ) → AreBytes reserved → AreBytes structure →
    AreBytes strings → AreBytes (text_of_blocks align cpu reserved structure strings)
unfolding text_of_blocks
AreBytes-text_of_blocks align cpu reserved structure strings first second third =
    search (rules, AreBytes-append, AreBytes-header, AreBytes-zeros)

-- The text of content is.
pub AreBytes-text : (align cpu : ℕ) (reservations : List Reservation) (root : Root (List Property)) → IsContent cpu reservations root →
    AreBytes (text_of_tree align cpu reservations root)
unfolding text_of_events
AreBytes-text align cpu reservations root is =
    search (rules, AreBytes-text_of_blocks, AreBytes-reserved, AreBytes-structure, AreBytes-strings)
