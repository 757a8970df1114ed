use Rattle.std.proofs.Common.{◌≡◌, ℕ, ◌+◌, ◌%◌, List, [], ◌∷◌, length, map, flat_map, refl, ap, ◌∙◌, arith, length-append, rules}
use Rattle.std.specs.List.{sum_by}
use Rattle.std.proofs.lemmas.List.{length_push}
use Rattle.std.proofs.lemmas.List.Concat.{flat_map-append}
use Rattle.std.proofs.lemmas.List.Sums.{sum_by-cons}
use Rattle.bi_blob.specs.Events.{Event}
use Rattle.bi_blob.specs.Blob.{reservation_block}
use Rattle.bi_blob.specs.Layout.{used_names, distinct_names, encoding, token_of, event_width, structure_block, strings_block}
use Rattle.bi_blob.specs.Layout.{strings_of, text_length, text_of_events}
use Rattle.bi_blob.specs.TextLaws.{TextOfEventsHasItsLength, HasEventWidths}
use Rattle.bi_base.proofs.CellLaws.{length-cell}
pub use Rattle.bi_blob.proofs.Blobs.ReservationFaults.{length-reservation_block}
use Rattle.bi_blob.proofs.Texts.TextTokens.{length-encoding, width-token}
use Rattle.bi_base.proofs.AlignmentLaws.{alignment-positive, up_to-whole}
use Rattle.bi_blob.proofs.Texts.TextLength.{length-text_of_blocks}
use Rattle.bi_blob.proofs.Blobs.TreeTokens.{length-Prop}

-- The token of each event has the width of the event, and the structure block has the widths of its events and FDT_END.

-- How many bytes the token of each event takes.
pub has_event_widths : HasEventWidths
has_event_widths = search (rules, length-append, length-cell, length_push, length-Prop)

-- The tokens of events take the widths of the events, whatever the names are.
length-tokens : (names : List (List ℕ)) (events : List Event) →
    length (flat_map encoding (map (token_of names) events)) ≡ sum_by event_width events
length-tokens names [] = refl
length-tokens names (event ∷ later) =
    length-append (encoding (token_of names event)) (flat_map encoding (map (token_of names) later))
    ∙ omega (
      arith,
      length-encoding (token_of names event),
      width-token names event,
      length-tokens names later,
      sum_by-cons event_width event later,
    )

-- The structure block has the tokens of the events, and FDT_END.
pub length-structure_block : (events : List Event) → length (structure_block events) ≡ sum_by event_width events + 4
length-structure_block events = search (rules, flat_map-append, length-append, length-tokens, length-encoding, length-cell)

-- Names one after the other have their lengths, and a zero byte each.
length-strings_of : (names : List (List ℕ)) → length (strings_of names) ≡ sum_by (λ name. length name + 1) names
length-strings_of [] = refl
length-strings_of (name ∷ later) = search (rules, length-append, length_push, sum_by-cons, length-strings_of later)

-- The length of each text is that of the layout.
pub text_of_events_has_length : TextOfEventsHasItsLength
unfolding text_of_events
text_of_events_has_length align cpu reservations events aligned = record {
  reserved = length-reservation_block reservations;
  structure = length-structure_block events;
  strings = length-strings_of (distinct_names (used_names events));
  is_length = is_length;
  is_whole = ap (λ n. n % align) is_length ∙ up_to-whole align _;
}
  where
    is_length : length (text_of_events align cpu reservations events)
        ≡ text_length align (length (reservation_block reservations)) (length (structure_block events)) (length (strings_block events))
    is_length = length-text_of_blocks align cpu (reservation_block reservations) (structure_block events) (strings_block events)
        (omega (arith, alignment-positive align aligned))
