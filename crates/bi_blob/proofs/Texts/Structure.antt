use Rattle.std.proofs.Common.{ℕ, ◌^◌, ◌<◌, ◌≤◌, List, [], ◌∷◌, ◌++◌, length, flat_map, sym, subst, arith, length-append, rules}
use Rattle.std.proofs.lemmas.List.Concat.{flat_map-append}
use Rattle.bi_base.proofs.AlignmentLaws.{alignment-positive, up_to-le}
use Rattle.bi_base.proofs.ListMembers.{each-append}
use Rattle.bi_blob.specs.Tokens.{IsToken, End}
use Rattle.bi_blob.specs.Tree.{Root, Property}
use Rattle.bi_blob.specs.Events.{Event, events_of, EncodeEvents}
use Rattle.bi_blob.specs.Blob.{Reservation, reservation_block}
use Rattle.bi_blob.specs.Layout.{used_names, distinct_names, encoding, tokens_of, structure_block, strings_block, structure_place}
use Rattle.bi_blob.specs.Layout.{text_of_tree, length_before_padding}
use Rattle.bi_blob.specs.TextLaws.{TextEncodesItsTree}
use Rattle.bi_blob.proofs.Texts.NamesOnce.{distinct_names-all}
use Rattle.bi_blob.proofs.Texts.EventNames.{names_end-tree}
use Rattle.bi_blob.proofs.Texts.TextTokens.{is_encoded}
use Rattle.bi_blob.proofs.Texts.Places.{placed-tree}
use Rattle.bi_blob.proofs.Texts.TextEvents.{named_in, encodes_events, are_tokens}
use Rattle.bi_blob.proofs.Texts.TextLength.{length-text_of_tree}

-- The structure block of a text encodes its tree.

-- The tokens of events are no longer than the structure block.
pub tokens-le : (events : List Event) → length (flat_map encoding (tokens_of events)) ≤ length (structure_block events)
tokens-le events = search (rules, flat_map-append, length-append)

-- The blocks of a text are no longer than the text.
pub blocks-le : (align cpu : ℕ) (reservations : List Reservation) (root : Root (List Property)) → 0 < align →
    length_before_padding (length (reservation_block reservations)) (length (structure_block (events_of root)))
    (length (strings_block (events_of root))) ≤ length (text_of_tree align cpu reservations root)
blocks-le align cpu reservations root positive = search (rules, length-text_of_tree, up_to-le)

-- The blocks of a text that is not too long encode its tree.
pub says_tree : TextEncodesItsTree
says_tree align cpu reservations root aligned is short = record {
  is_encoded = is_encoded (tokens_of (events_of root) ++ End ∷ [])
      (each-append IsToken (tokens_of (events_of root)) (End ∷ [])
      (are_tokens (distinct_names (used_names (events_of root))) (events_of root)
      (names_end-tree root is.is_tree) strings_fit structure_fits)
      (tt, tt));
  encodes = subst (EncodeEvents (strings_block (events_of root)) (structure_place reservations) (tokens_of (events_of root)))
      (sym (placed-tree reservations root))
      (search (rules, encodes_events, named_in, distinct_names-all, names_end-tree));
}
  where
    blocks_fit : length_before_padding (length (reservation_block reservations)) (length (structure_block (events_of root)))
        (length (strings_block (events_of root))) ≤ length (text_of_tree align cpu reservations root)
    blocks_fit = blocks-le align cpu reservations root (omega (arith, alignment-positive align aligned))

    strings_fit : length (strings_block (events_of root)) < 2 ^ 32
    strings_fit = omega (arith, blocks_fit)

    structure_fits : length (flat_map encoding (tokens_of (events_of root))) < 2 ^ 32
    structure_fits = omega (arith, blocks_fit, tokens-le (events_of root))
