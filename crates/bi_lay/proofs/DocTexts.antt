use Rattle.std.proofs.Common.{◌≡◌, ℕ, suc, ◌+◌, ◌*◌, ◌^◌, ◌<◌, ◌≤◌, List, [], ◌∷◌, ◌++◌, length, map, flat_map, refl, sym, ap, ◌∙◌, arith}
use Rattle.std.proofs.Common.{append-nil, length-append, vec_len, Bool, true, false, leb, subst, Option, Some, None, MatchOption}
use Rattle.std.specs.List.{AllByRecursion, sum_by}
use Rattle.std.proofs.lemmas.List.Concat.{flat_map-append}
use Rattle.std.proofs.lemmas.List.Sums.{sum_by-cons}
use Rattle.std.proofs.lemmas.Bool.{leb-true, leb-false}
use Rattle.bi_base.specs.declared.align.Align.{Align}
use Rattle.bi_base.specs.Aligns.{align_bytes}
use Rattle.bi_base.specs.Cells.{up4}
use Rattle.bi_base.proofs.AlignmentLaws.{IsAlignment-four, alignment-positive, up_to-le}
use Rattle.bi_blob.specs.Tokens.{BeginNode, Prop, EndNode, End as EndToken}
use Rattle.bi_blob.specs.Events.{Event}
use Rattle.bi_blob.specs.Blob.{Reservation, reservation_block}
use Rattle.bi_blob.specs.Layout.{encoding, token_of, tokens_of, event_width, offset_in, strings_of, structure_block, text_of_blocks}
use Rattle.bi_blob.specs.Layout.{text_of_events, length_before_padding, text_length, longest_text}
use Rattle.bi_base.proofs.CellLaws.{length-cell}
use Rattle.bi_blob.proofs.Texts.TextTokens.{length-encoding}
use Rattle.bi_blob.proofs.Texts.TextEvents.{offset_in-le}
use Rattle.bi_blob.proofs.Texts.EventLengths.{text_of_events_has_length, length-reservation_block}
use Rattle.bi_lay.specs.declared.document.Doc.TheInside.{Inside as Fields}
use Rattle.bi_lay.specs.declared.items.Item.{Item}
use Rattle.bi_lay.specs.declared.items.Item.TheVariants.{Begin, Property, End}
use Rattle.bi_blob.specs.TextLaws.{HasLengthOfEvents}
use Rattle.bi_lay.specs.declared.sizes.BlockSizes.{BlockSizes}
use Rattle.bi_lay.specs.Contents.{Doc, text_of}
use Rattle.bi_lay.specs.Sizes.{AreBlockSizes}
use Rattle.bi_lay.specs.Names.{saturated_usize}
use Rattle.bi_lay.specs.Items.{event_of, events_of_items, item_encoding, structure_of_items, reservations_of, HasOffset}
use Rattle.bi_lay.specs.Values.{value_bytes}
use Rattle.bi_lay.specs.Documents.{IsConsistentDocument, doc_model}
use Rattle.bi_blob.proofs.Blobs.TreeTokens.{length-Prop}

-- The text of a document is made of what its fields hold.

-- The bytes of an item's token are as many as the token of its event takes.
length-item : (item : Item) → length (item_encoding item) ≡ event_width (event_of item)
length-item (Begin name) = length-encoding (BeginNode name.now)
length-item (Property property) =
    length-encoding (Prop property.name_offset (value_bytes property.value))
    ∙ ap up4 (length-Prop property.name_offset (value_bytes property.value) ∙ sym (length-Prop 0 (value_bytes property.value)))
length-item End = length-encoding EndNode

-- The same of all items.
length-items : (items : List Item) → length (flat_map item_encoding items) ≡ sum_by event_width (events_of_items items)
length-items [] = refl
length-items (item ∷ later) =
    length-append (item_encoding item) (flat_map item_encoding later)
    ∙ omega (arith, length-item item, length-items later, sum_by-cons event_width (event_of item) (events_of_items later))

-- The structure block of items is as long as that of their events.
length-structure : (items : List Item) → length (structure_of_items items) ≡ sum_by event_width (events_of_items items) + 4
length-structure items =
    length-append (flat_map item_encoding items) (encoding EndToken) ∙ omega (
      arith,
      length-items items,
      length-encoding EndToken,
      length-cell 9,
    )

-- The structure block of the items is as long as that of the document's text, whatever its offsets are.
pub length-items_structure : (doc : Fields) → length (structure_block (doc_model doc).events) ≡ length (structure_of_items doc.items.items)
length-items_structure doc =
    (text_of_events_has_length 4 doc.boot_cpu (doc_model doc).reservations (doc_model doc).events IsAlignment-four).structure
    ∙ sym (length-structure doc.items.items)

-- The token of an item is that of its event, where its offset is right and the strings block is not too long.
same_item : (names : List (List ℕ)) (item : Item) → HasOffset names item → length (strings_of names) < 2 ^ 32 →
    item_encoding item ≡ encoding (token_of names (event_of item))
same_item names (Begin name) has short = refl
same_item names (Property property) has short = ap (λ offset. encoding (Prop offset (value_bytes property.value))) is_offset
  where
    is_offset : property.name_offset ≡ offset_in names property.name.now
    is_offset = omega (arith, has.1, offset_in-le names property.name.now)
same_item names End has short = refl

-- The same of all items.
same_items : (names : List (List ℕ)) (items : List Item) → AllByRecursion (HasOffset names) items → length (strings_of names) < 2 ^ 32 →
    flat_map item_encoding items ≡ flat_map encoding (map (token_of names) (events_of_items items))
same_items names [] each short = refl
same_items names (item ∷ later) each short = λ j. same_item names item each.0 short j ++ same_items names later each.1 short j

-- The structure block of items is that of their events.
same_structure : (doc : Fields) → IsConsistentDocument doc → length (strings_of doc.names.in_block) < 2 ^ 32 →
    structure_of_items doc.items.items ≡ structure_block (events_of_items doc.items.items)
same_structure doc kept short =
    ap (λ l. l ++ encoding EndToken)
    (same_items doc.names.in_block doc.items.items kept.offsets short
    ∙ ap (λ names. flat_map encoding (map (token_of names) events)) kept.names)
    ∙ ap (λ l. flat_map encoding (tokens_of events) ++ l) (sym (append-nil (encoding EndToken)))
    ∙ sym (flat_map-append encoding (tokens_of events) (EndToken ∷ []))
  where
    events : List Event
    events = events_of_items doc.items.items

-- As many reservations as pairs.
length-reservations : (pairs : List (ℕ × ℕ)) → length (reservations_of pairs) ≡ length pairs
length-reservations [] = refl
length-reservations (pair ∷ later) = ap suc (length-reservations later)

-- How long the text of a document is.
is_text_length : (align : Align) (doc : Fields) → IsConsistentDocument doc →
    length (text_of (align_bytes align) (doc_model doc))
    ≡ text_length (align_bytes align) (16 * length doc.reservations.items + 16) (length (structure_of_items doc.items.items))
    (length (strings_of doc.names.in_block))
is_text_length align doc kept =
    law.is_length
    ∙ (λ j. text_length (align_bytes align) (same_reserved j) (length-items_structure doc j) (length (strings_of (sym kept.names j))))
  where
    events : List Event
    events = events_of_items doc.items.items

    pairs : List Reservation
    pairs = reservations_of doc.reservations.items

    law : HasLengthOfEvents (align_bytes align) doc.boot_cpu pairs events
    law = text_of_events_has_length (align_bytes align) doc.boot_cpu pairs events align.is_alignment

    same_reserved : length (reservation_block pairs) ≡ 16 * length doc.reservations.items + 16
    same_reserved = law.reserved ∙ ap (λ n. 16 * n + 16) (length-reservations doc.reservations.items)

-- The blocks are no longer than the text.
blocks-le : (align : Align) (doc : Fields) → IsConsistentDocument doc →
    length_before_padding (16 * length doc.reservations.items + 16) (length (structure_of_items doc.items.items))
    (length (strings_of doc.names.in_block)) ≤ length (text_of (align_bytes align) (doc_model doc))
blocks-le align doc kept =
    subst (λ n. before ≤ n) (sym (is_text_length align doc kept))
    (up_to-le (align_bytes align) before (omega (arith, alignment-positive (align_bytes align) align.is_alignment)))
  where
    before : ℕ
    before = length_before_padding (16 * length doc.reservations.items + 16) (length (structure_of_items doc.items.items))
        (length (strings_of doc.names.in_block))

-- What the sizes of the blocks are measured from: the number of the reservations, the items, and the length of the strings
-- block as far as it is counted.
pub record AreMeasured (doc : Fields) (count : ℕ) (items : List Item) (strings : ℕ) : Type 0 where
  pub is_count : count ≡ vec_len doc.reservations
  pub are_items : items ≡ doc.items.items
  pub is_strings : strings ≡ saturated_usize (length (strings_of doc.names.in_block))

-- The length of the text, from what is measured.
abbrev measured_length : Align → ℕ → List Item → ℕ → ℕ
measured_length align count items strings =
    text_length (align_bytes align) (16 * count + 16) (length (structure_of_items items)) strings

-- Where what is measured is not too long, the strings block is counted to its end.
strings-exact : (doc : Fields) (count : ℕ) (items : List Item) (strings : ℕ) → AreMeasured doc count items strings →
    length_before_padding (16 * count + 16) (length (structure_of_items items)) strings ≤ longest_text →
    strings ≡ length (strings_of doc.names.in_block)
strings-exact doc count items strings are short = omega (arith, are.is_strings)

-- These sizes are what was measured.
abbrev HasMeasured : Align → ℕ → List Item → ℕ → BlockSizes → Type 0
HasMeasured align count items strings sizes =
    (sizes.reservations ≡ 16 * count + 16) × (sizes.structure ≡ length (structure_of_items items)) × (sizes.strings ≡ strings)
    × (sizes.align ≡ align)

-- The text is too long if what is measured is.
measured_length-long : (align : Align) (doc : Fields) (count : ℕ) (items : List Item) (strings : ℕ) → IsConsistentDocument doc →
    AreMeasured doc count items strings → longest_text < measured_length align count items strings →
    longest_text < length (text_of (align_bytes align) (doc_model doc))
measured_length-long align doc count items strings kept are long = where_counted (leb all longest_text) refl
  where
    all : ℕ
    all = length (strings_of doc.names.in_block)

    is_count : count ≡ length doc.reservations.items
    is_count = omega (arith, are.is_count, doc.reservations.ok.0)

    where_counted : (b : Bool) → leb all longest_text ≡ b → longest_text < length (text_of (align_bytes align) (doc_model doc))
    where_counted true is =
        let counted : strings ≡ all = omega (arith, are.is_strings, leb-true all longest_text is) in
        subst (λ n. longest_text < n)
        ((λ j. text_length (align_bytes align) (16 * is_count j + 16) (length (structure_of_items (are.are_items j))) (counted j))
        ∙ sym (is_text_length align doc kept))
        long
    where_counted false is = omega (arith, leb-false all longest_text is, blocks-le align doc kept)

-- The text is put together of its blocks.
pub same_text : (align : Align) (doc : Fields) (pairs : List (ℕ × ℕ)) (items : List Item) (names : List (List ℕ)) →
    IsConsistentDocument doc → pairs ≡ doc.reservations.items → items ≡ doc.items.items → names ≡ doc.names.in_block →
    length (text_of (align_bytes align) (doc_model doc)) ≤ longest_text →
    text_of_blocks (align_bytes align) doc.boot_cpu (reservation_block (reservations_of pairs)) (structure_of_items items)
    (strings_of names) ≡ text_of (align_bytes align) (doc_model doc)
unfolding text_of_events
same_text align doc pairs items names kept are_pairs are_items are_names short =
    λ j. text_of_blocks (align_bytes align) doc.boot_cpu (reservation_block (reservations_of (are_pairs j)))
    ((ap structure_of_items are_items ∙ same_structure doc kept fits) j) (strings_of ((are_names ∙ kept.names) j))
  where
    fits : length (strings_of doc.names.in_block) < 2 ^ 32
    fits = omega (arith, short, blocks-le align doc kept)

-- The memory reservation block has sixteen bytes for each pair and for the end pair.
length-block : (pairs : List (ℕ × ℕ)) (count : ℕ) → count ≡ length pairs →
    length (reservation_block (reservations_of pairs)) ≡ 16 * count + 16
length-block pairs count is_count = length-reservation_block (reservations_of pairs) ∙ omega (arith, is_count, length-reservations pairs)

-- The sizes that were measured are those of the blocks.
are_sizes : (align : Align) (doc : Fields) (count : ℕ) (items : List Item) (strings : ℕ) (sizes : BlockSizes) → IsConsistentDocument doc →
    AreMeasured doc count items strings → HasMeasured align count items strings sizes → AreBlockSizes (doc_model doc) sizes
are_sizes align doc count items strings sizes kept are has = record {
  reservations = has.0 ∙ sym (length-block doc.reservations.items count (omega (arith, are.is_count, doc.reservations.ok.0)));
  structure = has.1 ∙ ap (λ items. length (structure_of_items items)) are.are_items ∙ sym (length-items_structure doc);
  strings = has.2 ∙ strings-exact doc count items strings are (omega (arith, has.0, has.1, has.2, sizes.small))
      ∙ ap (λ names. length (strings_of names)) kept.names;
}

-- What measuring finds are the sizes of the blocks, or nothing where the text is too long.
pub found_sizes : (align : Align) (doc : Fields) (count : ℕ) (items : List Item) (strings : ℕ) (found : Option BlockSizes) →
    IsConsistentDocument doc → AreMeasured doc count items strings →
    MatchOption found (longest_text < measured_length align count items strings) (HasMeasured align count items strings) →
    MatchOption found (longest_text < length (text_of (align_bytes align) (doc_model doc)))
    (λ sizes. AreBlockSizes (doc_model doc) sizes × (sizes.align ≡ align))
found_sizes align doc count items strings None kept are long = measured_length-long align doc count items strings kept are long
found_sizes align doc count items strings (Some sizes) kept are has = (are_sizes align doc count items strings sizes kept are has, has.3)

-- The length of a text follows from the sizes of its blocks.
pub length-of_sizes : (content : Doc) (sizes : BlockSizes) → AreBlockSizes content sizes →
    length (text_of (align_bytes sizes.align) content)
    ≡ text_length (align_bytes sizes.align) sizes.reservations sizes.structure sizes.strings
length-of_sizes content sizes are =
    (text_of_events_has_length (align_bytes sizes.align) content.boot_cpu content.reservations content.events
    sizes.align.is_alignment).is_length
    ∙ (λ j. text_length (align_bytes sizes.align) (sym are.reservations j) (sym are.structure j) (sym are.strings j))
