use Rattle.std.proofs.Common.{◌≡◌, ℕ, ◌<◌, List, length, length-append, rules}
use Rattle.bi_blob.specs.Tree.{Root, Property}
use Rattle.bi_blob.specs.Events.{events_of}
use Rattle.bi_blob.specs.Blob.{Reservation, reservation_block}
use Rattle.bi_blob.specs.Layout.{blob_header, text_length, text_of_blocks, text_of_events, text_of_tree}
use Rattle.bi_blob.specs.Layout.{structure_block, strings_block}
use Rattle.bi_base.proofs.CellLaws.{length-cell}
use Rattle.bi_blob.proofs.Texts.TextTokens.{length-padding_to}

-- A text is as long as its header and its blocks, padded to a multiple of its alignment.

-- A header has 40 bytes.
pub length-blob_header : (cpu total reserved structure strings : ℕ) → length (blob_header cpu total reserved structure strings) ≡ 40
length-blob_header cpu total reserved structure strings = simp (length-append, length-cell)

-- A text is as long as its header and its blocks, padded to a multiple of its alignment.
pub length-text_of_blocks : (align cpu : ℕ) (reserved structure strings : List ℕ) → 0 < align →
    length (text_of_blocks align cpu reserved structure strings)
    ≡ text_length align (length reserved) (length structure) (length strings)
unfolding text_of_blocks
length-text_of_blocks align cpu reserved structure strings positive = search (rules, length-append, length-blob_header, length-padding_to)

-- The same for the text of a tree.
pub length-text_of_tree : (align cpu : ℕ) (reservations : List Reservation) (root : Root (List Property)) → 0 < align →
    length (text_of_tree align cpu reservations root)
    ≡ text_length align (length (reservation_block reservations)) (length (structure_block (events_of root)))
    (length (strings_block (events_of root)))
unfolding text_of_events
length-text_of_tree align cpu reservations root positive = search (rules, length-text_of_blocks)
