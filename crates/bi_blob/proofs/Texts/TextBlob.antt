use Rattle.std.proofs.Common.{◌≡◌, ℕ, ◌-◌, ◌^◌, ◌<◌, ◌≤◌, List, [], ◌++◌, length, take, sym, subst, ◌∙◌, arith, append-nil}
use Rattle.std.proofs.Common.{length-append, rules}
use Rattle.bi_base.specs.Alignments.{IsAlignment}
use Rattle.bi_base.specs.Cells.{slice, AreBytes}
use Rattle.bi_blob.specs.Tree.{Root, Property, IsTree, AreProperties}
use Rattle.bi_blob.specs.Events.{events_of}
use Rattle.bi_blob.specs.Blob.{Reservation, tree_blocks, HoldsTree, IsBlob, reservation_block, totalsize, off_dt_struct, off_dt_strings}
use Rattle.bi_blob.specs.Blob.{off_mem_rsvmap, size_dt_strings, structure_end}
use Rattle.bi_blob.specs.Layout.{blob_header, length_before_padding, text_length, text_of_blocks, text_of_events, text_of_tree}
use Rattle.bi_blob.specs.Layout.{tokens_of, structure_block, strings_block, tree_with_places, IsContent, longest_text}
use Rattle.bi_blob.specs.TextLaws.{EncodesTree, TextIsBlob, EachTextHasItsLength}
use Rattle.bi_blob.proofs.Blobs.OneBlob.{one_blob}
use Rattle.bi_blob.proofs.Blobs.Headers.{structure_end-17}
use Rattle.bi_blob.proofs.Texts.Places.{properties_of-tree, depth-tree}
use Rattle.bi_blob.proofs.Texts.TextLength.{length-blob_header, length-text_of_blocks, length-text_of_tree}
use Rattle.bi_blob.proofs.Texts.Structure.{says_tree, blocks-le}
use Rattle.bi_blob.proofs.Texts.Header.{HasCells, has_cells}
use Rattle.bi_blob.proofs.Texts.Blocks.{text_parts, slice_from_second, third_slice, fourth_slice, reserved-aligned, text_header}
use Rattle.bi_base.proofs.AlignmentLaws.{alignment-positive, up_to-le, up_to-whole}
use Rattle.bi_base.proofs.ByteLists.{AreBytes-append}
use Rattle.bi_blob.proofs.Texts.TextBytes.{AreBytes-text}

-- A text, with any bytes after it, is a blob of its content.

-- A file that has the cells and the blocks of a text.
pub record HasParts (file : List ℕ) (cpu total : ℕ) (reserved structure strings : List ℕ) : Type 0 where
  pub cells : HasCells file cpu total (length reserved) (length structure) (length strings)
  pub trailing : List ℕ
  pub is_reserved : slice file (off_mem_rsvmap file) (totalsize file - off_mem_rsvmap file) ≡ reserved ++ trailing
  pub is_structure : slice file (off_dt_struct file) (structure_end file - off_dt_struct file) ≡ structure
  pub is_strings : slice file (off_dt_strings file) (size_dt_strings file) ≡ strings

-- A file that begins with the header of a text and then its blocks has them.
pub blocks_of_text : (cpu total : ℕ) (reserved structure strings rest : List ℕ) → cpu < 2 ^ 32 →
    length_before_padding (length reserved) (length structure) (length strings) ≤ total → total < 2 ^ 32 →
    HasParts (blob_header cpu total (length reserved) (length structure) (length strings)
    ++ (reserved ++ (structure ++ (strings ++ rest)))) cpu total reserved structure strings
blocks_of_text cpu total reserved structure strings rest cpu_fits within fits = record {
  cells = cells;
  trailing = take (totalsize file - off_mem_rsvmap file - length reserved) (structure ++ (strings ++ rest));
  is_reserved = search (rules, slice_from_second, front, file, long, cells);
  is_structure = search (rules, third_slice, front, file, long, cells, structure_end-17);
  is_strings = search (rules, fourth_slice, front, file, long, cells);
}
  where
    front : List ℕ
    front = blob_header cpu total (length reserved) (length structure) (length strings)

    file : List ℕ
    file = front ++ (reserved ++ (structure ++ (strings ++ rest)))

    cells : HasCells file cpu total (length reserved) (length structure) (length strings)
    cells = has_cells cpu total (length reserved) (length structure) (length strings)
        (reserved ++ (structure ++ (strings ++ rest))) cpu_fits
        within fits

    long : length front ≡ 40
    long = length-blob_header cpu total (length reserved) (length structure) (length strings)

-- A text of three blocks, with any bytes after it, has them.
pub text_has_parts : (align cpu : ℕ) (reserved structure strings rest : List ℕ) → 0 < align → cpu < 2 ^ 32 →
    text_length align (length reserved) (length structure) (length strings) < 2 ^ 32 →
    HasParts (text_of_blocks align cpu reserved structure strings ++ rest) cpu
    (text_length align (length reserved) (length structure) (length strings)) reserved structure strings
text_has_parts align cpu reserved structure strings rest positive cpu_fits fits = search (rules, text_parts, blocks_of_text, up_to-le)

-- The text of a tree has the blocks of the tree.
pub tree_text_has_parts : (align cpu : ℕ) (reservations : List Reservation) (root : Root (List Property)) (rest : List ℕ) →
    IsAlignment align → cpu < 2 ^ 32 → length (text_of_tree align cpu reservations root) ≤ longest_text →
    HasParts (text_of_tree align cpu reservations root ++ rest) cpu (length (text_of_tree align cpu reservations root))
    (reservation_block reservations) (structure_block (events_of root)) (strings_block (events_of root))
unfolding text_of_events
tree_text_has_parts align cpu reservations root rest aligned cpu_fits short =
    subst (λ total. HasParts (text_of_blocks align cpu reserved structure strings ++ rest) cpu total reserved structure strings)
    (sym is_length)
    (text_has_parts align cpu reserved structure strings rest positive cpu_fits (subst (λ n. n < 2 ^ 32) is_length (omega (arith, short))))
  where
    positive : 0 < align
    positive = omega (arith, alignment-positive align aligned)

    reserved : List ℕ
    reserved = reservation_block reservations

    structure : List ℕ
    structure = structure_block (events_of root)

    strings : List ℕ
    strings = strings_block (events_of root)

    is_length : length (text_of_blocks align cpu reserved structure strings)
        ≡ text_length align (length reserved) (length structure) (length strings)
    is_length = length-text_of_blocks align cpu reserved structure strings positive

-- A file with the blocks of a tree holds it, where these encode it.
pub holds_tree : (file : List ℕ) (cpu total : ℕ) (reservations : List Reservation) (root : Root (List Property)) →
    HasParts file cpu total (reservation_block reservations) (structure_block (events_of root)) (strings_block (events_of root)) →
    EncodesTree reservations root → IsTree AreProperties root → HoldsTree (tree_blocks file) (tree_with_places reservations root)
holds_tree file cpu total reservations root parts token_events is = record {
  tokens = tokens_of (events_of root);
  structure = structure_block (events_of root);
  trailing = [];
  is_at = parts.is_structure ∙ sym (append-nil (structure_block (events_of root)));
  is_encoded = token_events.is_encoded;
  encodes = search rules;
  is_tree = subst (IsTree AreProperties) (sym (properties_of-tree reservations root)) is;
}

-- The text of content, with any bytes after it, is a blob of the content at the places of the layout.
pub text_blob : (align cpu : ℕ) (reservations : List Reservation) (root : Root (List Property)) (rest : List ℕ) → IsAlignment align →
    IsContent cpu reservations root → length (text_of_tree align cpu reservations root) ≤ longest_text → AreBytes rest →
    IsBlob (text_of_tree align cpu reservations root ++ rest) cpu reservations (tree_with_places reservations root)
text_blob align cpu reservations root rest aligned is short bytes = record {
  bytes = AreBytes-append text rest (AreBytes-text align cpu reservations root is) bytes;
  header = text_header (text ++ rest) cpu (length text) (length (reservation_block reservations))
      (length (structure_block (events_of root))) (length (strings_block (events_of root)))
      parts.cells (reserved-aligned reservations)
      (blocks-le align cpu reservations root (omega (arith, alignment-positive align aligned)))
      (omega (arith, length-append text rest));
  is_cpu = parts.cells.is_cpu;
  reserved = search (rules, parts);
  holds = search (rules, holds_tree, text, parts, says_tree);
}
  where
    text : List ℕ
    text = text_of_tree align cpu reservations root

    parts : HasParts (text ++ rest) cpu (length text) (reservation_block reservations) (structure_block (events_of root))
        (strings_block (events_of root))
    parts = tree_text_has_parts align cpu reservations root rest aligned is.cpu_fits short

-- It is a blob of nothing else.
pub text_is_blob : TextIsBlob
text_is_blob align cpu reservations root rest aligned is short bytes = record {
  blob = text_blob align cpu reservations root rest aligned is short bytes;
  same_tree = properties_of-tree reservations root;
  same_depth = depth-tree reservations root;
  only = search (rules, one_blob, text_blob);
  is_total = (tree_text_has_parts align cpu reservations root rest aligned is.cpu_fits short).cells.is_total;
}

-- The length of each text is that of the layout.
pub has_text_length : EachTextHasItsLength
has_text_length align cpu reservations root aligned = search (rules, up_to-whole, length-text_of_tree, alignment-positive)
