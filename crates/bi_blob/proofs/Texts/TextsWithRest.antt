use Rattle.std.proofs.Common.{◌≡◌, ℕ, ◌^◌, ◌<◌, ◌≤◌, List, ◌++◌, length, sym, ap, ◌∙◌, rules}
use Rattle.bi_blob.specs.Tree.{Root, Property}
use Rattle.bi_blob.specs.Blob.{Reservation, totalsize}
use Rattle.bi_blob.specs.Layout.{text_of_tree, longest_text}
use Rattle.bi_blob.specs.TextLaws.{TextWithRestHasOneContent, NormalTextWithRestTellsContent}
use Rattle.bi_base.specs.Alignments.{IsAlignment}
use Rattle.bi_base.proofs.AlignmentLaws.{IsAlignment-four}
use Rattle.bi_base.proofs.CellLaws.{parts_agree}
use Rattle.bi_blob.proofs.Texts.TextBlob.{tree_text_has_parts}
use Rattle.bi_blob.proofs.Texts.TextContent.{text_has_one_content}
use Rattle.bi_blob.proofs.Texts.NormalOrder.{normal_text_tells_content}

-- Files that begin with texts and are the same have the same texts, the same contents and the same bytes after the texts.

-- The total size of a text with other bytes after it is the length of the text.
pub totalsize-text : (align cpu : ℕ) (reservations : List Reservation) (root : Root (List Property)) (rest : List ℕ) → IsAlignment align →
    cpu < 2 ^ 32 → length (text_of_tree align cpu reservations root) ≤ longest_text →
    totalsize (text_of_tree align cpu reservations root ++ rest) ≡ length (text_of_tree align cpu reservations root)
totalsize-text align cpu reservations root rest aligned cpu_fits short =
    (tree_text_has_parts align cpu reservations root rest aligned cpu_fits short).cells.is_total

-- Two files that begin with texts and are the same have the same texts and the same rests.
pub texts_agree : (align cpu other_cpu : ℕ) (reservations other_reservations : List Reservation) (root other_root : Root (List Property))
    (rest other_rest : List ℕ) → IsAlignment align → cpu < 2 ^ 32 → other_cpu < 2 ^ 32 →
    length (text_of_tree align cpu reservations root) ≤ longest_text →
    length (text_of_tree align other_cpu other_reservations other_root) ≤ longest_text →
    text_of_tree align cpu reservations root ++ rest ≡ text_of_tree align other_cpu other_reservations other_root ++ other_rest →
    (text_of_tree align cpu reservations root ≡ text_of_tree align other_cpu other_reservations other_root) × (rest ≡ other_rest)
texts_agree align cpu other_cpu reservations other_reservations root other_root rest other_rest aligned cpu_fits other_fits short
    other_short same =
    parts_agree (text_of_tree align cpu reservations root) (text_of_tree align other_cpu other_reservations other_root) rest other_rest
    (sym (totalsize-text align cpu reservations root rest aligned cpu_fits short)
    ∙ ap totalsize same
    ∙ totalsize-text align other_cpu other_reservations other_root other_rest aligned other_fits other_short)
    same

-- They have the same content.
pub text_with_rest_has_one_content : TextWithRestHasOneContent
text_with_rest_has_one_content align cpu other_cpu reservations other_reservations root other_root rest other_rest aligned is
    other_is short other_short same =
    search (rules, texts_agree, text_has_one_content)

-- Normal texts, with their rests, are the same if and only if their contents and rests are.
pub normal_text_with_rest_tells_content : NormalTextWithRestTellsContent
normal_text_with_rest_tells_content cpu other_cpu reservations other_reservations root other_root text other_text rest other_rest is
    other_is normal other_normal short other_short =
    let tells = normal_text_tells_content cpu other_cpu reservations other_reservations root other_root text other_text is other_is
    normal other_normal short in search (rules, texts_agree, IsAlignment-four)
