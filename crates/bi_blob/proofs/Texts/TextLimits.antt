use Rattle.std.proofs.Common.{ℕ, ◌≤◌, List, ◌++◌, length, sym, subst, rules}
use Rattle.bi_base.specs.Limits.{Limits}
use Rattle.bi_blob.specs.Tree.{Root, Property}
use Rattle.bi_blob.specs.Blob.{Reservation, IsWithin}
use Rattle.bi_blob.specs.Layout.{text_of_tree, tree_with_places, longest_text}
use Rattle.bi_blob.specs.TextLaws.{IsBlobOf, IsAccepted, TextIsAccepted, NormalTextIsAccepted}
use Rattle.bi_base.proofs.AlignmentLaws.{IsAlignment-four}
use Rattle.bi_blob.proofs.Blobs.Faults.{blob_has_no_fault}
use Rattle.bi_blob.proofs.Texts.TextBlob.{text_is_blob}

-- A text is accepted under limits that hold it.

-- A file that is a blob of these within limits is accepted.
pub is_accepted : (bounds : Limits) (file : List ℕ) (align cpu : ℕ) (reservations : List Reservation) (root : Root (List Property)) →
    IsBlobOf file align cpu reservations root → IsWithin bounds file (tree_with_places reservations root) →
    IsAccepted bounds file align cpu reservations root
is_accepted bounds file align cpu reservations root is within = search (rules, blob_has_no_fault)

-- A text is.
pub text_is_accepted : TextIsAccepted
text_is_accepted bounds align cpu reservations root rest aligned is short bytes fits shallow =
    let blob = text_is_blob align cpu reservations root rest aligned is short bytes in
    is_accepted bounds (text_of_tree align cpu reservations root ++ rest) align cpu reservations root blob
    (search rules)

-- A normal text is.
pub normal_text_is_accepted : NormalTextIsAccepted
normal_text_is_accepted bounds cpu reservations root text rest is normal short bytes fits shallow =
    subst (λ text. IsAccepted bounds (text ++ rest) 4 cpu reservations root) (sym normal.is_text)
    (text_is_accepted bounds 4 cpu reservations root rest IsAlignment-four is
    (subst (λ text. length text ≤ longest_text) normal.is_text short) bytes
    (subst (λ text. length (text ++ rest) ≤ bounds.file) normal.is_text fits) shallow)
