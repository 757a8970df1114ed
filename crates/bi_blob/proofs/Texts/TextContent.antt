use Rattle.std.proofs.Common.{◌-◌, ◌^◌, ◌<◌, ◌≤◌, [], ◌∷◌, ◌++◌, length, sym, ap, subst, ◌∙◌, rules}
use Rattle.std.specs.List.{AllByRecursion}
use Rattle.bi_base.specs.Cells.{slice, AreBytes}
use Rattle.bi_blob.specs.Tokens.{End}
use Rattle.bi_blob.specs.Tree.{Root, FileNode, tree_without_places}
use Rattle.bi_blob.specs.Blob.{IsBlob, TreeBlocks, tree_blocks, HoldsTree, off_dt_struct, off_dt_strings, size_dt_strings}
use Rattle.bi_blob.specs.Layout.{text_of_tree, tree_with_places, longest_text}
use Rattle.bi_blob.specs.TextLaws.{BlobHasContent, TextHasOneContent}
use Rattle.bi_base.proofs.CellLaws.{AreBytes-slice}
use Rattle.bi_base.proofs.CellLaws.{u32_at-fits}
use Rattle.bi_blob.proofs.Blobs.OneBlob.{one_blob}
use Rattle.bi_blob.proofs.Texts.Places.{properties_of-tree}
use Rattle.bi_base.proofs.ByteLists.{AreBytes-none, AreBytes-left}
use Rattle.bi_base.proofs.ListMembers.{each-front}
use Rattle.bi_blob.proofs.Texts.EncodedBytes.{TokenHasBytes, tokens_bytes, tree_bytes}
use Rattle.bi_blob.proofs.Texts.TextBlob.{text_blob}

-- What a blob has can be laid out, and distinct contents have distinct texts.

-- The tokens that hold a tree have bytes, where the file is bytes.
pub holds_bytes : (blocks : TreeBlocks) (root : Root FileNode) (holds : HoldsTree blocks root) → AreBytes blocks.file →
    AllByRecursion TokenHasBytes holds.tokens
holds_bytes blocks root holds bytes =
    each-front TokenHasBytes holds.tokens (End ∷ [])
    (tokens_bytes (holds.tokens ++ End ∷ []) holds.structure
    (AreBytes-left holds.structure holds.trailing
    (search (rules, AreBytes-slice)))
    holds.is_encoded)

-- What a file has as a blob is content.
pub blob_has_content : BlobHasContent
blob_has_content file cpu reservations root blob = record {
  cpu_fits = subst (λ n. n < 2 ^ 32) blob.is_cpu (u32_at-fits file 28 blob.bytes);
  are_reservations = blob.reserved.are_reservations;
  is_tree = blob.holds.is_tree;
  bytes = tree_bytes (slice file (off_dt_strings file) (size_dt_strings file)) (off_dt_struct file) blob.holds.tokens root
      (AreBytes-slice file (off_dt_strings file) (size_dt_strings file) blob.bytes)
      (holds_bytes (tree_blocks file) root blob.holds blob.bytes)
      blob.holds.encodes;
}

-- Contents with one text are the same.
pub text_has_one_content : TextHasOneContent
text_has_one_content align cpu other_cpu reservations other_reservations root other_root aligned is other_is short same =
    let one = one_blob (text_of_tree align cpu reservations root ++ []) cpu other_cpu reservations other_reservations
    (tree_with_places reservations root) (tree_with_places other_reservations other_root)
    (text_blob align cpu reservations root [] aligned is short AreBytes-none)
    (subst (λ text. IsBlob (text ++ []) other_cpu other_reservations (tree_with_places other_reservations other_root)) (sym same)
    (text_blob align other_cpu other_reservations other_root [] aligned other_is
    (subst (λ text. length text ≤ longest_text) same short) AreBytes-none)) in
    record {
      same_cpu = one.same_cpu;
      same_reservations = one.same_reservations;
      same_root = sym (properties_of-tree reservations root) ∙ ap tree_without_places one.same_root
          ∙ properties_of-tree other_reservations other_root;
    }
