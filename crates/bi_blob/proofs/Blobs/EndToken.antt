use Rattle.std.proofs.Common.{◌≡◌, ℕ, ◌+◌, ◌-◌, ◌≤◌, List, [], ◌∷◌, ◌++◌, length, take, drop, reverse, sym, ap, subst, ◌∙◌, arith, rules}
use Rattle.std.proofs.Math.Seq.{take-add}
use Rattle.bi_base.specs.Cells.{slice}
use Rattle.bi_blob.specs.Tokens.{Token, End, IsTokenAt, end_number}
use Rattle.bi_blob.specs.Tree.{Root, FileNode, depth_of}
use Rattle.bi_blob.specs.Stages.{AfterRoot}
use Rattle.bi_blob.specs.Blob.{TreeBlocks, HoldsTree}
use Rattle.bi_blob.specs.BlobFaults.{place_after}
use Rattle.bi_blob.specs.OpenNodes.{WholeTree, IsOpenAt}
use Rattle.bi_blob.proofs.Blobs.Tokens.{End-is_at}
use Rattle.bi_blob.proofs.Blobs.TokenEncoding.{place_after_all, place_after_all-append, AllStand}
use Rattle.bi_blob.proofs.Blobs.PassedTokens.{width-End, place_after_all-reverse, place_after_all-past, ArePassed-stand-push}
use Rattle.bi_blob.proofs.Blobs.PassedTokens.{AllStand-encoded}
use Rattle.bi_blob.proofs.Blobs.ReaderSteps.{IsNext, number_within}

-- Proves that FDT_END after the root ends the structure block.

-- A slice is its first part and the rest.
slice-split : (file : List ℕ) (at m k n : ℕ) → n ≡ m + k → slice file at n ≡ slice file at m ++ take k (drop m (drop at file))
slice-split file at m k n e = ap (λ l. take l (drop at file)) e ∙ take-add m k (drop at file)

-- FDT_END after the root ends the structure block: it holds the tree that was read. The tree is no deeper than the limit.
pub last_token : (blocks : TreeBlocks) (depth_limit place : ℕ) (root : Root FileNode) → IsOpenAt blocks depth_limit place (WholeTree root) →
    IsNext blocks depth_limit place AfterRoot end_number → HoldsTree blocks root × (depth_of root ≤ depth_limit)
last_token blocks depth_limit place root position next =
    let tokens : List Token = reverse position.tokens in
    let before : place_after_all blocks.begin tokens ≡ place = place_after_all-reverse blocks position.tokens ∙ position.is_place in
    let whole : place_after_all blocks.begin (tokens ++ End ∷ []) ≡ place + 4 =
    search (rules, place_after_all-append, width-End) in
    let past : blocks.begin ≤ place_after_all blocks.begin (tokens ++ End ∷ []) = place_after_all-past blocks.begin (tokens ++ End ∷ []) in
    let end_there : IsTokenAt blocks.file (place_after blocks position.tokens) End =
    subst (λ p. IsTokenAt blocks.file p End) (sym position.is_place)
    (End-is_at blocks.file place position.readable.bytes
    (number_within blocks depth_limit place end_number AfterRoot position.readable next) next.is_number) in
    let stand : AllStand blocks.file blocks.begin (tokens ++ End ∷ []) =
    ArePassed-stand-push blocks depth_limit position.tokens End position.passed end_there in
    let word : place + 4 ≤ blocks.end = next.passes.0 in
    let inside : blocks.end ≤ length blocks.file = position.readable.within in
    let size : ℕ = place_after_all blocks.begin (tokens ++ End ∷ []) - blocks.begin in
    let rest : ℕ = (blocks.end - blocks.begin) - size in (
      record {
        tokens = tokens;
        structure = slice blocks.file blocks.begin size;
        trailing = take rest (drop size (drop blocks.begin blocks.file));
        is_at = slice-split blocks.file blocks.begin size rest (blocks.end - blocks.begin) (omega arith);
        is_encoded = AllStand-encoded blocks.file blocks.begin (tokens ++ End ∷ []) stand (omega arith);
        encodes = position.encodes;
        is_tree = position.is_tree_so_far.is_tree;
      },
      position.is_tree_so_far.shallow,
    )
