use Rattle.std.proofs.Common.{◌≡◌, ℕ, ◌-◌, [], ◌∷◌, ◌++◌, drop, sym, ◌∙◌, rules}
use Rattle.std.proofs.lemmas.List.{append_assoc, take-append-drop}
use Rattle.bi_blob.specs.Tree.{Root, FileNode}
use Rattle.bi_blob.specs.Tokens.{End}
use Rattle.bi_blob.specs.Events.{file_events_of}
use Rattle.bi_blob.specs.Blob.{TreeBlocks, HoldsTree, tree_blocks}
use Rattle.bi_blob.specs.BlobLaws.{OneBlob}
use Rattle.bi_blob.proofs.Blobs.TokenEncoding.{AllStand, AreEncodings-stand, one_token_list}
use Rattle.bi_blob.proofs.Blobs.EventEncoding.{one_event_list, EncodeEvents-no_end}
use Rattle.bi_blob.proofs.Blobs.OneTree.{trees_agree}
use Rattle.bi_blob.proofs.Blobs.Reservations.{reservations_agree}

-- Proves that a file is at most one blob.

-- The tokens of a block's tree are at the block's beginning.
pub HoldsTree-stand : (blocks : TreeBlocks) (root : Root FileNode) (holds : HoldsTree blocks root) →
    AllStand blocks.file blocks.begin (holds.tokens ++ End ∷ [])
HoldsTree-stand blocks root holds =
    let size : ℕ = blocks.end - blocks.begin in
    AreEncodings-stand blocks.file blocks.begin (holds.tokens ++ End ∷ []) holds.structure
    (holds.trailing ++ drop size (drop blocks.begin blocks.file)) holds.is_encoded
    (search (rules, take-append-drop, append_assoc))

-- A block holds one tree at most.
pub one_tree : (blocks : TreeBlocks) (a b : Root FileNode) → HoldsTree blocks a → HoldsTree blocks b → a ≡ b
one_tree blocks a b one other =
    let same : one.tokens ≡ other.tokens =
    one_token_list blocks.file blocks.begin one.tokens other.tokens
    (EncodeEvents-no_end blocks.strings blocks.begin one.tokens (file_events_of a) one.encodes)
    (EncodeEvents-no_end blocks.strings blocks.begin other.tokens (file_events_of b) other.encodes)
    (HoldsTree-stand blocks a one) (HoldsTree-stand blocks b other) in
    search (rules, trees_agree, one_event_list)

-- A file is a blob in one way at most.
pub one_blob : OneBlob
one_blob file cpu other_cpu reservations other_reservations root other_root one other = record {
  same_cpu = sym one.is_cpu ∙ other.is_cpu;
  same_reservations = search (rules, reservations_agree);
  same_root = one_tree (tree_blocks file) root other_root one.holds other.holds;
}
