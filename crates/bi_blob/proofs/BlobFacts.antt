use Rattle.std.proofs.Common.{List, [], ◌∷◌, refl, rules}
use Rattle.std.specs.Prelude.{codes}
use Rattle.bi_base.specs.Cells.{cell, cell8, u32_at}
use Rattle.bi_blob.specs.Tokens.{Token, BeginNode, EndNode, Prop, Nop}
use Rattle.bi_blob.specs.KnownBlobs.{FilesAreBlobs, TokensAreNewestFirst}
use Rattle.bi_blob.proofs.CheckDecisions.{lacks_byte, is_new, is_property_name, is_child_name}
use Rattle.bi_blob.proofs.HeaderDecisions.{test}
use Rattle.bi_blob.proofs.TokenDecisions.{may_be_named, are_none, token_test, is_token, is_token_at, is_before_end, are_passed}
use Rattle.bi_blob.proofs.TokenDecisions.{are_passed_sound}
use Rattle.bi_blob.proofs.BlobDecisions.{begins_with, is_encoding, are_encodings, is_name_at, encode_events, are_distinct, are_properties}
use Rattle.bi_blob.proofs.BlobDecisions.{are_nodes, are_reservations, has_header, has_tree, known_blob}

-- Some small files are blobs of known trees, and the first tokens of a structure block, listed with the newest first, open `images` inside
-- the root.

-- The tokens of the smallest tree.
abbrev smallest_tokens : List Token
smallest_tokens = BeginNode [] ∷ BeginNode (codes "images") ∷ EndNode ∷ EndNode ∷ []

-- The tokens of each file, and how long they are with FDT_END.
pub files_are_blobs : FilesAreBlobs
unfolding u32_at cell cell8 lacks_byte is_new is_property_name is_child_name test is_token begins_with is_encoding are_encodings is_name_at
    encode_events are_distinct are_properties are_nodes are_reservations has_header has_tree
files_are_blobs = record {
  smallest = known_blob _ _ _ _ smallest_tokens 32 refl refl;
  nops = known_blob _ _ _ _
      (Nop ∷ BeginNode [] ∷ Nop ∷ Prop 4 (2 ∷ []) ∷ Nop ∷ Prop 0 (1 ∷ []) ∷ Nop ∷ BeginNode (codes "images")
      ∷ Nop ∷ EndNode ∷ Nop ∷ EndNode ∷ Nop ∷ [])
      92 refl refl;
  overlap = known_blob _ _ _ _ (BeginNode [] ∷ Prop 24 [] ∷ BeginNode (codes "images") ∷ EndNode ∷ EndNode ∷ []) 44 refl refl;
  version_18 = known_blob _ _ _ _
      (BeginNode [] ∷ Prop 0 (codes "abcde") ∷ BeginNode (codes "kernel@1") ∷ EndNode ∷ EndNode ∷ [])
      56 refl refl;
  version_16 = known_blob _ _ _ _ smallest_tokens 32 refl refl;
  version_16_padded = known_blob _ _ _ _ smallest_tokens 32 refl refl;
  same_tree = refl;
  same_tree_padded = refl;
}

-- The tokens at the beginning of a structure block, the newest first.
pub tokens_are_newest_first : TokensAreNewestFirst
unfolding u32_at cell lacks_byte is_new is_property_name is_child_name may_be_named are_none token_test is_token
    is_token_at is_before_end are_passed
tokens_are_newest_first = search (rules, are_passed_sound)
