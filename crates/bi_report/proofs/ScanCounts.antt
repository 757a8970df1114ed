use Rattle.std.proofs.Common.{◌≡◌, ℕ, ◌+◌, ◌-◌, ◌*◌, ◌≤◌, Bool, true, false, List, [], ◌∷◌, ◌++◌, length, Some, rules}
use Rattle.std.proofs.Common.{drop, refl, ap, arith, if◌then◌else◌, length-append}
use Rattle.std.specs.List.{AllZip, sum}
use Rattle.std.proofs.lemmas.List.{length-take}
use Rattle.std.proofs.lemmas.List.Sums.{sum_by-cons}
use Rattle.bi_base.specs.Cells.{cell, u32_at}
use Rattle.bi_base.specs.Limits.{Limits}
use Rattle.bi_base.proofs.CellLaws.{length-cell}
use Rattle.bi_blob.specs.Blob.{Header, HoldsTree, IsBlob, Reservation, TreeBlocks, lacks_structure_size, off_dt_struct, totalsize}
use Rattle.bi_blob.specs.Blob.{tree_blocks}
use Rattle.bi_blob.specs.Events.{EncodeEvents, FileEvent, FileNodeEnd, FileNodeProperty, FileNodeStart, file_events, file_events_of}
use Rattle.bi_blob.specs.Tokens.{BeginNode, End, EndNode, Nop, Prop, Token, width}
use Rattle.bi_blob.specs.Tree.{FileNode, Nodes, Root, as_nodes, node, node_count, none}
use Rattle.bi_blob.proofs.Blobs.Headers.{Header-HasNoHeaderFault}
use Rattle.bi_blob.proofs.Blobs.Tokens.{width-at_least}
use Rattle.bi_blob.proofs.Blobs.TokenEncoding.{AreEncodings-length, place_after_all, place_after_all-append}
use Rattle.bi_fit.specs.ImageTree.{children_of}
use Rattle.bi_fit.specs.Names.{images_name}
use Rattle.bi_fit.proofs.Meanings.{begins_with_magic}
use Rattle.bi_legacy.proofs.MeansNoFault.{means_no_fault}
use Rattle.bi_norm.specs.Meaning.{Meaning, OfLegacy, OfFit, Means}
use Rattle.bi_norm.proofs.FilesWithoutMeaning.{means_legacy}
use Rattle.bi_common.specs.Offsets.{input_from}
use Rattle.bi_report.specs.ScanLaws.{FoundImagesAreFew}
use Rattle.bi_report.specs.Scanning.{ClaimsNothing, IsClaim, IsFoundAt, OfBlob, OfData, ScannedImage, WithImage, WithoutImage, all_found}
use Rattle.bi_report.proofs.ScanClaims.{one_claim}
use Rattle.bi_report.proofs.ScannedLines.{HasNoImage}

-- Each image that is accepted claims 64 bytes at least, so a scan finds few.

-- ---- the least size of a flattened image tree

-- How many bytes the token of an event has at least.
abbrev least_width : FileEvent → ℕ
least_width (FileNodeStart place name) = 8
least_width (FileNodeProperty property) = 0
least_width FileNodeEnd = 4

abbrev least_widths : List FileEvent → ℕ
least_widths [] = 0
least_widths (event ∷ later) = least_width event + least_widths later

least_widths-append : (events later : List FileEvent) → least_widths (events ++ later) ≡ least_widths events + least_widths later
least_widths-append [] later = omega arith
least_widths-append (event ∷ events) later = omega (arith, least_widths-append events later)

-- Each node has two tokens.
nodes_are_wide : (nodes : Nodes FileNode) → 12 * node_count nodes ≤ least_widths (file_events nodes)
nodes_are_wide none = omega arith
nodes_are_wide (node name own children later) = search (rules, least_widths-append, nodes_are_wide children, nodes_are_wide later)

begin_is_wide : (name : List ℕ) → 8 ≤ width (BeginNode name)
begin_is_wide name = omega (arith, length-append (cell 1) (name ++ 0 ∷ []), length-append name (0 ∷ []), length-cell 1)

-- Tokens that encode events have so many bytes.
tokens_are_wide : (strings : List ℕ) (at : ℕ) (tokens : List Token) (events : List FileEvent) → EncodeEvents strings at tokens events →
    at + least_widths events ≤ place_after_all at tokens
tokens_are_wide strings at [] [] encodes = omega arith
tokens_are_wide strings at (Nop ∷ tokens) events encodes =
    omega (arith, tokens_are_wide strings (at + width Nop) tokens events encodes)
tokens_are_wide strings at (BeginNode token_name ∷ tokens) (FileNodeStart place name ∷ later) encodes =
    omega (arith, tokens_are_wide strings (at + width (BeginNode token_name)) tokens later encodes.1, begin_is_wide token_name)
tokens_are_wide strings at (Prop offset value ∷ tokens) (FileNodeProperty property ∷ later) encodes =
    omega (arith, tokens_are_wide strings (at + width (Prop offset value)) tokens later encodes.1)
tokens_are_wide strings at (EndNode ∷ tokens) (FileNodeEnd ∷ later) encodes =
    omega (arith, tokens_are_wide strings (at + width EndNode) tokens later encodes, (width-at_least EndNode).0)
tokens_are_wide strings at tokens events encodes = absurd encodes

-- A root with a child `images` has a child.
has_child : (nodes images : Nodes FileNode) → children_of images_name nodes ≡ Some images → 1 ≤ node_count nodes
has_child none images has = absurd cc
has_child (node name own children later) images has = omega arith

blob_is_wide : (file : List ℕ) (cpu : ℕ) (reservations : List Reservation) (root : Root FileNode) → IsBlob file cpu reservations root →
    1 ≤ node_count root.children → 64 ≤ totalsize file
blob_is_wide file cpu reservations root blob child =
    omega (
      arith,
      after_header (lacks_structure_size file) head.structure_after_header,
      head.structure_within,
      child,
      nodes_are_wide (as_nodes root),
      tokens_are_wide blocks.strings blocks.begin held.tokens (file_events_of root) held.encodes,
      AreEncodings-length blocks.begin (held.tokens ++ End ∷ []) held.structure held.is_encoded,
      place_after_all-append blocks.begin held.tokens (End ∷ []),
      (width-at_least End).0,
      ap length held.is_at,
      length-append held.structure held.trailing,
      length-take (blocks.end - blocks.begin) (drop blocks.begin file),
    )
  where
    head : Header file
    head = blob.header

    blocks : TreeBlocks
    blocks = tree_blocks file

    held : HoldsTree (tree_blocks file) root
    held = blob.holds

    after_header : (lacks : Bool) → (if lacks then 36 else 40) ≤ off_dt_struct file → 36 ≤ off_dt_struct file
    after_header true after = omega (arith, after)
    after_header false after = omega (arith, after)

-- ---- claims

-- What an accepted image claims.
accepted_claim : (limits : Limits) (image : List ℕ) (meaning : Meaning) → Means limits image meaning →
    (claim : ℕ) × IsClaim image claim × (64 ≤ claim)
accepted_claim limits image (OfLegacy legacy_image) means =
    let fine = (means_no_fault image legacy_image limits means).1.1.1 in (
      64 + u32_at image 12,
      OfData (record { begins = means_legacy limits image legacy_image means; passes = (fine.0, (fine.1.0, (fine.1.1.0, tt))) }) refl,
      omega arith,
    )
accepted_claim limits image (OfFit tree) means =
    let fine = Header-HasNoHeaderFault limits image means.within.short means.is_file.blob.header in (
      totalsize image,
      OfBlob
          (record { begins = record { whole = fine.1.0; magic = begins_with_magic image tree means.is_file }; passes = fine.1.1.1 })
          refl,
      blob_is_wide image tree.cpu tree.reservations means.is_file.root means.is_file.blob
          (has_child means.is_file.root.children means.is_file.images means.is_file.has_images),
    )

-- So an image that claims nothing is not accepted.
pub no_claim_no_image : (limits : Limits) (input : List ℕ) (from end : ℕ) → ClaimsNothing input from end → HasNoImage limits input from end
no_claim_no_image limits input from end nothing offset after before meaning means = search (rules, accepted_claim, one_claim)

-- An image that is found claims 64 bytes or more.
found_claims : (limits : Limits) (input : List ℕ) (offset : ℕ) (found : List ScannedImage) (claim : ℕ) →
    IsFoundAt limits input offset found → IsClaim (input_from offset input) claim → 64 * length found ≤ claim
found_claims limits input offset found claim (WithImage extent meaning is same) claims = search (rules, accepted_claim, one_claim)
found_claims limits input offset found claim (WithoutImage nothing same) claims = rw same (omega arith)

all_claim : (limits : Limits) (input offsets : List ℕ) (found : List (List ScannedImage)) (claims : List ℕ) →
    AllZip (IsFoundAt limits input) offsets found → AllZip (λ offset. IsClaim (input_from offset input)) offsets claims →
    64 * length (all_found found) ≤ sum claims
all_claim limits input [] [] [] are are_too = omega arith
all_claim limits input [] (first ∷ found) claims are are_too = absurd are
all_claim limits input [] [] (claim ∷ claims) are are_too = absurd are_too
all_claim limits input (offset ∷ offsets) [] claims are are_too = absurd are
all_claim limits input (offset ∷ offsets) (first ∷ found) [] are are_too = absurd are_too
all_claim limits input (offset ∷ offsets) (first ∷ found) (claim ∷ claims) are are_too =
    omega (
      arith,
      all_claim limits input offsets found claims are.1 are_too.1,
      found_claims limits input offset first claim are.0 are_too.0,
      length-append first (all_found found),
      sum_by-cons (λ (claim : ℕ). claim) claim claims,
    )

pub found_images_are_few : FoundImagesAreFew
found_images_are_few format limits input text is = search (rules, all_claim)
