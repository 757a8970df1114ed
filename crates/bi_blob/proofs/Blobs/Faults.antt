use Rattle.std.proofs.Common.{◌⊎◌, ℕ, List, length, inl, inr, rules}
use Rattle.bi_base.specs.declared.fault.Fault.{Fault}
use Rattle.bi_base.specs.Cells.{AreBytes}
use Rattle.bi_base.specs.Limits.{Limits}
use Rattle.bi_blob.specs.Tokens.{Token}
use Rattle.bi_blob.specs.Blob.{Header, IsBlobWithin, tree_blocks, off_mem_rsvmap, totalsize, boot_cpuid_phys, reservations_at}
use Rattle.bi_blob.specs.BlobFaults.{HeaderPasses, header_checks, header_fault, HasNoHeaderFault, IsHeaderFault, HasReservations}
use Rattle.bi_blob.specs.BlobFaults.{IsStructureFault, IsBlobFault, InHeader, InReservations, InStructure}
use Rattle.bi_blob.specs.BlobLaws.{BlobHasNoFault, OneBlobFault, BlobOrFault, BlobWhereNoFault}
use Rattle.bi_base.proofs.FirstFault.{one_fault, not_both, fault_or_none}
use Rattle.bi_blob.proofs.Blobs.TestedChecks.{header_decided}
use Rattle.bi_blob.proofs.Blobs.Headers.{HasNoHeaderFault-Header, Header-HasNoHeaderFault, Header-IsReadable}
use Rattle.bi_blob.proofs.Blobs.ReservationFaults.{HasSomeOrFault, reservations_or_fault, one_reservations_fault}
use Rattle.bi_blob.proofs.Blobs.ReservationFaults.{no_reservations_with_fault, HasReservations-BeginsWithReservations}
use Rattle.bi_blob.proofs.Blobs.ReservationFaults.{BeginsWithReservations-HasReservations}
use Rattle.bi_blob.proofs.Blobs.TreeOrFault.{HasTree, tree_or_fault}
use Rattle.bi_blob.proofs.Blobs.OneFault.{IsEnded, one_structure_fault, no_fault_in_ended}
use Rattle.bi_blob.proofs.Blobs.BlockEnds.{tree_ends}

-- Proves that a file is a blob within limits if and only if it has no fault under them, and that it has at most one fault.

-- A blob's header has no fault, nor do its reservations, nor does its structure block.
pub blob_has_no_fault : BlobHasNoFault
blob_has_no_fault bounds file fault within (InHeader first) = search (rules, not_both, Header-HasNoHeaderFault)
blob_has_no_fault bounds file fault within (InReservations fine faulty) =
    let header : Header file = within.blob.header in
    no_reservations_with_fault file (off_mem_rsvmap file) (totalsize file) (length within.reservations) fault
    (search (rules, BeginsWithReservations-HasReservations))
    faulty
blob_has_no_fault bounds file fault within (InStructure fine count has faulty) =
    let ends : (tokens : List Token) × IsEnded (tree_blocks file) bounds.depth tokens =
    tree_ends (tree_blocks file) bounds.depth within.root within.blob.holds within.blob.header.structure_ordered within.within.shallow in
    no_fault_in_ended (tree_blocks file) bounds.depth ends.0 fault ends.1 faulty

-- A header has no fault where its checks pass.
no_fault_or_fault : (bounds : Limits) (file : List ℕ) (fault : Fault) → HasNoHeaderFault bounds file → IsHeaderFault bounds file fault → ⊥
no_fault_or_fault bounds file fault fine first = not_both (HeaderPasses bounds file) (header_fault bounds) header_checks fault fine first

pub one_blob_fault : OneBlobFault
one_blob_fault bounds file f g (InHeader one) (InHeader other) = search (rules, one_fault)
one_blob_fault bounds file f g (InHeader one) (InReservations fine other) = absurd (no_fault_or_fault bounds file f fine one)
one_blob_fault bounds file f g (InHeader one) (InStructure fine count has other) = absurd (no_fault_or_fault bounds file f fine one)
one_blob_fault bounds file f g (InReservations fine one) (InHeader other) = absurd (no_fault_or_fault bounds file g fine other)
one_blob_fault bounds file f g (InReservations fine one) (InReservations too other) =
    one_reservations_fault file (off_mem_rsvmap file) (totalsize file) f g one other
one_blob_fault bounds file f g (InReservations fine one) (InStructure too count has other) = search (rules, no_reservations_with_fault)
one_blob_fault bounds file f g (InStructure fine count has one) (InHeader other) = absurd (no_fault_or_fault bounds file g fine other)
one_blob_fault bounds file f g (InStructure fine count has one) (InReservations too other) = search (rules, no_reservations_with_fault)
one_blob_fault bounds file f g (InStructure fine count has one) (InStructure too other_count has_too other) =
    one_structure_fault (tree_blocks file) bounds.depth f g one other

-- A file with a header without fault, reservations and a tree is a blob within the limits.
pub blob_of_parts : (bounds : Limits) (file : List ℕ) (count : ℕ) → AreBytes file → HasNoHeaderFault bounds file →
    HasReservations file (off_mem_rsvmap file) (totalsize file) count → HasTree (tree_blocks file) bounds.depth → IsBlobWithin bounds file
blob_of_parts bounds file count bytes fine has tree =
    let header : Header file = HasNoHeaderFault-Header bounds file fine in
    record {
      cpu = boot_cpuid_phys file;
      reservations = reservations_at file (off_mem_rsvmap file) count;
      root = tree.root;
      blob = search (rules, HasReservations-BeginsWithReservations);
      within = record { short = fine.0; shallow = tree.shallow };
    }

pub blob_or_fault : BlobOrFault
blob_or_fault bounds file bytes =
    by_header (fault_or_none (HeaderPasses bounds file) (header_fault bounds) (header_decided bounds file) header_checks) where
      Outcome : Type 0
      Outcome = IsBlobWithin bounds file ⊎ ((fault : Fault) × IsBlobFault bounds file fault)

      by_tree : HasNoHeaderFault bounds file → (count : ℕ) → HasReservations file (off_mem_rsvmap file) (totalsize file) count
          → HasTree (tree_blocks file) bounds.depth ⊎ ((fault : Fault) × IsStructureFault (tree_blocks file) bounds.depth fault) → Outcome
      by_tree fine count has (inl tree) = inl (blob_of_parts bounds file count bytes fine has tree)
      by_tree fine count has (inr faulty) = inr (faulty.0, InStructure fine count has faulty.1)

      by_reservations : HasNoHeaderFault bounds file → HasSomeOrFault file (off_mem_rsvmap file) (totalsize file) → Outcome
      by_reservations fine (inl some) =
          by_tree fine some.count some.has
          (tree_or_fault (tree_blocks file) bounds.depth (Header-IsReadable file bytes (HasNoHeaderFault-Header bounds file fine)))
      by_reservations fine (inr faulty) = inr (faulty.0, InReservations fine faulty.1)

      by_header : HasNoHeaderFault bounds file ⊎ ((fault : Fault) × IsHeaderFault bounds file fault) → Outcome
      by_header (inl fine) =
          by_reservations fine (reservations_or_fault file (off_mem_rsvmap file) (totalsize file)
          (HasNoHeaderFault-Header bounds file fine).reservations_within)
      by_header (inr first) = inr (first.0, InHeader first.1)

pub blob_where_no_fault : BlobWhereNoFault
blob_where_no_fault bounds file bytes = (
  (λ within fault faulty. blob_has_no_fault bounds file fault within faulty),
  (λ none. elim (blob_or_fault bounds file bytes) [ inl within ↦ within | inr faulty ↦ absurd (none faulty.0 faulty.1) ]),
)
