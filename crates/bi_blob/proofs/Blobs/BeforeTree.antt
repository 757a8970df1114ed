use Rattle.std.proofs.Common.{◌⊎◌, List, ℕ, inl, inr, rules}
use Rattle.bi_base.specs.declared.fault.Fault.{Fault}
use Rattle.bi_base.specs.Limits.{Limits}
use Rattle.bi_blob.specs.Blob.{off_mem_rsvmap, totalsize, tree_blocks}
use Rattle.bi_blob.specs.BlobFaults.{HasNoHeaderFault, IsHeaderFault, HasNoFaultBeforeTree}
use Rattle.bi_blob.specs.BlobFaults.{IsFaultBeforeTree, IsStructureFault, IsBlobFault, InHeader, InReservations, InStructure}
use Rattle.bi_blob.specs.BlobLaws.{FaultBeforeTreeComesFirst}
use Rattle.bi_base.proofs.FirstFault.{not_both, fault_or_none}
use Rattle.bi_blob.proofs.Blobs.TestedChecks.{header_decided}
use Rattle.bi_blob.proofs.Blobs.Headers.{HasNoHeaderFault-Header}
use Rattle.bi_blob.proofs.Blobs.ReservationFaults.{HasSomeOrFault, reservations_or_fault, no_reservations_with_fault}

-- A fault of a file before its structure block is the fault of the file, and comes first.

-- A file has no fault before the tree, or has one.
before_tree : (bounds : Limits) (file : List ℕ) → HasNoFaultBeforeTree bounds file ⊎ ((fault : Fault) × IsFaultBeforeTree bounds file fault)
before_tree bounds file = by_header (search (rules, fault_or_none, header_decided))
  where
    by_reservations : HasNoHeaderFault bounds file → HasSomeOrFault file (off_mem_rsvmap file) (totalsize file) →
        HasNoFaultBeforeTree bounds file ⊎ ((fault : Fault) × IsFaultBeforeTree bounds file fault)
    by_reservations fine (inl some) = inl (record { header = fine; count = some.count; reservations = some.has })
    by_reservations fine (inr faulty) = inr (faulty.0, inr (fine, faulty.1))

    by_header : HasNoHeaderFault bounds file ⊎ ((fault : Fault) × IsHeaderFault bounds file fault) →
        HasNoFaultBeforeTree bounds file ⊎ ((fault : Fault) × IsFaultBeforeTree bounds file fault)
    by_header (inl fine) =
        by_reservations fine (reservations_or_fault file (off_mem_rsvmap file) (totalsize file)
        (HasNoHeaderFault-Header bounds file fine).reservations_within)
    by_header (inr first) = inr (first.0, inl first.1)

-- Not both.
not_both_before : (bounds : Limits) (file : List ℕ) (fault : Fault) → HasNoFaultBeforeTree bounds file →
    IsFaultBeforeTree bounds file fault → ⊥
not_both_before bounds file fault fine (inl first) = search (rules, not_both)
not_both_before bounds file fault fine (inr faulty) = search (rules, no_reservations_with_fault)

-- A fault before the tree is the fault of the file.
pub first_fault : (bounds : Limits) (file : List ℕ) (fault : Fault) → IsFaultBeforeTree bounds file fault → IsBlobFault bounds file fault
first_fault bounds file fault (inl first) = InHeader first
first_fault bounds file fault (inr faulty) = InReservations faulty.0 faulty.1

-- Where there is none, the fault of the file is in its structure block.
structure_fault : (bounds : Limits) (file : List ℕ) (fault : Fault) → HasNoFaultBeforeTree bounds file → IsBlobFault bounds file fault →
    IsStructureFault (tree_blocks file) bounds.depth fault
structure_fault bounds file fault fine (InHeader first) = absurd (not_both_before bounds file fault fine (inl first))
structure_fault bounds file fault fine (InReservations header faulty) = search (rules, not_both_before)
structure_fault bounds file fault fine (InStructure header count has faulty) = faulty

-- The faults before the tree come first.
pub fault_before_tree_comes_first : FaultBeforeTreeComesFirst
fault_before_tree_comes_first bounds file = search (rules, before_tree, not_both_before, first_fault, structure_fault)
