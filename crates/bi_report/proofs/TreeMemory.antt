use Rattle.std.proofs.Common.{◌⊎◌, ℕ, List, inl, inr, arith}
use Rattle.bi_base.specs.declared.fault.Fault.{Fault}
use Rattle.bi_base.specs.Limits.{Limits}
use Rattle.bi_blob.specs.BlobFaults.{HasNoFaultBeforeTree, IsFaultBeforeTree}
use Rattle.bi_blob.proofs.Blobs.BeforeTree.{fault_before_tree_comes_first}
use Rattle.bi_fit.specs.Content.{FitModel}
use Rattle.bi_fit.specs.Faults.{InBlob}
use Rattle.bi_fit.specs.Reading.{IsReadFit}
use Rattle.bi_norm.specs.declared.kind.Kind.TheVariants.{Legacy}
use Rattle.bi_norm.specs.Kinds.{BeginsAs}
use Rattle.bi_norm.specs.Reading.{NeedsMemory, ForTree}

-- When memory may run out while a file is read.

-- Memory may run out for a flattened image tree that was read from a file.
pub tree_needs_memory : (limits : Limits) (file : List ℕ) (content : FitModel) → IsReadFit limits file content → NeedsMemory limits file
tree_needs_memory limits file content read =
    ForTree other_kind (by (fault_before_tree_comes_first limits file).decided)
  where
    other_kind : ¬ (BeginsAs file Legacy)
    other_kind begins = omega (arith, begins.magic, read.means.is_file.blob.header.is_magic)

    by : HasNoFaultBeforeTree limits file ⊎ ((fault : Fault) × IsFaultBeforeTree limits file fault) → HasNoFaultBeforeTree limits file
    by (inl fine) = fine
    by (inr faulty) = absurd (read.no_fault faulty.0 (InBlob ((fault_before_tree_comes_first limits file).first faulty.0 faulty.1)))
