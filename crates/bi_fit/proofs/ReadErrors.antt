use Rattle.std.proofs.Common.{◌⊎◌, ℕ, List, inl, inr, rules}
use Rattle.bi_base.specs.declared.fault.Error.{Error}
use Rattle.bi_base.specs.declared.fault.Error.TheVariants.{Refused, OutOfMemory, ReadFailed, WriteFailed}
use Rattle.bi_base.specs.declared.fault.Fault.{Fault}
use Rattle.bi_base.specs.Limits.{Limits}
use Rattle.bi_blob.specs.BlobFaults.{HasNoFaultBeforeTree, IsFaultBeforeTree, IsBlobFault}
use Rattle.bi_blob.proofs.Blobs.BeforeTree.{fault_before_tree_comes_first}
use Rattle.bi_fdt.specs.ReadBlobs.{IsBlobReadError}
use Rattle.bi_fit.specs.Faults.{IsFitFault, InBlob}
use Rattle.bi_fit.specs.Reading.{IsOnlyFitFault, IsFitReadError}
use Rattle.bi_fit.proofs.Faults.{one_fit_fault, fit_has_no_fault}

-- The fault of a file is its only one, and an error of reading the blob is one of reading the flattened image tree.

-- A fault of a file is its only one.
pub only_fit_fault : (limits : Limits) (file : List ℕ) (fault : Fault) → IsFitFault limits file fault → IsOnlyFitFault limits file fault
only_fit_fault limits file fault is = search (rules, one_fit_fault, fit_has_no_fault)

-- An error of reading the blob is one of reading the flattened image tree.
pub blob_error : (limits : Limits) (file : List ℕ) (error : Error) → IsBlobReadError limits file error → IsFitReadError limits file error
blob_error limits file (Refused fault) is = only_fit_fault limits file fault (InBlob is.is_fault)
blob_error limits file OutOfMemory is = is
blob_error limits file ReadFailed is = is
blob_error limits file WriteFailed is = is

-- A blob without a fault has none before its tree.
pub none_before_tree : (limits : Limits) (file : List ℕ) → ((fault : Fault) → ¬ (IsBlobFault limits file fault)) →
    HasNoFaultBeforeTree limits file
none_before_tree limits file no_fault = by (fault_before_tree_comes_first limits file).decided where
  by : HasNoFaultBeforeTree limits file ⊎ ((fault : Fault) × IsFaultBeforeTree limits file fault) → HasNoFaultBeforeTree limits file
  by (inl fine) = fine
  by (inr faulty) = absurd (no_fault faulty.0 ((fault_before_tree_comes_first limits file).first faulty.0 faulty.1))
