use Rattle.std.specs.Prelude.{◌≡◌, List, ℕ}
use Rattle.bi_base.specs.Errors.{FailsWith}
use Rattle.bi_base.specs.Limits.{Limits}
use Rattle.bi_base.specs.declared.fault.Error.{Error}
use Rattle.bi_base.specs.declared.fault.Fault.{Fault}
use Rattle.bi_blob.specs.Tree.{Root, FileNode}
use Rattle.bi_blob.specs.Blob.{Reservation, IsBlob, IsBlobWithin, totalsize}
use Rattle.bi_blob.specs.BlobFaults.{HasNoFaultBeforeTree, IsBlobFault}
use Rattle.bi_blob.specs.BlobLaws.{SameContent}
use Rattle.bi_fdt.specs.Content.{Blob, root_of}

-- What reading a blob returns.

-- The blob was read from this file: within the limits the file holds this blob and no other, and it
-- has no fault under them.
pub record IsReadBlob (limits : Limits) (file : List ℕ) (blob : Blob) : Type 0 where
  pub is_file : blob.file ≡ file
  pub size : blob.total_size ≡ totalsize file
  pub means : IsBlob file blob.cpu blob.reservations (root_of blob)
  pub within : IsBlobWithin limits file
  pub only : (cpu : ℕ) (reservations : List Reservation) (root : Root FileNode)
      → IsBlob file cpu reservations root
      → SameContent blob.cpu cpu blob.reservations reservations (root_of blob) root
  pub no_fault : (fault : Fault) → ¬ (IsBlobFault limits file fault)

-- The file has this fault and no other, and is not a blob within the limits.
pub record IsOnlyBlobFault (limits : Limits) (file : List ℕ) (fault : Fault) : Type 0 where
  pub is_fault : IsBlobFault limits file fault
  pub only : (other : Fault) → IsBlobFault limits file other → other ≡ fault
  pub means_nothing : ¬ (IsBlobWithin limits file)

-- The error of reading a file: its fault; or that memory ran out, which happens only if the header
-- and the memory reservation block have no fault.
abbrev pub IsBlobReadError : Limits → List ℕ → Error → Type 0
IsBlobReadError limits file =
    FailsWith (IsOnlyBlobFault limits file) (HasNoFaultBeforeTree limits file)
