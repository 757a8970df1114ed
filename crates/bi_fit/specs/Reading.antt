use Rattle.std.specs.Prelude.{◌≡◌, ℕ, List}
use Rattle.bi_base.specs.Errors.{FailsWith}
use Rattle.bi_base.specs.declared.fault.Error.{Error}
use Rattle.bi_base.specs.declared.fault.Fault.{Fault}
use Rattle.bi_base.specs.Limits.{Limits}
use Rattle.bi_blob.specs.BlobFaults.{HasNoFaultBeforeTree}
use Rattle.bi_fdt.specs.Content.{root_of}
use Rattle.bi_fit.specs.ImageTree.{ImageTree}
use Rattle.bi_fit.specs.File.{FitMeans}
use Rattle.bi_fit.specs.Faults.{IsFitFault}
use Rattle.bi_fit.specs.Content.{FitModel, tree_of, IsHeld}

-- What reading a flattened image tree returns.

-- The flattened image tree was read from this file: the file means it and nothing else within the
-- limits, and has no fault under them.
pub record IsReadFit (limits : Limits) (file : List ℕ) (content : FitModel) : Type 0 where
  pub is_file : content.blob.file ≡ file
  pub held : IsHeld content
  pub means : FitMeans limits file (tree_of content)
  pub same_root : means.is_file.root ≡ root_of content.blob
  pub only : (other : ImageTree) → FitMeans limits file other → other ≡ tree_of content
  pub no_fault : (fault : Fault) → ¬ (IsFitFault limits file fault)

-- The file has this fault and no other, and is not a flattened image tree within the limits.
pub record IsOnlyFitFault (limits : Limits) (file : List ℕ) (fault : Fault) : Type 0 where
  pub is_fault : IsFitFault limits file fault
  pub only : (other : Fault) → IsFitFault limits file other → other ≡ fault
  pub means_nothing : (tree : ImageTree) → ¬ (FitMeans limits file tree)

-- The error of reading a file: its fault; or that memory ran out, which happens only if the header
-- and the memory reservation block have no fault.
abbrev pub IsFitReadError : Limits → List ℕ → Error → Type 0
IsFitReadError limits file =
    FailsWith (IsOnlyFitFault limits file) (HasNoFaultBeforeTree limits file)
