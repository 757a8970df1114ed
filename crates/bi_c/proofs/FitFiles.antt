use Rattle.std.proofs.Common.{◌≡◌, ℕ, List, Option, None, refl, subst, sym}
use Rattle.std.specs.List.{AllByRecursion}
use Rattle.bi_base.specs.declared.fault.Error.{Error}
use Rattle.bi_base.specs.declared.fault.Error.TheVariants as error
use Rattle.bi_base.specs.Limits.{Limits}
use Rattle.bi_blob.specs.Blob.{IsWithin}
use Rattle.bi_blob.specs.Lookups.{node_named}
use Rattle.bi_blob.proofs.Blobs.Faults.{blob_has_no_fault}
use Rattle.bi_fit.specs.Content.{FitModel, tree_of}
use Rattle.bi_fit.specs.File.{FitMeans}
use Rattle.bi_fit.specs.Names.{configurations_name}
use Rattle.bi_fit.specs.Reading.{IsReadFit, IsFitReadError}
use Rattle.bi_fit.proofs.ReadErrors.{none_before_tree}
use Rattle.bi_c.specs.declared.failure.Failure.{Failure}
use Rattle.bi_c.specs.Answers.{failure_of_error}
use Rattle.bi_c.specs.Arguments.{bounds}
use Rattle.bi_c.specs.Calls.{IsTreeFailure}
use Rattle.bi_c.specs.FitElements.{configuration_siblings}
use Rattle.bi_c.specs.TreeRegions.{HasNameBytes}
use Rattle.bi_c.proofs.TreeRegions.{root_bytes, children_names}
use Rattle.bi_c.specs.declared.argument.Argument.{Argument}

-- If a file was read under the limits of a call, it means what was read.

abbrev pub means_within : (limit depth : ℕ) (file : List ℕ) (limits : Limits) (content : FitModel) → limits ≡ bounds limit depth →
    IsReadFit limits file content → FitMeans (bounds limit depth) file (tree_of content)
means_within limit depth file limits content same read = record {
  is_file = read.means.is_file;
  within = subst (λ (l : Limits). IsWithin l file read.means.is_file.root) same read.means.within;
}

-- A call may fail because memory runs out.
pub read_needs_memory : (limits : Limits) (file : List ℕ) (content : FitModel) → IsReadFit limits file content →
    IsFitReadError limits file error.OutOfMemory
read_needs_memory limits file content read =
    none_before_tree limits file (λ fault. blob_has_no_fault limits file fault (record {
      cpu = content.blob.cpu;
      reservations = content.blob.reservations;
      root = read.means.is_file.root;
      blob = read.means.is_file.blob;
      within = read.means.within;
    }))

-- The configurations that were read are those of the file, and so are their names.
pub configuration_bytes : (limits : Limits) (file : List ℕ) (content : FitModel) (read : IsReadFit limits file content) →
    AllByRecursion (HasNameBytes file) (configuration_siblings read.means.is_file.root)
configuration_bytes limits file content read =
    let is = read.means.is_file in
    children_names file configurations_name is.root.children (node_named is.root.children configurations_name) refl
    (root_bytes file content.blob.cpu content.blob.reservations is.root is.blob).1

-- If a call on a FIT cannot read the file, it fails as reading fails.
pub tree_failed : (Check : Option (Argument × ℕ) → Type 0) (limits : Limits) (file : List ℕ) (IsReason : ℕ → ℕ → Type 0) (cause : Error)
    (failure : Failure) →
    Check None → failure ≡ failure_of_error cause → IsFitReadError limits file cause → IsTreeFailure Check limits file IsReason failure
tree_failed Check limits file IsReason cause failure valid same is =
    subst (IsTreeFailure Check limits file IsReason) (sym same) (by cause is)
  where
    by : (cause : Error) → IsFitReadError limits file cause → IsTreeFailure Check limits file IsReason (failure_of_error cause)
    by (error.Refused fault) is = (valid, refl, is)
    by error.OutOfMemory is = (valid, is)
    by error.ReadFailed is = absurd is
    by error.WriteFailed is = absurd is
