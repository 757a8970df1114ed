use Rattle.std.proofs.Common.{◌≡◌, ◌==◌, ℕ, Bool, true, false, List, [], ◌∷◌, Some, None, bytes_eq, refl, subst, sym}
use Rattle.std.specs.List.{AllByRecursion}
use Rattle.bi_base.specs.declared.fault.Error.{Error}
use Rattle.bi_base.specs.Limits.{Limits, IsInRange}
use Rattle.bi_blob.specs.Lookups.{Sibling, property_named, root_node}
use Rattle.bi_blob.specs.Tree.{FileNode, FileProperty, Root}
use Rattle.bi_fdt.specs.Content.{root_of}
use Rattle.bi_fit.specs.Content.{FitModel, tree_of}
use Rattle.bi_fit.specs.Reading.{IsReadFit, IsFitReadError}
use Rattle.bi_fit.proofs.Meanings.{same_in_some}
use Rattle.bi_c.specs.declared.failure.Failure.{Failure}
use Rattle.bi_c.specs.declared.failure.Failure.TheVariants.{NotFound}
use Rattle.bi_c.specs.Answers.{failure_of_error}
use Rattle.bi_c.specs.Arguments.{bounds}
use Rattle.bi_c.specs.Calls.{IsTreeFailure}
use Rattle.bi_c.specs.NodeElements.{HasNodeAtPath, IsNodeFailure, names_after_slash, node_at_path}
use Rattle.bi_c.specs.TreeRegions.{HasPropertyBytes}
use Rattle.bi_c.proofs.FitFiles.{means_within, tree_failed}
use Rattle.bi_c.proofs.TreeRegions.{HasBytesBelow, below_bytes, root_bytes}
use Rattle.bi_c.specs.Checks.{LimitsCheck}

-- If a file was read under the limits of a call, the node at a path is that of the file.

pub has_node : (limit depth : ℕ) (file path : List ℕ) (limits : Limits) (content : FitModel) (found : Sibling FileNode) →
    limits ≡ bounds limit depth → IsReadFit limits file content → node_at_path (root_node (root_of content.blob)) path ≡ Some found →
    HasNodeAtPath (bounds limit depth) file path found
has_node limit depth file path limits content found same read is = record {
  tree = tree_of content;
  means = means_within limit depth file limits content same read;
  is_found = subst (λ (root : Root FileNode). node_at_path (root_node root) path ≡ Some found) (sym read.same_root) is;
}

-- If what was read has no node at a path, the file has none, and the call fails.
pub no_node : (limit depth : ℕ) (file path : List ℕ) (limits : Limits) (content : FitModel) → IsInRange limit depth →
    limits ≡ bounds limit depth → IsReadFit limits file content → node_at_path (root_node (root_of content.blob)) path ≡ None →
    IsNodeFailure limit depth file path (NotFound 10 0)
no_node limit depth file path limits content in_range same read is = (
  in_range,
  (
    refl,
    refl,
    record {
      tree = tree_of content;
      means = means_within limit depth file limits content same read;
      is_lacking = subst (λ (root : Root FileNode). node_at_path (root_node root) path ≡ None) (sym read.same_root) is;
    },
  ),
)

-- The file has the names and the values of the node at their places, and the names of the nodes below it.
pub node_bytes : (file path : List ℕ) (limits : Limits) (content : FitModel) (found : Sibling FileNode) → IsReadFit limits file content →
    node_at_path (root_node (root_of content.blob)) path ≡ Some found → HasBytesBelow file found
node_bytes file [] limits content found read is = absurd cc
node_bytes file (first ∷ rest) limits content found read is = by (first == 47) refl
  where
    below : HasBytesBelow file (root_node (root_of content.blob))
    below = subst (λ (root : Root FileNode). HasBytesBelow file (root_node root)) read.same_root
        (root_bytes file content.blob.cpu content.blob.reservations read.means.is_file.root read.means.is_file.blob)

    by : (slash : Bool) → (first == 47) ≡ slash → HasBytesBelow file found
    by true slash =
        below_bytes file (Some (root_node (root_of content.blob))) (names_after_slash rest) found
        (λ start is. let same : root_node (root_of content.blob) ≡ start = cc in subst (HasBytesBelow file) same below) (rw slash at is)
    by false slash = absurd (let e : None ≡ Some found = rw slash at is in cc)

-- A property that is found by its name has its name and its value in the file.
pub named_property : (file name : List ℕ) (properties : List FileProperty) (property : FileProperty) →
    property_named properties name ≡ Some property → AllByRecursion (HasPropertyBytes file) properties → HasPropertyBytes file property
named_property file name [] property is have = absurd cc
named_property file name (first ∷ later) property is have =
    by (bytes_eq first.name name) refl (λ is. named_property file name later property is have.1)
  where
    by : (b : Bool) → bytes_eq first.name name ≡ b → (property_named later name ≡ Some property → HasPropertyBytes file property) →
        HasPropertyBytes file property
    by true is_name rest = subst (HasPropertyBytes file) (same_in_some first property (rw is_name at is)) have.0
    by false is_name rest = rest (rw is_name at is)

-- If a call with valid limits cannot read the file, it fails as reading fails.
pub node_read_failed : (limit depth : ℕ) (file : List ℕ) (IsReason : ℕ → ℕ → Type 0) (limits : Limits) (cause : Error)
    (failure : Failure) → IsInRange limit depth → limits ≡ bounds limit depth → failure ≡ failure_of_error cause →
    IsFitReadError limits file cause → IsTreeFailure (LimitsCheck limit depth) (bounds limit depth) file IsReason failure
node_read_failed limit depth file IsReason limits cause failure in_range same_limits same is =
    tree_failed (LimitsCheck limit depth) (bounds limit depth) file IsReason cause failure in_range same
    (subst (λ (l : Limits). IsFitReadError l file cause) same_limits is)
